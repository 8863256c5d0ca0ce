-- A chunk's modules are those that the definition lists with it. Assumes nothing.
use Rattle.std.specs.Prelude.{ℕ, zero, suc, ◌+◌, ◌-◌, ◌≤◌, ◌<◌, ◌≡◌, refl, List, get_or, length, drop}
use Rattle.std.proofs.Common.{arith, ap, ◌∙◌, length-take, length-drop}
use Rattle.std.proofs.lemmas.List.{get_or-take, get_or-drop}
use Rattle.merge_state.specs.declared.Sizes.{Sizes}
use Rattle.merge_state.specs.State.{flag}
use Rattle.merge_area.specs.Writes.{append_area}
use Rattle.merge_loading.specs.Listing.{Sought, passed-more, seek_done, CanList, Listed, listed-none, list_can, list_more, CanPart, modules_of, with_area, CanListWith}

-- a start is at most the last one
up : (l : List ℕ) (n : ℕ) → ((i : ℕ) → i < n → get_or l i 0 ≤ get_or l (i + 1) 0) → (k i : ℕ) → i + k ≡ n → get_or l i 0 ≤ get_or l n 0
up l n r zero i e = let q : i ≡ n = omega arith in rw q (omega arith)
up l n r (suc k) i e = omega (arith, r i (omega arith), up l n r k (i + 1) (omega arith))

module _ {z : Sizes} {i : ℕ} {starts modules effects a₀ : List ℕ} (can : CanList z i starts modules effects a₀) {x : ℕ} (b : x < i) where
  abbrev from : ℕ
  from = get_or starts x 0

  abbrev to : ℕ
  to = get_or starts (x + 1) 0

  abbrev own : List ℕ
  own = modules_of starts modules x

  pub can_part : CanPart starts modules x
  can_part = record {
    next = omega (arith, can.count);
    rising = can.rising x b;
    ends = omega (arith, up starts i can.rising (i - (x + 1)) (x + 1) (omega arith), can.end);
  }

  own_long : length own ≡ to - from
  own_long = omega (arith, can_part.rising, can_part.ends, length-take (to - from) (drop from modules), length-drop from modules)

  own-at : (j : ℕ) → j < to - from → get_or own j 0 ≡ get_or modules (from + j) 0
  own-at j h = get_or-take (to - from) (drop from modules) j 0 h ∙ get_or-drop from modules j 0

  module _ {a : List ℕ} (l : Listed z i starts modules effects a₀ x from a) where
    sought : (j : ℕ) → j < to - from → Sought starts i (from + j) x
    sought j h =
        seek_done
        (record { count = can.count; begin = can.begin; rising = can.rising; within = omega (arith, can_part.ends, can.end); passed = λ y c. omega (arith, l.passed y c) })
        (omega arith)

    with_listed : (j : ℕ) {k : ℕ} → k ≡ from + j → j ≤ to - from → Listed z i starts modules effects a₀ x k (with_area z x own effects a j)
    unfolding with_area
    with_listed zero {k} e h = let q : k ≡ from = omega arith in rw q l
    with_listed (suc j) {k} e h =
        let q : k ≡ (from + j) + 1 = omega arith in
        rw q (list_more can (with_listed j refl (omega arith)) (sought j (omega arith)) (omega (arith, can_part.ends))
        (ap (λ m. append_area z (with_area z x own effects a j) x m (flag effects m)) (own-at j (omega arith))))

    pub can_list_with : CanListWith z x own effects a
    can_list_with = record {
      append = λ j h.
          let s : j < to - from = omega (arith, own_long) in
          rw (own-at j s) (list_can can (with_listed j refl (omega arith)) (omega (arith, can_part.ends)) (sought j s));
      told = λ j h.
          let s : j < to - from = omega (arith, own_long) in
          omega (arith, own-at j s, can.listed (from + j) (omega (arith, can_part.ends)), can.told);
    }

    -- the next chunk's turn
    pub next_listed : {a' : List ℕ} → a' ≡ with_area z x own effects a (length own) → Listed z i starts modules effects a₀ (x + 1) (get_or starts (x + 1) 0) a'
    next_listed e =
        let v = with_listed (to - from) {k = to} (omega (arith, can_part.rising)) (omega arith) in
        record { most = v.most; passed = passed-more starts i to v.passed (omega arith); area = e ∙ ap (with_area z x own effects a) own_long ∙ v.area }

-- the whole list
module _ {z : Sizes} {i : ℕ} {starts modules effects a₀ : List ℕ} (can : CanList z i starts modules effects a₀) where
  pub first_listed : Listed z i starts modules effects a₀ 0 (get_or starts 0 0) a₀
  first_listed = rw can.begin (listed-none can)
