-- The links of a part of the dependencies, as that part's own. Assumes nothing.
use Rattle.std.proofs.Common.{ℕ, zero, suc, ◌+◌, ◌<◌, ◌≤◌, ◌≡◌, refl, ap, ap₂, ◌∙◌, arith, List, length, get_or, take, drop, length-take, length-drop, get_or-take, get_or-drop}
use Rattle.merge_state.specs.declared.Sizes.{Sizes}
use Rattle.merge_area.specs.Layout.{cell, home}
use Rattle.merge_area.specs.Writes.{link, linked}
use Rattle.merge_laws.specs.Can.{CanLinked}

module _ (deps : List ℕ) (from n : ℕ) (inside : from + n ≤ length deps) where
  abbrev part : List ℕ
  part = take n (drop from deps)

  part_length : length part ≡ n
  part_length = simp (length-take, length-drop) (omega arith)

  part-at : (i : ℕ) → i < n → get_or part (0 + i) 0 ≡ get_or deps (from + i) 0
  part-at i b = let e : 0 + i ≡ i = omega arith in rw (e, get_or-take, get_or-drop)

  linked_part : (z : Sizes) (x : ℕ) (a : List ℕ) (k : ℕ) → k ≤ n → linked z part x 0 a k ≡ linked z deps x from a k
  unfolding linked
  linked_part z x a zero h = refl
  linked_part z x a (suc k) h = ap₂ (λ r d. link z r x (cell r (home z d))) (linked_part z x a k (omega arith)) (part-at k (omega arith))

  pub all_linked : (z : Sizes) (x : ℕ) (a : List ℕ) {b : List ℕ} → b ≡ linked z part x 0 a (length part) → b ≡ linked z deps x from a n
  all_linked z x a h = h ∙ ap (linked z part x 0 a) part_length ∙ linked_part z x a n (omega arith)

  pub can_part : {z : Sizes} {a : List ℕ} {x : ℕ} → CanLinked z a deps x from n → CanLinked z a part x 0 (length part)
  can_part can = record {
    within = can.within;
    long = can.long;
    chunk = can.chunk;
    homed = can.homed;
    part = omega arith;
    modules = λ i b. let c : i < n = omega (arith, part_length) in let e : 0 + i ≡ i = omega arith in rw (← e) (rw (part-at i c) (can.modules (from + i) (omega arith)));
  }
