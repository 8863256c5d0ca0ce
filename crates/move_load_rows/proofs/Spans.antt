-- The dependencies of atom i stand from its start up to the next: so each atom's span, looked through in turn, answers row 5. Assumes nothing.
use Prim.Native.Nat.{ℕ, suc, ◌+◌, ◌-◌, ◌<◌}
use native.Mathlib.Omega.{arith}
use native.Mathlib.Numerals.{add-one}
use native.Mathlib.Decide.{dec_lt}
use mathlib.Core.Path.{◌≡◌, refl, sym, ap, ◌∙◌}
use mathlib.Core.Bool.{Bool, true, false, ◌&&◌}
use mathlib.Core.List.{List}
use lib.Dec.{leb}
use lib.ListN.{length}
use borrow.Author.Tests.{leb-true, le-leb, lt-leb}
use Rattle.graphs.specs.Bools.{and_left, and_right, and_both}
use Rattle.graphs.specs.Lists.{some_take, some_give, some_found, some_none, some_below, none_below, none_left}
use Rattle.move_ledger.specs.Graph.{Load, at, owner}
use Rattle.move_ledger.specs.Loading.{row5}
use Rattle.move_ledger.specs.LoadLaws.{Starts, starts_up, owner_is}
use Rattle.move_load_rows.specs.Checks.{not_other, bad_span, span, CanOwn}
use Rattle.move_load_view.specs.View.{CanPart, dependencies_of}
use Rattle.layout.specs.Patch.{part_long, part_at}

-- entry k is no atom, or its owner
abbrev pub wrong : Load → ℕ → Bool
wrong load k = not_other load.A (owner load k) (at load.dependencies k)

module _ {load : Load} (s : Starts load) where
  pub span-first : some_below (wrong load) (at load.starts 0) ≡ false
  span-first = none_below (wrong load) _ (λ x b. absurd (omega (arith, s.first)))

  pub span_hit : (i : ℕ) → i < load.A → span load i ≡ true → true ≡ row5 load
  unfolding bad_span row5
  span_hit i l h =
      let from = at load.starts i in
      let r = some_take (λ k. leb from k && not_other load.A i (at load.dependencies k)) (at load.starts (suc i)) (rw (add-one i) at h) in
      let k = r.0 in
      let own = owner_is s k i l (leb-true from k (and_left (leb from k) _ r.2)) r.1 in
      sym (some_give (wrong load) load.D k (omega (arith, r.1, starts_up s load.A (suc i) (omega arith) (omega arith), s.last)) (rw own (and_right (leb from k) _ r.2)))

  pub span_more : (i : ℕ) → some_below (wrong load) (at load.starts i) ≡ false → i < load.A → span load i ≡ false → some_below (wrong load) (at load.starts (i + 1)) ≡ false
  unfolding bad_span
  span_more i f l h = rw (add-one i) (none_below (wrong load) _ (λ k b. pick k b (dec_lt k from)))
    where
      from : ℕ
      from = at load.starts i

      pick : (k : ℕ) → k < at load.starts (suc i) → Dec (k < from) → wrong load k ≡ false
      pick k b (yes c) = some_none (wrong load) from f k c
      pick k b (no c) =
          let q = some_none (λ k. leb from k && not_other load.A i (at load.dependencies k)) (at load.starts (suc i)) (rw (add-one i) at h) k b in
          rw (owner_is s k i l (omega arith) b) (rw (le-leb from k (omega arith)) at q)

  pub span-done : (i : ℕ) → some_below (wrong load) (at load.starts i) ≡ false → i ≡ load.A → false ≡ row5 load
  unfolding row5
  span-done i f e = none_left (wrong load) load.D _ f (ap (at load.starts) e ∙ s.last)

-- what the code asks for at each atom
pub span_can : {load : Load} → CanOwn load → (i : ℕ) → i < load.A → CanPart load.starts load.dependencies i
span_can {load} can i l =
    record {
      inside = omega (arith, can.long);
      rising = rw (add-one i) (can.rise.step i l);
      within = rw (add-one i) (omega (arith, can.full, can.rise.last, starts_up can.rise load.A (suc i) (omega arith) (omega arith)));
    }

-- a test of the numbers of an atom's part
pub part_span : (p : ℕ → Bool) {starts dependencies list : List ℕ} {i : ℕ} → CanPart starts dependencies i → list ≡ dependencies_of starts dependencies i
    → some_below (λ j. p (at list j)) (length list) ≡ some_below (λ k. leb (at starts i) k && p (at dependencies k)) (at starts (i + 1))
part_span p {starts} {dependencies} {list} {i} can q = go (some_below (λ j. p (at list j)) (length list)) refl
  where
    from : ℕ
    from = at starts i

    end : ℕ
    end = at starts (i + 1)

    long : length list ≡ end - from
    long = ap length q ∙ part_long from (end - from) dependencies

    here : (j : ℕ) → j < length list → at list j ≡ at dependencies (from + j)
    here j b = ap (λ (l : List ℕ). at l j) q ∙ part_at from (end - from) dependencies j (omega (arith, long))

    go : (t : Bool) → some_below (λ j. p (at list j)) (length list) ≡ t → t ≡ some_below (λ k. leb from k && p (at dependencies k)) end
    go true h =
        let r = some_take (λ j. p (at list j)) (length list) h in
        some_found (λ k. leb from k && p (at dependencies k)) end (from + r.0) (omega (arith, r.1, long, can.rising))
        (and_both (leb from (from + r.0)) _ (le-leb from (from + r.0) (omega arith)) (sym (ap p (here r.0 r.1)) ∙ r.2))
    go false h = sym (none_below (λ k. leb from k && p (at dependencies k)) end (λ k b. pick k b (dec_lt k from)))
      where
        pick : (k : ℕ) → k < end → Dec (k < from) → (leb from k && p (at dependencies k)) ≡ false
        pick k b (yes c) = rw (lt-leb from k c) refl
        pick k b (no c) =
            let j : from + (k - from) ≡ k = omega arith in
            let z : k - from < length list = omega (arith, long) in
            rw (le-leb from k (omega arith)) (ap (λ n. p (at dependencies n)) (sym j) ∙ sym (ap p (here (k - from) z)) ∙ some_none (λ j. p (at list j)) (length list) h (k - from) z)
