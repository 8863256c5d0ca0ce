-- The call of the pass, refused or not. Assumes nothing.
use Rattle.std.specs.Prelude.{ℕ, ◌≤◌, ◌≡◌, not, List, eqb}
use Rattle.std.proofs.Common.{arith, ap₂, ◌∙◌}
use Rattle.std.proofs.Math.Path.{refl, sym, ap}
use Rattle.std.proofs.Math.ListN.{length}
use borrow.Author.Tests.{eqb-true, ltb-false, not-false}
use Rattle.graphs.specs.Bools.{or_false_left, or_false_right}
use Rattle.graphs.specs.Count.{count, count_le}
use Rattle.merge_state.specs.declared.Sizes.{Sizes}
use Rattle.merge_state.specs.Merges.{waits}
use Rattle.merge_state.specs.Table.{refused, lists, pass, later, acted}
use Rattle.merge_state.specs.Kept.{none-fits}
use Rattle.merge_area.specs.Layout.{cell, head}
use Rattle.merge_area.specs.Read.{read}
use Rattle.merge_area.specs.Writes.{write}
use Rattle.merge_area.specs.Calls.{refusal, lists_after, candidates, PassCalled}
use Rattle.merge_laws.specs.Rows.{free, refused_called, acted_called}
use Rattle.merge_pass.specs.Turns.{kind_of, CanPass, PassedIn}
use Rattle.merge_pass.specs.Lists.{kinds-listed, list_length}

module _ (z : Sizes) (a ps bs ks ns : List ℕ) {q : ℕ} (e : q ≡ refusal z a (pass ps bs ks ns)) where
  abbrev n : ℕ
  n = count (waits (read z a)) (cell a (head z 1))

  -- no row refuses the pass
  pub may_pass : q ≡ 0 → CanPass z a ps bs ks ns
  unfolding later
  may_pass h =
      let f = free z a (pass ps bs ks ns) e h in
      let h₁ = none-fits _ 15 _ (omega arith) f.later in
      let h₂ = none-fits _ 16 _ (omega arith) h₁.1 in
      let h₃ = none-fits _ 28 _ (omega arith) h₂.1 in
      let h₄ = none-fits _ 18 _ (omega arith) h₃.1 in
      let l₁ = or_false_right (not (eqb (length ps) n)) _ h₁.0 in
      let l₂ = or_false_right (not (eqb (length bs) n)) _ l₁ in
      record {
        stood = f.stood;
        proper = h₂.0;
        unmerged = h₃.0;
        left = ltb-false _ _ h₄.0;
        proposals = eqb-true _ _ (not-false _ (or_false_left (not (eqb (length ps) n)) _ h₁.0));
        bars = eqb-true _ _ (not-false _ (or_false_left (not (eqb (length bs) n)) _ l₁));
        kinds = eqb-true _ _ (not-false _ (or_false_left (not (eqb (length ks) n)) _ l₂));
        numbers = eqb-true _ _ (not-false _ (or_false_right (not (eqb (length ks) n)) _ l₂));
      }

  pub few_candidates : q ≡ 0 → length ks ≤ 1024
  few_candidates h = let c = may_pass h in omega (arith, c.kinds, count_le (waits (read z a)) (cell a (head z 1)), c.stood.headed.fits, c.stood.headed.within.chunks)

  -- a refused pass
  pub refused_pass : (q ≡ 0 → ⊥) → PassCalled z a (pass ps bs ks ns) (ks, ns) (refused q) 0 a (ks, ns)
  unfolding candidates lists_after
  refused_pass h =
      let c = refused_called z a (pass ps bs ks ns) {r = refused q} {b = a} e h refl refl in
      record { called = c; counted = ap candidates c.answer; lists = ap (λ t. lists_after t (ks, ns)) c.answer }

  -- one that isn't
  pub acted_pass : {r ks' ns' : List ℕ} → q ≡ 0 → PassedIn z a ps bs r ks' ns' → PassCalled z a (pass ps bs ks ns) (ks, ns) (lists ks' ns') (length ks) r (ks', ns')
  unfolding candidates lists_after acted write
  acted_pass {r} {ks'} {ns'} h v =
      let c = acted_called z a (pass ps bs ks ns) {r = lists ks' ns'} {b = r} e h (ap₂ lists v.kinds v.numbers) v.area in
      record {
        called = c;
        counted = (may_pass h).kinds ∙ sym (list_length (λ r. r.kinds) kind_of kinds-listed (read z a) ps bs (cell a (head z 1))) ∙ ap length (sym v.kinds) ∙ ap candidates c.answer;
        lists = ap (λ t. lists_after t (ks, ns)) c.answer;
      }
