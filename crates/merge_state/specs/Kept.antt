-- Every call leaves the graph in order. Assumes nothing.
use Prim.Native.Nat.{ℕ, zero, suc, ◌+◌, ◌<◌, ◌≤◌}
use Rattle.std.proofs.Common.{arith}
use Rattle.std.proofs.Math.Decide.{dec_lt}
use Rattle.std.specs.Prelude.{◌≡◌, ◌⊎◌, Bool, List, [], ◌∷◌, length}
use Rattle.std.proofs.Math.Path.{refl, ap}
use Rattle.std.proofs.Math.Bool.{true, false, not}
use Rattle.std.proofs.Math.ListN.{get_or, get_or-eq_default}
use borrow.Author.Tests.{eqb-true, ne_eqb, leb-false, not-false}
use Rattle.graphs.specs.Bools.{and_both, fails}
use Rattle.graphs.specs.Count.{count}
use Rattle.graphs.specs.Lists.{some_none}
use Rattle.merge_state.specs.declared.Sizes.{Sizes}
use Rattle.merge_state.specs.State.{None, Graph, misfit}
use Rattle.merge_state.specs.Merges.{gone, waits}
use Rattle.merge_state.specs.Methods.{Passed}
use Rattle.merge_state.specs.Table.{first_fitting, any_misfit, any_gone}
use Rattle.merge_state.specs.Ordered.{Ordered, never}

-- no row fits: the first doesn't, nor a later one
pub none-fits : (b : Bool) (n : ℕ) (l : List (Bool × ℕ)) → 0 < n → first_fitting ((b, n) ∷ l) ≡ 0 → (b ≡ false) × (first_fitting l ≡ 0)
unfolding first_fitting
none-fits true n l p h = absurd (omega arith)
none-fits false n l p h = (refl, h)

pub default_in : (l : List ℕ) (i d : ℕ) → i < length l → get_or l i d ≡ get_or l i 0
default_in [] i d h = absurd (omega arith)
default_in (a ∷ l) zero d h = refl
default_in (a ∷ l) (suc i) d h = default_in l i d (omega arith)

-- no number of a list misfits
module _ (top : ℕ) (l : List ℕ) where
  pub no_misfit : any_misfit top false l ≡ false → (i : ℕ) → i < length l → get_or l i 0 < top
  unfolding any_misfit misfit
  no_misfit h i b = leb-false top (get_or l i 0) (fails _ (λ q. never _ (and_both _ _ q refl) (some_none (λ i. misfit top false (get_or l i 0)) (length l) h i b)))

  pub no_misfit_but : any_misfit top true l ≡ false → (i : ℕ) → i < length l → (get_or l i 0 ≡ None → ⊥) → get_or l i 0 < top
  unfolding any_misfit misfit
  no_misfit_but h i b n =
      leb-false top (get_or l i 0) (fails _ (λ q. never _ (and_both _ _ q (ap not (ne_eqb (get_or l i 0) None n))) (some_none (λ i. misfit top true (get_or l i 0)) (length l) h i b)))

-- a proposal is None or initial
pub proposal : (g : Graph) (l : List ℕ) → any_misfit g.initial true l ≡ false → (i : ℕ) → (get_or l i None ≡ None → ⊥) → get_or l i None < g.initial
proposal g l h i n = elim (dec_lt i (length l)) [
  | yes b ↦ let e = default_in l i None b in rw e (no_misfit_but g.initial l h i b (rw e at n))
  | no b ↦ absurd (n (get_or-eq_default l None {n = i} (omega arith)))
]

-- a proposal is no merged chunk
pub unmerged : (g : Graph) (l : List ℕ) → any_gone g l ≡ false → (i : ℕ) → (get_or l i None ≡ None → ⊥) → g.into (get_or l i None) ≡ None
unmerged g l h i n = elim (dec_lt i (length l)) [
  | yes b ↦ rw (default_in l i None b) (eqb-true _ None (not-false _ (some_none (λ i. gone g (get_or l i 0)) (length l) h i b)))
  | no b ↦ absurd (n (get_or-eq_default l None {n = i} (omega arith)))
]

-- after the chunks below k
pub record Passing (z : Sizes) (g : Graph) (k : ℕ) (r : Passed) : Type 0 where
  pub ordered : Ordered z r.graph
  pub initial : r.graph.initial ≡ g.initial
  pub made : r.graph.made ≡ g.made
  pub created : r.graph.created ≤ g.created + count (waits g) k
  pub needs : r.graph.needs ≡ g.needs
  pub mode : r.graph.mode ≡ g.mode
  -- only chunks that have had their turn are merged
  pub into : (x : ℕ) → (x < g.initial) ⊎ (k ≤ x) → r.graph.into x ≡ g.into x

-- a proposal for chunk k, which waits
pub record Proper (g : Graph) (k p : ℕ) : Type 0 where
  pub initial : p < g.initial
  pub unmerged : g.into p ≡ None
