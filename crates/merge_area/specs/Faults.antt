-- What it means that no number of a part is at fault. Assumes nothing.
use Rattle.std.specs.Prelude.{ℕ, ◌+◌, ◌<◌, ◌≡◌, refl, Bool, true, false, not, List, get_or}
use Rattle.std.proofs.Common.{arith, ap, ne_eqb, leb-false}
use Rattle.graphs.specs.Bools.{fails, and_both}
use Rattle.graphs.specs.Count.{count_pos}
use Rattle.merge_state.specs.State.{None, misfit}
use Rattle.merge_state.specs.Ordered.{never}
use Rattle.merge_area.specs.Consistent.{faults}

pub no_fault : (l : List ℕ) (at n top : ℕ) (free : Bool) → faults l at n top free ≡ 0 → (i : ℕ) → i < n → misfit top free (get_or l (at + i) 0) ≡ false
unfolding faults
no_fault l at n top free h i b = fails _ (λ q. omega (arith, count_pos (λ i. misfit top free (get_or l (at + i) 0)) n i b q))

pub fits_below : (top v : ℕ) → misfit top false v ≡ false → v < top
unfolding misfit
fits_below top v h = leb-false top v (fails _ (λ q. never _ (and_both _ _ q refl) h))

pub fits-free : (top v : ℕ) → misfit top true v ≡ false → (v ≡ None → ⊥) → v < top
unfolding misfit
fits-free top v h n = leb-false top v (fails _ (λ q. never _ (and_both _ _ q (ap not (ne_eqb v None n))) h))

-- each number of a part is in range, given by its own place
pub part-below : (l : List ℕ) (at n top : ℕ) → faults l at n top false ≡ 0 → (i : ℕ) → i < n → get_or l (at + i) 0 < top
part-below l at n top h i b = fits_below top _ (no_fault l at n top false h i b)

pub part_free : (l : List ℕ) (at n top : ℕ) → faults l at n top true ≡ 0 → (i : ℕ) → i < n → (get_or l (at + i) 0 ≡ None → ⊥) → get_or l (at + i) 0 < top
part_free l at n top h i b = fits-free top _ (no_fault l at n top true h i b)
