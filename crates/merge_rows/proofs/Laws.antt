-- Laws that several proofs of this crate cite. Assumes nothing.
use Prim.Native.Nat.{ℕ, ◌+◌, ◌<◌, ◌≤◌}
use native.Mathlib.Omega.{arith}
use native.Mathlib.Numerals.{add-one}
use mathlib.Core.Path.{◌≡◌, refl, sym, ap, ap₂, subst, ◌∙◌}
use mathlib.Core.Bool.{Bool, true, false, not, ◌||◌, or_comm}
use mathlib.Core.List.{List}
use lib.ListN.{length, get_or}
use lib.Dec.{ltb}
use borrow.Author.Tests.{lt-leb, lt-ltb, ltb-true}
use Rattle.graphs.specs.Bools.{Decides, alike}
use Rattle.graphs.specs.Count.{ind, count, count-more, count_pos, count-found, count_le}
use Rattle.graphs.specs.Lists.{some_below, some_give, some_take, some_suc, none_below}
use Rattle.layout.specs.Compare.{PartBelow}
use mir.Val.{bool_byte}
use Rattle.merge_state.specs.declared.Sizes.{Sizes}
use Rattle.merge_state.specs.State.{misfit}
use Rattle.merge_state.specs.Merges.{waits}
use Rattle.merge_state.specs.Kept.{no_misfit}
use Rattle.merge_state.specs.Table.{any_misfit, bad_starts, over_lists, bad_lists, calc_chunk_dependencies}
use Rattle.merge_area.specs.Layout.{cell, head}
use Rattle.merge_area.specs.Read.{read}
use Rattle.merge_area.specs.Within.{Headed}
use Rattle.merge_area.specs.Calls.{standing}
use Rattle.merge_area.specs.Consistent.{faults}

-- a list strays where it has faults
pub misfit_is : (l : List ℕ) (top : ℕ) (free : Bool) {r : ℕ} → r ≡ faults l 0 (length l) top free → ltb 0 r ≡ any_misfit top free l
unfolding faults any_misfit
misfit_is l top free {r} e =
    alike _ _
    (λ h.
    let f = count-found (λ i. misfit top free (get_or l (0 + i) 0)) (length l) (rw e at (ltb-true 0 r h)) in
    some_give (λ i. misfit top free (get_or l i 0)) (length l) f.0 f.1 (ap (λ i. misfit top free (get_or l i 0)) {x = f.0} {y = 0 + f.0} (omega arith) ∙ f.2))
    (λ h.
    let s = some_take (λ i. misfit top free (get_or l i 0)) (length l) h in
    lt-ltb 0 r (rw e (count_pos (λ i. misfit top free (get_or l (0 + i) 0)) (length l) s.0 s.1 (ap (λ i. misfit top free (get_or l i 0)) {x = 0 + s.0} {y = s.0} (omega arith) ∙ s.2))))

-- no number of a list strays where all are below top
pub all_fit : (l : List ℕ) (top : ℕ) → ((i : ℕ) → i < length l → get_or l i 0 < top) → any_misfit top false l ≡ false
unfolding any_misfit misfit
all_fit l top f = none_below _ (length l) (λ i b. rw (lt-leb top (get_or l i 0) (f i b)))

-- a list strays where not all of it is below top
pub excess_is : (l : List ℕ) (top : ℕ) {r : Bool} → Decides (PartBelow l 0 (length l) top) r → not r ≡ any_misfit top false l
excess_is l top {r} d = go (any_misfit top false l) refl r d
  where
    go : (m : Bool) → any_misfit top false l ≡ m → (r : Bool) → Decides (PartBelow l 0 (length l) top) r → not r ≡ any_misfit top false l
    go m e true d = sym (all_fit l top (λ i b. subst (λ j. get_or l j 0 < top) (omega arith) (d.right refl i b)))
    go true e false d = sym e
    go false e false d = absurd (d.wrong refl (λ i b. subst (λ j. get_or l j 0 < top) (omega arith) (no_misfit top l e i b)))

-- one number more of a test of them all
pub some_more : (p : ℕ → Bool) (x : ℕ) {r t : Bool} → r ≡ some_below p x → t ≡ p x → (r || t) ≡ some_below p (x + 1)
some_more p x e f = ap₂ ◌||◌ e f ∙ or_comm (some_below p x) (p x) ∙ sym (ap (some_below p) (add-one x) ∙ some_suc p x)

-- the rows of `calc_chunk_dependencies` before 21
pub calc_stand : (z : Sizes) (starts deps a : List ℕ) {b : Bool} {q : ℕ} → b ≡ bad_starts z.modules starts (length deps) → q ≡ standing z (ltb 8192 (length deps)) b a
    → q ≡ standing z (over_lists (calc_chunk_dependencies starts deps)) (bad_lists z (calc_chunk_dependencies starts deps)) a
unfolding over_lists bad_lists
calc_stand z starts deps a e h = h ∙ ap (λ b. standing z (ltb 8192 (length deps)) b a) e

pub few_candidates : (z : Sizes) (a : List ℕ) {n : ℕ} → Headed z a → n ≡ count (waits (read z a)) (cell a (head z 1)) → n ≤ z.chunks
few_candidates z a h e = omega (arith, e, count_le (waits (read z a)) (cell a (head z 1)), h.fits)

-- counting chunks that wait
pub waiting-more : (z : Sizes) (a : List ℕ) (x : ℕ) {n m : ℕ} → n ≡ count (waits (read z a)) x → m ≡ ind (waits (read z a) x) → n + m ≡ count (waits (read z a)) (x + 1)
waiting-more z a x {n} {m} e q = omega (arith, count-more (waits (read z a)) x, e, q)

-- a test as a number
pub as_ind : {b r : Bool} {m : ℕ} → m ≡ bool_byte r → r ≡ b → m ≡ ind b
as_ind {b} {r} e h = e ∙ go r ∙ ap ind h
  where
    go : (t : Bool) → bool_byte t ≡ ind t
    go true = refl
    go false = refl
