-- Writing a set lane by lane: what is left to write, written over the present list, is the whole written over the first. Assumes nothing.
use Prim.Native.Nat.{ℕ, ◌+◌, ◌*◌, ◌<◌, ◌≤◌}
use mathlib.Core.Path.{◌≡◌, refl, ap}
use mathlib.Core.List.{List, []}
use native.Mathlib.Omega.{arith}
use native.Mathlib.Numerals.{add-one}
use native.Mathlib.Nat.{suc-mul}
use lib.ListN.{length, get_or, set, drop, length-set, drop_of_length-le}
use lib.Seq.{drop-cons}
use Rattle.entry_set.specs.Joined.{parts}
use Rattle.entry_set.specs.JoinedLaws.{length-parts}
use Rattle.entry_set.specs.Lanes.{set_strided, set_lanes}

pub record Writing (l₀ l : List ℕ) (at stride X j : ℕ) : Type 0 where
  pub same_length : length l ≡ length l₀
  pub left : set_strided l (at + j * stride) stride (drop j (parts 32 8 X)) ≡ set_lanes l₀ at stride X

pub writing_none : (l : List ℕ) (at stride X : ℕ) → Writing l l at stride X 0
writing_none l at stride X =
    let here : at + 0 * stride ≡ at = omega arith in
    record { same_length = refl; left = rw here refl }

module _ {l₀ l : List ℕ} {at stride X j : ℕ} (w : Writing l₀ l at stride X j) where
  pub writing_more : {x : ℕ} → j < 8 → x ≡ get_or (parts 32 8 X) j 0 → Writing l₀ (set l (at + j * stride) x) at stride X (j + 1)
  unfolding set_strided
  writing_more {x} h e =
      let there : at + (j + 1) * stride ≡ at + j * stride + stride = omega (arith, ap (λ (n : ℕ). n * stride) (add-one j), suc-mul j stride) in
      record {
        same_length = simp length-set w.same_length;
        left = rw (there, add-one j, e) (rw (drop-cons (parts 32 8 X) j 0 (omega (arith, length-parts 32 8 X))) at w.left);
      }

  pub writing_done : 8 ≤ j → l ≡ set_lanes l₀ at stride X
  unfolding set_strided
  writing_done h =
      let end : drop j (parts 32 8 X) ≡ [] = drop_of_length-le (parts 32 8 X) {i = j} (omega (arith, length-parts 32 8 X)) in
      rw end at w.left
