-- What a loop keeps that copies a part, one number at a time. Assumes nothing.
use mathlib.Core.Path.{◌≡◌, refl, sym, ap, ◌∙◌}
use mathlib.Core.List.{List}
use Prim.Native.Nat.{ℕ, suc, ◌+◌, ◌-◌, ◌≤◌, ◌<◌}
use native.Mathlib.Omega.{arith}
use native.Mathlib.Nat.{add-zero, sub-zero}
use lib.ListN.{length, get_or, set, length-set}
use Rattle.layout.specs.Patch.{patch, part, patch-none, patch-set, part_none, part-more}

-- copying: what is still to be written over l gives the patch of the whole over l₀
pub record Copying (l₀ : List ℕ) (at : ℕ) (from : List ℕ) (start k i : ℕ) (l : List ℕ) : Type 0 where
  pub within : i ≤ k
  pub long : length l ≡ length l₀
  pub whole : patch (at + i) (part (start + i) (k - i) from) l ≡ patch at (part start k from) l₀

pub copy_none : {l : List ℕ} {at : ℕ} {from : List ℕ} {start k : ℕ} → Copying l at from start k 0 l
copy_none = record { within = omega arith; long = refl; whole = simp (add-zero, sub-zero) refl }

module _ {l₀ : List ℕ} {at : ℕ} {from : List ℕ} {start k i : ℕ} {l : List ℕ} (v : Copying l₀ at from start k i l) where
  pub copy_more : i < k → at + k ≤ length l₀ → Copying l₀ at from start k (i + 1) (set l (at + i) (get_or from (start + i) 0))
  copy_more h b =
      let e : k - i ≡ suc (k - (i + 1)) = omega arith in
      let f : at + (i + 1) ≡ at + i + 1 = omega arith in
      let g : start + (i + 1) ≡ start + i + 1 = omega arith in
      record {
        within = omega arith;
        long = length-set l (at + i) _ ∙ v.long;
        whole = rw (f, g) (patch-set (at + i) _ _ l (omega (arith, v.long)) ∙ sym (ap (λ (u : List ℕ). patch (at + i) u l) (part-more (start + i) (k - (i + 1)) from))
            ∙ ap (λ (j : ℕ). patch (at + i) (part (start + i) j from) l) (sym e) ∙ v.whole);
      }

  pub copy_done : k ≤ i → l ≡ patch at (part start k from) l₀
  copy_done h =
      let e : k - i ≡ 0 = omega arith in
      sym (patch-none (at + i) l) ∙ ap (λ (u : List ℕ). patch (at + i) u l) (sym (part_none (start + i) from)) ∙ ap (λ (j : ℕ). patch (at + i) (part (start + i) j from) l) (sym e) ∙ v.whole
