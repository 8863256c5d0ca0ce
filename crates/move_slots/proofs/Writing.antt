-- Numbers written one after another, or a run of one number at once. Assumes nothing.
use mathlib.Core.Path.{◌≡◌, refl, sym, ap, ◌∙◌}
use mathlib.Core.List.{List}
use Prim.Native.Nat.{ℕ, ◌+◌, ◌-◌, ◌≤◌, ◌<◌}
use native.Mathlib.Omega.{arith}
use native.Mathlib.Decide.{dec_lt}
use lib.ListN.{length, get_or, replicate, length-replicate, get_or-replicate}
use Rattle.graphs.specs.Tab.{tab, tab-length, tab-at}
use Rattle.layout.specs.Patch.{patch, patch_long, patch_in, patch-out, is_patch}
use Rattle.move_slots.specs.Written.{Written}

module _ {f : ℕ → ℕ} {at k : ℕ} {l₀ l : List ℕ} (v : Written f at k l₀ l) where
  -- a run of c numbers w
  pub written_run : {p w : ℕ} {l' : List ℕ} (c : ℕ) → p ≡ at + k → p + c ≤ length l → l' ≡ patch p (replicate c w) l → ((i : ℕ) → k ≤ i → i < k + c → f i ≡ w)
      → Written f at (k + c) l₀ l'
  written_run {p} {w} {l'} c e b q g = record { is = λ i j h z. rw q (inside i j h z (dec_lt i k)); far = λ j y h. rw q (outside j y h); long = rw q (patch_long p (replicate c w) l ∙ v.long) }
    where
      long : length (replicate c w) ≡ c
      long = length-replicate {A = ℕ} c w

      inside : (i j : ℕ) → i < k + c → j ≡ at + i → Dec (i < k) → get_or (patch p (replicate c w) l) j 0 ≡ f i
      inside i j h z (yes y) = patch-out p (replicate c w) l j (omega arith) (λ s. absurd (omega arith)) ∙ v.is i j y z
      inside i j h z (no y) =
          let s : j ≡ p + (i - k) = omega arith in
          rw s (patch_in p (replicate c w) l (i - k) (omega (arith, long)) (omega arith) ∙ get_or-replicate c (i - k) w 0 (omega arith) ∙ sym (g i (omega arith) h))

      outside : (j : ℕ) → j < length l₀ → (at ≤ j → at + (k + c) ≤ j) → get_or (patch p (replicate c w) l) j 0 ≡ get_or l₀ j 0
      outside j y h = patch-out p (replicate c w) l j (omega (arith, v.long)) (λ s. let t = h (omega arith) in omega (arith, long)) ∙ v.far j y (λ s. let t = h s in omega arith)

  -- all are written
  written_patch : l ≡ patch at (tab f k) l₀
  written_patch =
      let long = tab-length f k in
      is_patch at (tab f k) l₀ l v.long (λ i a b. v.is i (at + i) (omega arith) refl ∙ sym (tab-at f k i (omega arith))) (λ j b h. v.far j b (λ s. let t = h s in omega arith))

-- one part behind another
pub written_both : {f g h : ℕ → ℕ} {d e : ℕ} {l₀ l l' : List ℕ} → Written f 0 d l₀ l → Written g d e l l' → d + e ≤ length l₀ → ((i : ℕ) → i < d → h i ≡ f i) → ((i : ℕ) → i < e → h (d + i) ≡ g i)
    → l' ≡ patch 0 (tab h (d + e)) l₀
written_both {f} {g} {h} {d} {e} {l₀} {l} {l'} v w b p q = written_patch all
  where
    inside : (i j : ℕ) → i < d + e → j ≡ 0 + i → Dec (i < d) → get_or l' j 0 ≡ h i
    inside i j y z (yes s) = w.far j (omega (arith, v.long)) (λ t. absurd (omega arith)) ∙ v.is i j s z ∙ sym (p i s)
    inside i j y z (no s) = let t : d + (i - d) ≡ i = omega arith in w.is (i - d) j (omega arith) (omega arith) ∙ sym (q (i - d) (omega arith)) ∙ ap h t

    all : Written h 0 (d + e) l₀ l'
    all = record {
      is = λ i j y z. inside i j y z (dec_lt i d);
      far = λ j y z. let t = z (omega arith) in w.far j (omega (arith, v.long)) (λ s. omega arith) ∙ v.far j y (λ s. omega arith);
      long = w.long ∙ v.long;
    }
