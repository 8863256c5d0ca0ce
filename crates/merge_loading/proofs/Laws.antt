-- The keys, written one after the other. Assumes nothing.
use Prim.Native.Nat.{ℕ, ◌+◌, ◌≤◌, ◌<◌}
use native.Mathlib.Nat.{zero-add}
use mathlib.Core.Path.{◌≡◌, sym, ap, ◌∙◌}
use mathlib.Core.List.{List}
use lib.ListN.{length, get_or, set}
use Rattle.graphs.specs.Tab.{tab, tab-length, tab-at}
use Rattle.layout.specs.Patch.{patch, part, is_part}
use Rattle.layout.proofs.Writes.{Copying, copy_none, copy_more, copy_done}
use Rattle.merge_loading.specs.Loading.{first_key}

-- the first k keys are written
abbrev pub Keying : List ℕ → ℕ → ℕ → ℕ → ℕ → List ℕ → Type 0
Keying l₀ at c i k l = Copying l₀ at (tab (first_key i) c) 0 c k l

pub key-none : {l : List ℕ} {at c : ℕ} (i : ℕ) → Keying l at c i 0 l
key-none i = copy_none

module _ (i : ℕ) {l₀ : List ℕ} {at c k : ℕ} {l : List ℕ} (v : Keying l₀ at c i k l) where
  pub key_more : {x : ℕ} → k < c → at + c ≤ length l₀ → x ≡ first_key i k → Keying l₀ at c i (k + 1) (set l (at + k) x)
  key_more {x} h b e =
      let q : get_or (tab (first_key i) c) (0 + k) 0 ≡ x = ap (λ j. get_or (tab (first_key i) c) j 0) (zero-add k) ∙ tab-at (first_key i) c k h ∙ sym e in
      rw (← q) (copy_more v h b)

  pub key-done : c ≤ k → l ≡ patch at (tab (first_key i) c) l₀
  key-done h = copy_done v h ∙ ap (λ u. patch at u l₀) whole
    where
      whole : part 0 c (tab (first_key i) c) ≡ tab (first_key i) c
      whole =
          ap (λ n. part 0 n (tab (first_key i) c)) (sym (tab-length (first_key i) c))
          ∙ is_part 0 (tab (first_key i) c) (tab (first_key i) c) (λ j b. ap (λ n. get_or (tab (first_key i) c) n 0) (zero-add j))
