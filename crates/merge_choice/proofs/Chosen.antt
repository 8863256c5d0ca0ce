-- Theorems on the definitions of specs/Chosen: they stand here, so that the crate can be read with a definition changed. Assumes nothing.
use Rattle.std.specs.Prelude.{ℕ, ◌<◌, ◌≡◌, Bool, true, false, List}
use Rattle.std.proofs.Common.{arith, ◌∙◌}
use Rattle.std.proofs.Math.Path.{sym, ap}
use Rattle.merge_state.specs.State.{None}
use Rattle.merge_choice.specs.Choice.{Lists, lists, bits, wins, first_target, polluted, guarded, dynamic_target}
use Rattle.merge_choice.specs.Named.{reads, bits_le}
use Rattle.merge_choice.specs.Chosen.{first_in, none_found, barred, unbarred}

-- so is an entry that wins
pub found_below : (roles entries istarts importers : List ℕ) (k v : ℕ) {n t : ℕ} → n ≡ bits k → t ≡ first_target (reads roles) n entries (lists istarts importers) v → (t ≡ None → ⊥) → t < k
unfolding first_target
found_below roles entries istarts importers k v {n} {t} e q h = omega (arith, (first_in (wins (reads roles) n entries (lists istarts importers) v) n (λ z. h (q ∙ z))).0, q, (bits_le k).1, e)

-- the same among dynamic ones
module _ (roles : List ℕ) (k : ℕ) (entries : List ℕ) (static : Lists) (exports candidate : List ℕ) {n t : ℕ} (e : n ≡ bits k)
    (f : t ≡ first_target (reads roles) n entries static 1) where
  dynamic_is : guarded (polluted (reads roles) n entries exports candidate) t ≡ dynamic_target (reads roles) k entries static exports candidate
  unfolding dynamic_target
  dynamic_is = ap (guarded (polluted (reads roles) n entries exports candidate)) f ∙ ap (λ j. guarded (polluted (reads roles) j entries exports candidate) (first_target (reads roles) j entries static 1)) e

  pub dynamic-none : t ≡ None → None ≡ dynamic_target (reads roles) k entries static exports candidate
  dynamic-none h = none_found (polluted (reads roles) n entries exports candidate) t h ∙ dynamic_is

  pub dynamic-polluted : (t ≡ None → ⊥) → {u : Bool} → u ≡ polluted (reads roles) n entries exports candidate t → u ≡ true → None ≡ dynamic_target (reads roles) k entries static exports candidate
  dynamic-polluted h p q = barred (polluted (reads roles) n entries exports candidate) t h (sym p ∙ q) ∙ dynamic_is

  pub dynamic-found : (t ≡ None → ⊥) → {u : Bool} → u ≡ polluted (reads roles) n entries exports candidate t → u ≡ false → t ≡ dynamic_target (reads roles) k entries static exports candidate
  dynamic-found h p q = unbarred (polluted (reads roles) n entries exports candidate) t h (sym p ∙ q) ∙ dynamic_is
