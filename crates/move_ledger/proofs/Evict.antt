-- Theorems on the definitions of specs/Evict: they stand here, so that the crate can be read with a definition changed. Assumes nothing.
use Prim.Native.Nat.{ℕ, ◌≤◌, ◌<◌}
use native.Mathlib.Omega.{arith}
use Rattle.std.specs.Prelude.{◌≡◌, Bool, List}
use Rattle.std.proofs.Math.Path.{refl}
use Rattle.std.proofs.Common.{subst}
use Rattle.std.proofs.Math.Bool.{true, false}
use Rattle.std.proofs.Math.ListN.{length}
use Rattle.graphs.specs.Lists.{has, has-at}
use Rattle.move_ledger.specs.Graph.{Load}
use Rattle.move_ledger.specs.Ledger.{put, free_place, register}
use Rattle.move_ledger.specs.Places.{Apart, put_grows, put_most, put-there, put_same}
use Rattle.move_ledger.specs.Evict.{place-free, register-old, register-new, Registered}

pub registered : (load : Load) (N : ℕ) (place seen : List ℕ) → Apart seen → length seen ≤ N → load.A < N
    → (T : ℕ) → Registered N T seen (register load N place T seen)
registered load N place seen d few more T = go (has T seen) refl
  where
    r : ℕ
    r = free_place load N place seen

    go : (t : Bool) → has T seen ≡ t → Registered N T seen (register load N place T seen)
    go true q = rw (register-old load N place T seen q) (record { has_target = q; grows = omega arith; few = few })
    go false q =
        let f = place-free load N place seen d few more in
        rw (register-new load N place T seen q)
        (record {
          has_target = subst (λ X. has X (put r T seen) ≡ true) (put_same r T seen f.within) (has-at (put r T seen) r (put-there r T seen f.within));
          grows = put_grows r T seen f.within;
          few = put_most r T seen f.within N few f.room;
        })
