-- Theorems on the definitions of specs/NodePlaces: they stand here, so that the crate can be read with a definition changed. Assumes nothing.
use Rattle.std.specs.Prelude.{ℕ, ◌≤◌, ◌<◌, ◌≡◌, Bool, true, false, List}
use Rattle.std.proofs.Common.{arith}
use Rattle.std.proofs.Math.Path.{refl, ap}
use Rattle.std.proofs.Math.ListN.{length}
use Rattle.graphs.specs.Lists.{has}
use Rattle.move_ledger.specs.Graph.{Load, none}
use Rattle.move_ledger.specs.Ledger.{free_place, register}
use Rattle.move_ledger.specs.Evict.{place-free, Registered, register-old, register-new}
use Rattle.move_ledger.proofs.Evict.{registered}
use Rattle.move_ledger.specs.Nodes.{placed, Placing}
use Rattle.move_ledger.specs.NodePlaces.{placing_apart, placed-put, placing_put, sources-put, targets-put, free_node, Kept}

pub register-kept : {load : Load} {N : ℕ} {nodes sets : List ℕ} → Placing load nodes sets → length sets ≤ N → load.A < N → N ≤ none → (T : ℕ)
    → Kept load N nodes sets (register load N (placed nodes sets) T sets)
register-kept {load} {N} {nodes} {sets} p few more small T = go (has T sets) refl
  where
    r : ℕ
    r = free_place load N (placed nodes sets) sets

    w : Registered N T sets (register load N (placed nodes sets) T sets)
    w = registered load N (placed nodes sets) sets (placing_apart p) few more T

    go : (t : Bool) → has T sets ≡ t → Kept load N nodes sets (register load N (placed nodes sets) T sets)
    go true q = rw (register-old load N (placed nodes sets) T sets q) (record { placing = p; placed = refl; sources = refl; targets = refl })
    go false q =
        let f = place-free load N (placed nodes sets) sets (placing_apart p) few more in
        let e = free_node p N r f in
        let z = register-new load N (placed nodes sets) T sets q in
        rw z
        (record {
          placing = placing_put p r T f.within e q (omega (arith, w.few, ap length z));
          placed = placed-put p r T f.within e;
          sources = sources-put p r T f.within e;
          targets = targets-put p r T f.within e;
        })
