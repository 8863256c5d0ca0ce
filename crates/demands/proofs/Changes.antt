-- Theorems on the definitions of specs/Changes: they stand here, so that the crate can be read with a definition changed. Assumes nothing.
use Prim.Native.Nat.{ℕ, ◌+◌}
use Rattle.std.specs.Prelude.{◌≡◌}
use Rattle.std.proofs.Common.{length-set}
use mathlib.Core.List.{List}
use Rattle.std.proofs.Math.ListN.{length}
use Rattle.move_ledger.specs.Graph.{Load, edges}
use Rattle.move_ledger.specs.Answer.{reported}
use Rattle.move_ledger.specs.Ledger.{Ledger, move}
use Rattle.move_ledger.specs.MoveLaws.{move_keeps}
use Rattle.demands.specs.Changes.{edges_change, move-reports}

-- distinct edges after the move + vanished = distinct edges before it + appeared
pub move_changes : (load : Load) (fixed : List ℕ) (N : ℕ) (l : Ledger) (a : ℕ) (s : List ℕ) → length l.place ≡ load.A
    → let called = move load fixed N l a s in
    length (edges load called.after.place) + (reported called.answer).vanished ≡ length (edges load l.place) + (reported called.answer).appeared
move_changes load fixed N l a s n =
    rw ((move-reports load fixed N l a s).appeared, (move-reports load fixed N l a s).vanished)
    (edges_change load l.place (move load fixed N l a s).after.place n
    (move_keeps load fixed N l a s (λ m. length m.place ≡ load.A) n (λ u. n) (λ u. rw length-set n)))
