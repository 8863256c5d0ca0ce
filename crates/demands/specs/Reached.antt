-- What a move reports of the chunks that the moved atom's chunk reaches. Assumes nothing.
use Rattle.std.specs.Prelude.{ℕ, ◌≡◌, refl, Bool, false, cond, List}
use Rattle.std.proofs.Math.Bool.{true}
use Rattle.entry_set.specs.Sets.{value}
use Rattle.move_ledger.specs.Graph.{Load, reach}
use Rattle.move_ledger.specs.Answer.{zeros, is_accepted, reported}
use Rattle.move_ledger.specs.Ledger.{Ledger, report, move}
use Rattle.demands.specs.Changes.{reports}

module _ (load : Load) (fixed : List ℕ) (N : ℕ) (l : Ledger) (a : ℕ) (s : List ℕ) where
  -- each accepted move also reports how many other chunks the moved atom's chunk reaches in the new graph, a rejected one 0
  pub move-reached : let called = move load fixed N l a s in
      (reported called.answer).reached ≡ cond (is_accepted called.answer) (reach load called.after.place (value s)) 0
  move-reached = rw (reports load fixed N l a s) (go (is_accepted (move load fixed N l a s).answer))
    where
      go : (t : Bool) → (cond t (report load l.place (move load fixed N l a s).after.place (value s)) zeros).reached ≡ cond t (reach load (move load fixed N l a s).after.place (value s)) 0
      go true = refl
      go false = refl
