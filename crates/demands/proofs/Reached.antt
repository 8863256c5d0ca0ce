-- Theorems on the definitions of specs/Reached: they stand here, so that the crate can be read with a definition changed. Assumes nothing.
use Rattle.std.specs.Prelude.{ℕ, ◌-◌, ◌≤◌, ◌<◌, ◌≡◌, refl, Bool, false, cond, List, set}
use Rattle.std.proofs.Common.{arith, sym, ◌∙◌, get_or-set_same}
use Rattle.std.proofs.Math.Path.{subst}
use Rattle.std.proofs.Math.Bool.{true}
use Rattle.std.proofs.Math.ListN.{length, length-set}
use borrow.Author.Tests.{leb-false}
use Rattle.graphs.specs.Lists.{has, has-at}
use Rattle.entry_set.specs.Sets.{value}
use Rattle.move_ledger.specs.Graph.{Load, rising, reach}
use Rattle.move_ledger.specs.Answer.{is_accepted, reported}
use Rattle.move_ledger.specs.Ledger.{Ledger, decide, move}
use Rattle.move_ledger.proofs.MoveLaws.{decide_accepted, place_after}
use Rattle.move_ledger.specs.Reach.{reach_bound}
use Rattle.demands.specs.Reached.{move-reached}
use Rattle.demands.specs.Reached as reached_here

module _ (load : Load) (fixed : List ℕ) (N : ℕ) (l : Ledger) (a : ℕ) (s : List ℕ) where
  -- this is at most occupied sets - 1
  pub reached_bound : length l.place ≡ load.A
      → let called = move load fixed N l a s in
      (reported called.answer).reached ≤ length (rising called.after.place) - 1
  unfolding move
  reached_bound n = rw (reached_here.move-reached load fixed N l a s) (go (is_accepted (decide load fixed l.place a s)) refl)
    where
      there : is_accepted (decide load fixed l.place a s) ≡ true → has (value s) (move load fixed N l a s).after.place ≡ true
      there h =
          let b : a < length l.place = omega (arith, leb-false load.A a (decide_accepted load fixed l.place a s h).passed.at10) in
          let m : has (value s) (set l.place a (value s)) ≡ true = subst (λ X. has X (set l.place a (value s)) ≡ true) (get_or-set_same l.place a (value s) 0 b) (has-at (set l.place a (value s)) a (omega (arith, length-set l.place a (value s)))) in
          subst (λ q. has (value s) q ≡ true) (sym (place_after load fixed N l a s ∙ rw h refl)) m

      go : (t : Bool) → is_accepted (decide load fixed l.place a s) ≡ t → cond t (reach load (move load fixed N l a s).after.place (value s)) 0 ≤ length (rising (move load fixed N l a s).after.place) - 1
      go true h = omega (arith, reach_bound load (move load fixed N l a s).after.place (value s) (there h))
      go false h = omega arith
