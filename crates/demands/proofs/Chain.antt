-- Theorems on the definitions of specs/Chain: they stand here, so that the crate can be read with a definition changed. Assumes nothing.
use Prim.Native.Nat.{ℕ, ◌+◌, ◌-◌, ◌≤◌, ◌<◌}
use native.Mathlib.Omega.{arith}
use Rattle.std.specs.Prelude.{◌≡◌, cond, List, [], ◌∷◌, length, set}
use Rattle.std.proofs.Math.Path.{refl}
use Rattle.std.proofs.Common.{ap, subst, ◌∙◌}
use Rattle.std.proofs.Math.Bool.{true, false}
use Rattle.graphs.specs.Lists.{has, has-at}
use Rattle.entry_set.specs.Sets.{value}
use Rattle.move_ledger.specs.Graph.{reach}
use Rattle.move_ledger.specs.Answer.{acyclic, is_refused, is_accepted, reported}
use Rattle.move_ledger.specs.Ledger.{loaded, decide, move, call, ledger}
use Rattle.move_ledger.specs.Ledger as calls
use Rattle.move_ledger.specs.Loading.{row3, entry_sets}
use Rattle.move_ledger.proofs.MoveLaws.{place_after}
use Rattle.move_ledger.specs.Reach.{reach-all, rising-length}
use Rattle.move_area.specs.Calls.{new, try_move}
use Rattle.move_area.specs.History.{call_area, area_after}
use Rattle.chain_commands.specs.Chain.{chain, sets}
use Rattle.demands.specs.Demand3.{next-answer}
use Rattle.demands.specs.Reached.{move-reached}
use Rattle.demands.specs.Chain.{moved, moved_long, moved-first, moved_reaches, moved_apart, entry_sets_are, unmarked, chain-loads, value_one, chain-moves}
use Rattle.demands.specs.Chain as chain_here

module _ (n : ℕ) (some : 0 < n) (few : n ≤ 512) (size : ℕ) (enough : row3 (chain n) (n + 1) size ≡ false) where
  -- and attains it: at most n - 1 are reached, since as many other sets are occupied
  pub moved-reach : (reported (move (chain n) (unmarked n) (n + 1) (loaded (entry_sets (chain n) (sets n))) 0 ((n + 1) ∷ [])).answer).reached ≡ n - 1
  unfolding move
  moved-reach = move-reached (chain n) (unmarked n) (n + 1) (loaded (entry_sets (chain n) (sets n))) 0 ((n + 1) ∷ []) ∙ rw (there, yes, (chain_here.value_one n some few size enough)) all
    where
      yes : is_accepted (decide (chain n) (unmarked n) (entry_sets (chain n) (sets n)) 0 ((n + 1) ∷ [])) ≡ true
      yes = (chain_here.chain-moves n some few size enough)

      there : (move (chain n) (unmarked n) (n + 1) (loaded (entry_sets (chain n) (sets n))) 0 ((n + 1) ∷ [])).after.place ≡ moved n
      there =
          let e : cond (is_accepted (decide (chain n) (unmarked n) (entry_sets (chain n) (sets n)) 0 ((n + 1) ∷ []))) (set (entry_sets (chain n) (sets n)) 0 (value ((n + 1) ∷ []))) (entry_sets (chain n) (sets n)) ≡ moved n = rw (yes, entry_sets_are n, (chain_here.value_one n some few size enough)) refl in
          place_after (chain n) (unmarked n) (n + 1) (loaded (entry_sets (chain n) (sets n))) 0 ((n + 1) ∷ []) ∙ e

      long : length (moved n) ≡ n
      long = moved_long n some

      all : reach (chain n) (moved n) (n + 1) ≡ n - 1
      all =
          omega (
            arith,
            reach-all (chain n) (moved n) (n + 1) (subst (λ X. has X (moved n) ≡ true) (moved-first n some) (has-at (moved n) 0 (omega (arith, long)))) (moved_reaches n some),
            rising-length (moved n) (λ i j a b. moved_apart n some i j a (omega (arith, long))),
            long,
          )

-- and so answer the calls, on every work area that is long enough
pub chain_on_areas : (n : ℕ) → 0 < n → n ≤ 512 → (area : List ℕ) → row3 (chain n) (n + 1) (length area) ≡ false
    → ((new (chain n) (unmarked n) (n + 1) (sets n) area).answer ≡ acyclic)
    × (is_accepted (try_move (chain n) (unmarked n) (n + 1) (new (chain n) (unmarked n) (n + 1) (sets n) area).area 0 ((n + 1) ∷ [])).answer ≡ true)
    × ((reported (try_move (chain n) (unmarked n) (n + 1) (new (chain n) (unmarked n) (n + 1) (sets n) area).area 0 ((n + 1) ∷ [])).answer).reached ≡ n - 1)
unfolding call call_area area_after ledger new
chain_on_areas n some few area enough =
    let l : (new (chain n) (unmarked n) (n + 1) (sets n) area).answer ≡ acyclic = chain-loads n some few (length area) enough in
    let a = next-answer (chain n) (unmarked n) (n + 1) (sets n) area [] (calls.try_move 0 ((n + 1) ∷ [])) (ap is_refused l) in
    (l, ap is_accepted a ∙ chain-moves n some few (length area) enough, ap (λ x. (reported x).reached) a ∙ moved-reach n some few (length area) enough)
