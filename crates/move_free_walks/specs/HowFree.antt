-- How free a plan is: of every atom and every other occupied set, how the move is answered. Assumes nothing.
use Rattle.std.specs.Prelude.{ℕ, Bool, true, false, not, ◌&&◌, List, eqb}
use Rattle.graphs.specs.Count.{ind}
use Rattle.graphs.specs.Total.{total}
use Rattle.entry_set.specs.Sets.{words, width}
use Rattle.move_ledger.specs.Graph.{Load, at, rising, sum}
use Rattle.move_ledger.specs.Answer.{Answer, refused, acyclic, cyclic, accepted, rejected, set, number, edge, none, is_accepted}
use Rattle.move_ledger.specs.Ledger.{decide}

abbrev pub is_rejected : Answer → Bool
is_rejected (refused n) = false
is_rejected acyclic = false
is_rejected cyclic = false
is_rejected (accepted r) = false
is_rejected rejected = true
is_rejected (set s) = false
is_rejected (number n) = false
is_rejected (edge e) = false
is_rejected none = false

-- row 24: the atom is fixed
abbrev pub is_fixed : Answer → Bool
is_fixed (refused n) = eqb n 24
is_fixed acyclic = false
is_fixed cyclic = false
is_fixed (accepted r) = false
is_fixed rejected = false
is_fixed (set s) = false
is_fixed (number n) = false
is_fixed (edge e) = false
is_fixed none = false

-- the occupied sets other than atom a's own for which the answer to a passes
unfoldable pub targets : Load → List ℕ → List ℕ → (Answer → Bool) → ℕ → ℕ
targets load fixed place p a =
    sum (λ X. ind (not (eqb X (at place a)) && p (decide load fixed place a (words (width load.E) X)))) (rising place)

-- the pairs of an atom and a set whose answer passes
unfoldable pub pairs : Load → List ℕ → List ℕ → (Answer → Bool) → ℕ
pairs load fixed place p = total (targets load fixed place p) load.A

-- how many pairs are accepted, rejected, and refused as the atom is fixed
pub record Freedom : Type 0 where
  pub accepted : ℕ
  pub rejected : ℕ
  pub fixed : ℕ

abbrev pub how_free : Load → List ℕ → List ℕ → Freedom
how_free load fixed place =
    record { accepted = pairs load fixed place is_accepted; rejected = pairs load fixed place is_rejected; fixed = pairs load fixed place is_fixed }
