-- The chunk graph without an atom: the atom alone in a set Z that no other atom has, and Z left out. The atom back in an occupied set X joins
-- to X what Z led to and what led to Z. Assumes nothing.
use Rattle.std.specs.Prelude.{ℕ, ◌^◌, ◌<◌, ◌≡◌, Bool, List}
use Rattle.move_ledger.specs.Graph.{Load, at, edge}
use Rattle.move_ledger.specs.GraphLaws.{Apart}
use Rattle.move_free_walks.specs.Joins.{cut}

-- the graph of q without the set Z; what Z leads to; what leads to Z
abbrev pub rest : Load → List ℕ → ℕ → ℕ → ℕ → Bool
rest load q Z = cut (edge load q) Z

abbrev pub out : Load → List ℕ → ℕ → ℕ → Bool
out load q Z y = edge load q Z y

abbrev pub into : Load → List ℕ → ℕ → ℕ → Bool
into load q Z x = edge load q x Z

-- in q atom a is alone in Z, which is no set {e}
pub record Alone (load : Load) (q : List ℕ) (a Z : ℕ) : Type 0 where
  pub atom : a < load.A
  pub here : at q a ≡ Z
  pub alone : (i : ℕ) → i < load.A → at q i ≡ Z → i ≡ a
  pub no_bit : (e : ℕ) → e < load.E → Z ≡ 2 ^ e → ⊥

-- r is q with a in X
pub record Back (q r : List ℕ) (a X : ℕ) : Type 0 where
  pub apart : Apart q r a
  pub there : at r a ≡ X
