-- For the code: node numbers instead of sets. A node is a place of the list of registered sets. A reader of the demands needs `placed` alone,
-- the placement that nodes stand for. Assumes nothing.
use Rattle.std.specs.Prelude.{ℕ, zero, suc, ◌+◌, ◌-◌, ◌^◌, ◌≤◌, ◌<◌, ◌≡◌, Bool, not, cond, ◌&&◌, List, map, ltb, eqb, length}
use Rattle.graphs.specs.Tab.{tab}
use Rattle.graphs.specs.Slots.{mult, slot_edge}
use Rattle.move_ledger.specs.Graph.{Load, none, at, owner, occupied}

-- each atom's set, from each atom's node
unfoldable pub placed : List ℕ → List ℕ → List ℕ
placed nodes sets = map (at sets) nodes

-- nodes and sets that fit together
pub record Placing (load : Load) (nodes sets : List ℕ) : Type 0 where
  pub atoms : length nodes ≡ load.A
  pub few : length sets ≤ none
  pub distinct : (x y : ℕ) → x < length sets → y < length sets → at sets x ≡ at sets y → x ≡ y
  pub inside : (i : ℕ) → i < load.A → at nodes i < length sets

-- the highest number below n that passes, None where none does
unfoldable pub highest : (ℕ → Bool) → ℕ → ℕ
highest p zero = none
highest p (suc n) = cond (p n) n (highest p n)

-- node x has the set {e} and an atom; `members load nodes x` is its atom count
abbrev pub fronts : Load → List ℕ → List ℕ → ℕ → ℕ → Bool
fronts load nodes sets e x = eqb (at sets x) (2 ^ e) && occupied load nodes x

-- the node from which bit e's facade edge goes, None where the set {e} has no atom
unfoldable pub front : Load → List ℕ → List ℕ → ℕ → ℕ
front load nodes sets e = highest (fronts load nodes sets e) (length sets)

-- the two ends of a facade edge from node f to that of atom h; both are 0 where one of these is None
abbrev pub faced : ℕ → ℕ → Bool
faced f h = not (eqb f none) && not (eqb h none)

unfoldable pub face_source : ℕ → ℕ → ℕ
face_source f h = cond (faced f h) f 0

unfoldable pub face_target : List ℕ → ℕ → ℕ → ℕ
face_target nodes f h = cond (faced f h) (at nodes h) 0

-- the two ends of slot k: dependency entry k, or the facade edge of bit k - D
unfoldable pub source : Load → List ℕ → List ℕ → ℕ → ℕ
source load nodes sets k =
    cond (ltb k load.D) (at nodes (owner load k)) (face_source (front load nodes sets (k - load.D)) (at load.hosts (k - load.D)))

unfoldable pub target : Load → List ℕ → List ℕ → ℕ → ℕ
target load nodes sets k =
    cond (ltb k load.D) (at nodes (at load.dependencies k)) (face_target nodes (front load nodes sets (k - load.D)) (at load.hosts (k - load.D)))

-- the slots
unfoldable pub sources : Load → List ℕ → List ℕ → List ℕ
sources load nodes sets = tab (source load nodes sets) (load.D + load.E)

unfoldable pub targets : Load → List ℕ → List ℕ → List ℕ
targets load nodes sets = tab (target load nodes sets) (load.D + load.E)

-- the edges between nodes, and their multiplicities
abbrev pub node_edge : Load → List ℕ → List ℕ → ℕ → ℕ → Bool
node_edge load nodes sets = slot_edge (sources load nodes sets) (targets load nodes sets) (load.D + load.E)

abbrev pub node_mult : Load → List ℕ → List ℕ → ℕ → ℕ → ℕ
node_mult load nodes sets = mult (sources load nodes sets) (targets load nodes sets) (load.D + load.E)
