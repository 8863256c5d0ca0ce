-- What the functions over slots ask. Assumes nothing.
use Rattle.std.specs.Prelude.{◌≡◌, List, ℕ, ◌+◌, ◌≤◌, ◌<◌, length}
use Rattle.move_ledger.specs.Graph.{Load, none, at}
use Rattle.move_ledger.specs.LoadLaws.{Starts, InOrder}

pub record CanTally (counts nodes : List ℕ) : Type 0 where
  pub few : length nodes < 4294967296
  pub within : (i : ℕ) → i < length nodes → at nodes i < length counts

pub record CanSources (load : Load) (nodes sources : List ℕ) : Type 0 where
  pub order : Starts load
  pub starts_long : load.A < length load.starts
  pub dependencies_long : load.D ≤ length load.dependencies
  pub long : load.A ≤ length nodes
  pub room : load.D ≤ length sources

pub record CanTargets (load : Load) (nodes targets : List ℕ) : Type 0 where
  pub long : load.D ≤ length load.dependencies
  pub within : (k : ℕ) → k < load.D → at load.dependencies k < length nodes
  pub room : load.D ≤ length targets

-- a host that is not None is an atom with a node
pub record CanFace (nodes : List ℕ) (host : ℕ) : Type 0 where
  pub there : (host ≡ none → ⊥) → host < length nodes

pub record CanFacades (load : Load) (nodes facade sources targets : List ℕ) : Type 0 where
  pub facades : load.E ≤ length facade
  pub long : load.E ≤ length load.hosts
  pub host : (b : ℕ) → b < load.E → (at load.hosts b ≡ none → ⊥) → at load.hosts b < length nodes
  pub room : load.D + load.E ≤ length sources
  pub room_target : load.D + load.E ≤ length targets

-- a load in order, a node for each atom, a facade node or None for each entry bit, and room for D + E slots
pub record CanSlots (load : Load) (nodes facade sources targets : List ℕ) : Type 0 where
  pub order : InOrder load
  pub starts_long : load.A < length load.starts
  pub dependencies_long : load.D ≤ length load.dependencies
  pub hosts_long : load.E ≤ length load.hosts
  pub nodes_long : load.A ≤ length nodes
  pub facade_long : load.E ≤ length facade
  pub room : load.D + load.E ≤ length sources
  pub room_target : load.D + load.E ≤ length targets
