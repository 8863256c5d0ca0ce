-- The counts of one atom and of all: what is asked for them, and what they are. Assumes nothing.
use Rattle.std.specs.Prelude.{◌≡◌, true, ℕ, ◌+◌, ◌-◌, ◌*◌, ◌≤◌, ◌<◌, List, length, get_or}
use Rattle.graphs.specs.Total.{total}
use Rattle.layout.specs.Patch.{part}
use Rattle.move_ledger.specs.Graph.{Load, rising}
use Rattle.move_ledger.specs.Answer.{is_accepted}
use Rattle.move_ledger.specs.LoadLaws.{Loadable}
use Rattle.move_ledger.specs.Nodes.{placed}
use Rattle.move_area.specs.Bodies.{lane_at}
use Rattle.move_area.specs.Area.{sets_in}
use Rattle.move_area.specs.Checked.{nodes_in, Ranged, Worked}
use Rattle.move_free_walks.specs.HowFree.{is_rejected, is_fixed, pairs}
use Rattle.move_free_walks.specs.HowFree as free
use Rattle.move_freedom.specs.declared.Counts.{Counts}
use Rattle.move_freedom.specs.Rest.{CanRest}

-- each atom's set
abbrev pub place_in : Load → ℕ → List ℕ → List ℕ
place_in load n area = placed (nodes_in load n area) (sets_in n area)

-- the atom counts of the registered sets
abbrev pub counts_in : ℕ → List ℕ → List ℕ
counts_in n area = part (lane_at n 8) (get_or area (n * n) 0) area

pub record CanCounts (area : List ℕ) (n : ℕ) : Type 0 where
  pub head : n * n < length area
  pub inside : lane_at n 8 + get_or area (n * n) 0 ≤ length area

pub record CanAskRest (area : List ℕ) (n : ℕ) (s t : List ℕ) (m z : ℕ) : Type 0 where
  pub rest : CanRest s t m z
  pub inside : n * n + 2 < length area

-- the rows 1 to 6 and 9 don't fit
pub record CanCount (load : Load) (n : ℕ) (area : List ℕ) (atom : ℕ) : Type 0 where
  pub loadable : Loadable load n true (length area)
  pub ranged : Ranged load n area
  pub worked : Worked load n area
  pub there : atom < load.A

-- the counts of one atom, which add up to `each`
pub record OfAtom (load : Load) (marks place : List ℕ) (atom each : ℕ) (of : Counts) : Type 0 where
  pub accepted : of.accepted ≡ free.targets load marks place is_accepted atom
  pub rejected : of.rejected ≡ free.targets load marks place is_rejected atom
  pub fixed : of.fixed ≡ free.targets load marks place is_fixed atom
  pub sum : of.accepted + of.rejected + of.fixed ≡ each

-- those of the first k atoms
pub record Counted (load : Load) (marks place : List ℕ) (k : ℕ) (all : Counts) : Type 0 where
  pub accepted : all.accepted ≡ total (free.targets load marks place is_accepted) k
  pub rejected : all.rejected ≡ total (free.targets load marks place is_rejected) k
  pub fixed : all.fixed ≡ total (free.targets load marks place is_fixed) k

-- the rows 1 to 6 and 9 don't fit; there are `each` occupied sets other than an atom's own
pub record CanCountAll (load : Load) (fixed : List ℕ) (n : ℕ) (area : List ℕ) (each : ℕ) : Type 0 where
  pub loadable : Loadable load n true (length area)
  pub ranged : Ranged load n area
  pub worked : Worked load n area
  pub marks : length fixed ≡ load.A
  pub others : each ≡ length (rising (place_in load n area)) - 1
  pub few : each ≤ 1024

pub record CanCountAtom (load : Load) (fixed : List ℕ) (n : ℕ) (area : List ℕ) (atom each : ℕ) : Type 0 where
  pub all : CanCountAll load fixed n area each
  pub there : atom < load.A

pub record CanFree (load : Load) (fixed : List ℕ) (n : ℕ) (area : List ℕ) : Type 0 where
  pub loadable : Loadable load n true (length area)
  pub ranged : Ranged load n area
  pub worked : Worked load n area
  pub marks : length fixed ≡ load.A

-- the counts of all pairs
pub record Freed (load : Load) (marks place : List ℕ) (all : Counts) : Type 0 where
  pub accepted : all.accepted ≡ pairs load marks place is_accepted
  pub rejected : all.rejected ≡ pairs load marks place is_rejected
  pub fixed : all.fixed ≡ pairs load marks place is_fixed
