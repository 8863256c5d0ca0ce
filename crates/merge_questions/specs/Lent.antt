-- The rows of an area's flags, as they are lent to a walk. Assumes nothing.
use Rattle.std.specs.Prelude.{ℕ, ◌≡◌, List}
use Rattle.graph_walks.specs.declared.FlagRows.{FlagRows}
use Rattle.graph_walks.specs.declared.end_rows.EndRows.{EndRows}
use Rattle.merge_state.specs.declared.Sizes.{Sizes}
use Rattle.merge_area.specs.Layout.{cell, head}
use Rattle.merge_area.specs.Read.{into_in}
use Rattle.merge_area.specs.Merged.{Led}

-- the flags of the chunks that are made
pub record FlagsOf (z : Sizes) (a : List ℕ) (r : FlagRows) : Type 0 where
  pub flags : r.flags.now ≡ a
  pub stride : r.stride ≡ z.chunks
  pub count : r.count ≡ cell a (head z 1)

-- the same with the ends of merges, and the two chunks
pub record EndsOf (z : Sizes) (a : List ℕ) (s t : ℕ) (r : EndRows) : Type 0 where
  pub flags : r.flags.now ≡ a
  pub stride : r.stride ≡ z.chunks
  pub count : r.count ≡ cell a (head z 1)
  pub ends : Led (into_in z a) r.count 1024 r.ends.now
  pub source : r.source ≡ s
  pub target : r.target ≡ t
