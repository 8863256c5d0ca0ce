-- The edge's line is the answer to the question for it. Assumes nothing.
use Rattle.moves_replies.specs.Wrote.{wrote_as}
use Rattle.moves_commands.proofs.Lines.{list_some, line-told}
use Rattle.moves_commands.proofs.edge_lines.Listing.put_line.Goals as goal

pub edge_at-edge-requires : goal.edge_at-edge-requires
edge_at-edge-requires c = list_some c.requires.can_list.1

pub returns : goal.returns
returns c = λ load can. wrote_as (line-told can _ c.edge_at-edge.ensures) c.put_listed.ensures
