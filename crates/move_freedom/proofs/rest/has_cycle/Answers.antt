-- The lists are those of the graph without the node. Assumes nothing.
use Rattle.std.proofs.Common.{refl}
use Rattle.move_freedom.proofs.Blanking.{rest_graph, rest-done}
use Rattle.move_freedom.proofs.rest.has_cycle.Goals as goal

pub has_cycle-requires : goal.has_cycle-requires
has_cycle-requires c = (rest_graph c.requires c.blanks.ensures refl refl c.group.ensures, c.requires.nodes)

pub returns : goal.returns
returns c = rest-done c.requires c.blanks.ensures refl refl c.group.ensures c.has_cycle.ensures
