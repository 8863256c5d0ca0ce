-- Before the first step. Assumes nothing.
use Rattle.std.proofs.lemmas.List.{get_or-replicate}
use Rattle.graph_depth_first.proofs.Views.{held_none}
use Rattle.graph_colours.specs.declared.State.TheVariants.{White}
use Rattle.graph_depth_first.proofs.DepthFirst.new.Goals as goal

pub returns : goal.returns
returns g c = record { white = λ x b. get_or-replicate g.row.N x White White b; none = λ x b. get_or-replicate g.row.N x 0 0 b; empty = held_none _ }
