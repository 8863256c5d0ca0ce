-- The flags of the nodes before x. Assumes nothing.
use Rattle.graph_components.specs.Only.{Flagged}
use Rattle.graph_components.proofs.flag_all.Given as goal

abbrev pub invariant-loop-x : goal.invariant-loop-x
invariant-loop-x l = Flagged l.label l.found l.initial.flags l.x l.flags
