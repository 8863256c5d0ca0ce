-- A root with no label gets its component labelled. Assumes nothing.
use Rattle.graph_components.proofs.Labels.{part_can, part-new, part_skip}
use Rattle.graph_components.proofs.part.Goals as goal

pub gather-requires : goal.gather-requires
gather-requires c = part_can c.args.k c.requires.0 c.requires.2 c.if-label-root-eq0.true

pub returns-then-label-root-eq0 : goal.returns-then-label-root-eq0
returns-then-label-root-eq0 c = part-new c.args.k c.requires.0 c.if-label-root-eq0.true c.gather.ensures c.gather.auto.label c.gather.auto.stack

pub returns-else-label-root-eq0 : goal.returns-else-label-root-eq0
returns-else-label-root-eq0 c = part_skip c.args.k c.requires.0 c.if-label-root-eq0.false
