-- A slot passes where it goes on. Assumes nothing.
use Rattle.std.proofs.Common.{rules, tests}
use Rattle.move_freedom.specs.Steps.{goes}
use Rattle.move_freedom.proofs.steps.steps.Goals as goal

pub returns : goal.returns
returns c = c.flag_targets.ensures (goes c.args.marks.now c.args.skip) (λ u v r p. search (rules, tests))
