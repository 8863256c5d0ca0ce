-- The warning from the marks of what is depended on. Assumes nothing.
use Rattle.std.proofs.Common.{◌∙◌, arith, ne_eqb}
use Rattle.graphs.specs.Tab.{zeros}
use Rattle.merge_warning.specs.Hits.{warns-target, warns-member, hits_are}
use Rattle.merge_warning.proofs.Closing.{unmarked}
use Rattle.merge_warning.proofs.warn.Goals as goal

pub closure-requires : goal.closure-requires
closure-requires c = record { ends = (c.requires.1, c.requires.2); unmarked = unmarked c.requires.0 }

pub returns-then-marks-target-ne0 : goal.returns-then-marks-target-ne0
returns-then-marks-target-ne0 c = rw (ne_eqb _ 0 c.if-marks-target-ne0.true) (warns-target _ _ _ _ _ _ c.requires.2 (λ x h. zeros 1024 x) (omega (arith, c.requires.0)) c.closure.ensures c.if-marks-target-ne0.true)

pub returns-else-marks-target-ne0 : goal.returns-else-marks-target-ne0
returns-else-marks-target-ne0 c = warns-member _ _ _ _ _ _ c.requires.2 (λ x h. zeros 1024 x) (omega (arith, c.requires.0)) c.closure.ensures c.if-marks-target-ne0.false (c.some_hit.ensures ∙ hits_are _ _ _ _ _)
