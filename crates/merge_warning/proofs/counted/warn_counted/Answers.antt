-- The warning from the marks of what is depended on. Assumes nothing.
use Rattle.std.proofs.Common.{◌∙◌, arith, ne_eqb}
use Rattle.graphs.specs.Tab.{zeros}
use Rattle.merge_warning.specs.Hits.{warns-target, warns-member}
use Rattle.merge_warning.specs.EndHits.{end-hits_are}
use Rattle.merge_warning.proofs.Closing.{unmarked}
use Rattle.merge_warning.proofs.counted.warn_counted.Goals as goal

pub closure_ends-requires : goal.closure_ends-requires
closure_ends-requires c = unmarked c.requires

pub returns-then-marks-rows-ne0 : goal.returns-then-marks-rows-ne0
returns-then-marks-rows-ne0 c = rw (ne_eqb _ 0 c.if-marks-rows-ne0.true) (warns-target _ _ _ _ _ _ c.args.rows.now.second (λ x h. zeros 1024 x) (omega (arith, c.requires)) c.closure_ends.ensures c.if-marks-rows-ne0.true)

pub returns-else-marks-rows-ne0 : goal.returns-else-marks-rows-ne0
returns-else-marks-rows-ne0 c = warns-member _ _ _ _ _ _ c.args.rows.now.second (λ x h. zeros 1024 x) (omega (arith, c.requires)) c.closure_ends.ensures c.if-marks-rows-ne0.false (c.some_end_hit.ensures ∙ end-hits_are _ _ _ _ _ _ _ c.args.rows.now.lent.each)
