-- A marked chunk, and its flag. Assumes nothing.
use Rattle.std.proofs.Common.{eq-eqb}
use Rattle.merge_warning.specs.Hits.{hit_none, hit_some}
use Rattle.merge_warning.proofs.hits.Goals as goal

pub returns-then-marks-x-ne0 : goal.returns-then-marks-x-ne0
returns-then-marks-x-ne0 c = hit_some _ _ _ _ _ _ c.if-marks-x-ne0.true c.requires.2 c.requires.3

pub returns-else-marks-x-ne0 : goal.returns-else-marks-x-ne0
returns-else-marks-x-ne0 c = rw (eq-eqb _ 0 c.if-marks-x-ne0.false) (hit_none _ _ _ _ _ _ c.if-marks-x-ne0.false)
