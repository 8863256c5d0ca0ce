-- The built-in classes are refused by no row. Assumes nothing.
use Rattle.std.proofs.Common.{◌∙◌}
use Rattle.merge_target.proofs.Told.{built_in_find}
use Rattle.merge_target.proofs.merge_target.Goals as goal

pub returns : goal.returns
returns c = c.merge_target_by_classes.ensures ∙ built_in_find _ _ _ _ _
