-- `move_load_rows::atom_fails` meets its contract. Assumes nothing.
use Rattle.std.proofs.Common.{rules, ◌∙◌}
use Rattle.move_load_rows.specs.Checks.{not_other, bad_span}
use Rattle.move_load_rows.proofs.Searching.{any_is}
use Rattle.move_load_rows.proofs.Spans.{part_span}
use Rattle.move_load_rows.proofs.atom_fails.Goals as goal

pub returns : goal.returns
unfolding bad_span
returns c =
    let p = not_other c.args.load.now.atoms c.args.atom in
    any_is p c.dependencies_of.result.now _ (search rules) ∙ part_span p c.requires c.dependencies_of.ensures
