-- `move_load_rows::list_refusal` meets its contract. Assumes nothing.
use Rattle.std.proofs.Common.{sym, ◌∙◌}
use Rattle.move_load_rows.proofs.Rows.{can_own}
use Rattle.move_load_rows.proofs.list_refusal.Goals as goal

pub bad_dependencies-requires : goal.bad_dependencies-requires
bad_dependencies-requires c = can_own c.requires (sym c.bad_starts.ensures ∙ c.if-bad_starts.false)
