-- The mode, then all but the list entries, then these. Assumes nothing.
use Rattle.merge_loading.specs.Rows.{load_list}
use Rattle.merge_loading.proofs.entries.load.Goals as goal

pub list_modules-requires : goal.list_modules-requires
list_modules-requires c = load_list c.requires (rw (← c.write_mode.ensures) c.write_bare.ensures)
