-- `move_loading::start::write_start` meets its contract. Assumes nothing.
use Rattle.std.proofs.Common.{arith}
use Rattle.move_load_view.specs.View.{lent_by}
use Rattle.move_loading.proofs.Starting.{words_can, start_written}
use Rattle.move_loading.proofs.start.write_start.Goals as goal

pub write_sets-requires : goal.write_sets-requires
write_sets-requires c = words_can c.requires (omega arith) c.set_width.ensures

pub returns : goal.returns
returns c =
    start_written (lent_by c.args.load.now) c.args.n c.set_width.result c.args.sets.now c.args.area.now c.set_width.ensures c.write_header.ensures c.write_sets.ensures
    c.fill_with.ensures c.fill_with-2.ensures c.fill_with-3.ensures c.write_numbers.ensures
