-- Sets are there twice where they aren't distinct. Assumes nothing.
use Rattle.merge_area.proofs.Laws.{sets-twice}
use Rattle.merge_area.proofs.Area.repeat_among.Goals as goal

pub returns : goal.returns
returns g c = let a = c.args.self.now in rw c.header-n.ensures at (sets-twice a.sizes a.numbers.now c.header-n.result (rw c.places.ensures at c.set-at.ensures) c.row_is_distinct.ensures)
