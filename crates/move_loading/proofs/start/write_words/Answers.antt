-- `move_loading::start::write_words`: the lane that is back is a patch. Assumes nothing.
use Rattle.std.proofs.Common.{arith, rules}
use Rattle.move_loading.specs.Start.{lent_word}
use Rattle.move_loading.proofs.Starting.{lane_room}
use Rattle.move_loading.proofs.Tabbing.{tabbed}
use Rattle.move_loading.proofs.start.write_words.Goals as goal

pub returns : goal.returns
returns c =
    let s = c.args in
    tabbed (lent_word s.width s.sets.now s.j) s.area.now _ s.count c.loop-i.lane (lane_room c.requires.0 s.j c.requires.1) (search rules) (λ i h. c.loop-i.invariant i (omega arith))
