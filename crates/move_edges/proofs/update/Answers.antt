-- `move_edges::update` meets its contract. Assumes nothing.
use Rattle.move_edges.proofs.Following.{update_gain, update_shed, update_done}
use Rattle.move_edges.proofs.Counting.{update_changes}
use Rattle.move_edges.proofs.update.Goals as goal

pub gain_all-appeared-requires : goal.gain_all-appeared-requires
gain_all-appeared-requires c = update_gain c.requires

pub shed_all-vanished-requires : goal.shed_all-vanished-requires
shed_all-vanished-requires c = update_shed c.requires c.gain_all-appeared.ensures.grown

pub returns : goal.returns
returns c = record {
  changed = update_changes c.requires c.gain_all-appeared.ensures.grown c.shed_all-vanished.ensures.fallen c.gain_all-appeared.ensures.n_value c.shed_all-vanished.ensures.n_after;
  edges_after = update_done c.requires c.gain_all-appeared.ensures.grown c.shed_all-vanished.ensures.fallen;
}
