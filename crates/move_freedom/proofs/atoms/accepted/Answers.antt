-- The slots without the atom decide whether any set is open, the walks which. Assumes nothing.
use Rattle.std.proofs.Common.{refl}
use Rattle.move_freedom.proofs.AtomCounts.{aside_asks, rest_asks, open_asks, count_none, count_open}
use Rattle.move_freedom.proofs.atoms.accepted.Goals as goal

pub set_aside-requires : goal.set_aside-requires
set_aside-requires c = aside_asks c.requires refl refl

pub rest_cyclic-requires : goal.rest_cyclic-requires
rest_cyclic-requires c = rest_asks c.requires c.set_aside.auto.sources c.set_aside.auto.targets c.set_aside.ensures c.atom_counts-counts.ensures

pub returns-then-rest_cyclic : goal.returns-then-rest_cyclic
returns-then-rest_cyclic c = count_none c.requires c.set_aside.auto.sources c.set_aside.auto.targets c.set_aside.ensures c.atom_counts-counts.ensures c.rest_cyclic.ensures c.if-rest_cyclic.true

pub open_nodes-requires : goal.open_nodes-requires
open_nodes-requires c = open_asks c.requires c.set_aside.auto.sources c.set_aside.auto.targets c.set_aside.ensures c.atom_counts-counts.ensures

pub returns : goal.returns
returns c = count_open c.requires c.set_aside.auto.sources c.set_aside.auto.targets c.set_aside.ensures c.atom_counts-counts.ensures c.rest_cyclic.ensures c.if-rest_cyclic.false c.node_of-own.ensures c.open_nodes.ensures
