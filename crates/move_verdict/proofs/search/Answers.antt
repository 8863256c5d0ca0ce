-- `move_verdict::search` meets its contract. Assumes nothing.
use Rattle.move_verdict.proofs.Searching.{searched_group, searched_graph, searched-says, first_long}
use Rattle.move_verdict.proofs.search.Goals as goal

pub group-requires : goal.group-requires
group-requires g c = let r = c.requires in let f = c.fill_own_slots in searched_group r.can r.room f.ensures c.slot_count.ensures f.auto.sources f.auto.targets f.auto.counts

pub has_cycle-requires : goal.has_cycle-requires
has_cycle-requires g c = let r = c.requires in let f = c.fill_own_slots in searched_graph r.can r.room f.ensures c.slot_count.ensures f.auto.sources f.auto.targets f.auto.counts c.group.ensures (first_long _ _ _ r.room.colours)

pub returns : goal.returns
returns g c = let r = c.requires in let f = c.fill_own_slots in searched-says r.can r.room f.ensures c.slot_count.ensures f.auto.sources f.auto.targets f.auto.counts c.group.ensures (first_long _ _ _ r.room.colours) c.has_cycle.ensures
