-- `move_try::test::closes_cycle` meets its contract. Assumes nothing.
use Rattle.std.proofs.Common.{ℕ, Bool, ap, ◌∙◌}
use Rattle.graphs.specs.Lists.{below}
use Rattle.graphs.specs.Slots.{slot_edge}
use Rattle.graphs.specs.Walk.{cyclic}
use Rattle.graph_slots.specs.Listing.{slot-lists}
use Rattle.move_try.specs.Test.{search_done, walk_can, walk_done}
use Rattle.move_try.proofs.test.closes_cycle.Goals as goal

pub has_cycle-requires : goal.has_cycle-requires
has_cycle-requires c = ((slot-lists c.requires.0.ask c.requires.1 c.group.ensures).graph, c.requires.0.ask.nodes)

pub returns-then-area-n-eq0 : goal.returns-then-area-n-eq0
returns-then-area-n-eq0 c =
    let s = c.args in
    let lists = slot-lists c.requires.0.ask c.requires.1 c.group.ensures in
    let d = search_done (slot_edge s.slots.now.sources.now s.slots.now.targets.now s.slots.now.count) s.n s.to s.area.now c.if-area-n-eq0.true (c.has_cycle.ensures ∙ ap (λ (f : ℕ → ℕ → Bool). cyclic f (below s.n)) lists.same) in
    record { value = d.0; area_after = d.1; slot_lists = lists }

pub reaches_itself-requires : goal.reaches_itself-requires
reaches_itself-requires c = walk_can c.requires.0 (slot-lists c.requires.0.ask c.requires.1 c.group.ensures) c.raise-counter.ensures.value c.raise-counter.ensures.area_after

pub returns : goal.returns
returns c =
    let s = c.args in
    let lists = slot-lists c.requires.0.ask c.requires.1 c.group.ensures in
    let walked = rw lists.same at c.reaches_itself.ensures in
    let d = walk_done (slot_edge s.slots.now.sources.now s.slots.now.targets.now s.slots.now.count) s.n s.to s.area.now c.if-area-n-eq0.false c.raise-counter.ensures.value c.raise-counter.ensures.area_after (walked.value, walked.area_after) in
    record { value = d.0; area_after = d.1; slot_lists = lists }
