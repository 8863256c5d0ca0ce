-- `move_slots::slots::entry_sources` meets its contract. Assumes nothing.
use Rattle.std.proofs.Common.{arith, rules, ap, ◌∙◌, ◌≡◌, length, replicate}
use Rattle.layout.specs.Lent.{put-patch}
use Rattle.layout.specs.Patch.{patch}
use Rattle.move_ledger.specs.Graph.{at}
use Rattle.move_slots.proofs.Slotting.{entries_can, entries-end, sources_can, sources-more}
use Rattle.move_slots.proofs.slots.entry_sources.Goals as goal

pub dependencies_of-requires : goal.dependencies_of-requires
dependencies_of-requires c = entries_can c.requires c.loop-atom.atom (omega arith)

pub overflow_add-to : goal.overflow_add-to
overflow_add-to c = let v = c.loop-atom.invariant in omega (arith, sources_can c.requires v.0 c.dependencies_of.ensures v.1 (omega arith))

pub offset_bounds-sources-from : goal.offset_bounds-sources-from
offset_bounds-sources-from c = let v = c.loop-atom.invariant in omega (arith, sources_can c.requires v.0 c.dependencies_of.ensures v.1 (omega arith))

pub slice_bounds-fill-end : goal.slice_bounds-fill-end
slice_bounds-fill-end c = let v = c.loop-atom.invariant in omega (arith, sources_can c.requires v.0 c.dependencies_of.ensures v.1 (omega arith))

pub loop-atom-preserved : goal.loop-atom-preserved
loop-atom-preserved c =
    let v = c.loop-atom.invariant in
    let e = c.dependencies_of.ensures in
    let b = sources_can c.requires v.0 e v.1 (omega arith) in
    let filled : c.fill.new.self ≡ replicate (length c.dependencies_of.result.now) (at c.args.nodes.now c.loop-atom.atom) = search rules in (
      entries-end c.requires v.0 e v.1 (omega arith),
      sources-more c.requires v.0 e v.1 (omega arith) (put-patch c.loop-atom.from _ c.loop-atom.sources c.fill.new.self (omega arith) b (omega (arith, c.fill.ensures.len)) ∙ ap (λ v. patch c.loop-atom.from v c.loop-atom.sources) filled),
    )
