-- The links of one entry more. Assumes nothing.
use Rattle.std.proofs.Common.{ap, get_or, arith}
use Rattle.merge_laws.specs.Keeps.{calc_can, calc_module, calc_none, calc_more}
use Rattle.merge_dependencies.proofs.Parts.{all_linked, can_part}
use Rattle.merge_dependencies.proofs.calculate.Goals as goal

pub loop-i-init : goal.loop-i-init
loop-i-init c = calc_none _ _ _ _

pub bounds-starts-m : goal.bounds-starts-m
bounds-starts-m c = omega (arith, ap (λ p. get_or c.loop-i.area p 0) c.entry_module.ensures, (calc_module _ _ _ _ _ c.requires _ _ c.loop-i.invariant c.loop-i-test.true).0)

pub bounds-starts-m-in-loop-i : goal.bounds-starts-m-in-loop-i
bounds-starts-m-in-loop-i c = omega (arith, ap (λ p. get_or c.loop-i.area p 0) c.entry_module.ensures, (calc_module _ _ _ _ _ c.requires _ _ c.loop-i.invariant c.loop-i-test.true).0)

pub slice_bounds-add_links-count : goal.slice_bounds-add_links-count
slice_bounds-add_links-count c = rw c.entry_module.ensures (calc_module _ _ _ _ _ c.requires _ _ c.loop-i.invariant c.loop-i-test.true).1

pub slice_bounds-add_links-start : goal.slice_bounds-add_links-start
slice_bounds-add_links-start c = rw c.entry_module.ensures (calc_module _ _ _ _ _ c.requires _ _ c.loop-i.invariant c.loop-i-test.true).1

pub add_links-requires : goal.add_links-requires
add_links-requires c =
    rw (c.entry_module.ensures, c.entry_chunk.ensures)
    (let can = calc_can _ _ _ _ _ c.requires _ _ c.loop-i.invariant c.loop-i-test.true in can_part _ _ _ can.part can)

pub loop-i-preserved : goal.loop-i-preserved
loop-i-preserved c =
    let can = calc_can _ _ _ _ _ c.requires _ _ c.loop-i.invariant c.loop-i-test.true in
    calc_more _ _ _ _ _ c.loop-i.invariant (all_linked _ _ _ can.part _ _ _ (rw (c.entry_module.ensures, c.entry_chunk.ensures) at c.add_links.ensures))
