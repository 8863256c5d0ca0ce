-- One dependency more. Assumes nothing.
use Rattle.std.proofs.Common.{◌+◌, ◌≡◌, arith}
use Rattle.merge_laws.specs.Keeps.{linked_can, linked-none, linked-more}
use Rattle.merge_dependencies.proofs.add_links.Goals as goal

pub loop-m-init : goal.loop-m-init
loop-m-init c = linked-none _ _ _ _ _

pub add_link-requires : goal.add_link-requires
add_link-requires c = let e : 0 + c.loop-m.m-index ≡ c.loop-m.m-index = omega arith in rw c.home.ensures (rw e at (linked_can _ _ _ _ _ _ c.requires _ _ c.loop-m.invariant (omega arith)))

pub loop-m-preserved : goal.loop-m-preserved
loop-m-preserved c = let e : 0 + c.loop-m.m-index ≡ c.loop-m.m-index = omega arith in linked-more _ _ _ _ _ _ c.loop-m.invariant (rw e (rw c.home.ensures at c.add_link.ensures))
