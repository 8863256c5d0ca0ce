-- `layout::compare::all_below` meets its contract. Assumes nothing.
use Prim.Native.Nat.{◌+◌}
use native.Mathlib.Omega.{arith}
use lib.ListN.{get_or}
use Rattle.layout.proofs.Deciding.{none_below, below_up_to}
use Rattle.layout.proofs.compare.all_below.Goals as goal

pub returns-then-bound-eq0 : goal.returns-then-bound-eq0
returns-then-bound-eq0 c =
    let g = c.args in
    none_below (λ i. get_or g.list.now (g.at + i) 0) g.k g.bound c.if-bound-eq0.true

pub returns : goal.returns
returns c =
    let g = c.args in
    below_up_to (λ i. get_or g.list.now (g.at + i) 0) g.k g.bound (omega arith) c.none_above.ensures
