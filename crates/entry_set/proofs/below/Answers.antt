-- `below`: a shift by `limit` leaves nothing. Assumes nothing.
use Rattle.std.proofs.Common.{◌^◌, ◌≤◌, ◌∙◌, sym, arith, lt-ltb, le-leb, pow_mono}
use Rattle.entry_set.proofs.Compare.{shifted_out}
use Rattle.entry_set.proofs.below.Goals as goal

pub returns-then-limit-ge64 : goal.returns-then-limit-ge64
returns-then-limit-ge64 c =
    let s = c.args in
    let wide : 2 ^ 64 ≤ 2 ^ s.limit = pow_mono c.if-limit-ge64.true in
    le-leb 64 s.limit c.if-limit-ge64.true ∙ sym (lt-ltb s.x (2 ^ s.limit) (omega (arith, wide, c.ranges.x)))

pub returns-else-limit-ge64 : goal.returns-else-limit-ge64
returns-else-limit-ge64 c = shifted_out c.args.x c.args.limit
