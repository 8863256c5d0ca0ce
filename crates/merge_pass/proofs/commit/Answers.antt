-- One chunk more at each turn. Assumes nothing.
use Rattle.std.proofs.Common.{arith, ◌∙◌, sym, get_or}
use Rattle.merge_state.specs.Named.{proper-named}
use Rattle.merge_pass.specs.Turns.{TurnedIn}
use Rattle.merge_pass.specs.Going.{going_none, going_more, going_done}
use Rattle.merge_pass.specs.Placing.{turn-none}
use Rattle.merge_pass.proofs.Bars.{turn_place, turn_done, turn_of, room_of}
use Rattle.merge_pass.proofs.commit.Goals as goal
use Rattle.merge_pass.proofs.commit.Goals.{then-is_waiting, else-is_waiting}

pub loop-k-init : goal.loop-k-init
loop-k-init c = (c.header-made.ensures, going_none _ _ _ _ _ _)

pub invariant_of-standing : goal.invariant_of-standing
invariant_of-standing c = record { headed = (turn_of c.requires c.loop-k.invariant c.loop-k-test.true).stood.headed }

pub is_waiting-requires : goal.is_waiting-requires
is_waiting-requires c = let t = turn_of c.requires c.loop-k.invariant c.loop-k-test.true in omega (arith, t.source, t.stood.headed.fits)

pub place-placed-requires : goal.place-placed-requires
place-placed-requires c =
    let p = get_or c.args.proposals.now c.loop-k.j 0 in
    rw c.named-proposal.ensures (turn_place (turn_of c.requires c.loop-k.invariant c.loop-k-test.true) c.is_waiting.ensures c.if-is_waiting.true, proper-named p)

pub offset_bounds-proposals-j : goal.offset_bounds-proposals-j
offset_bounds-proposals-j c = omega (arith, (room_of c.requires c.loop-k.invariant c.loop-k-test.true c.is_waiting.ensures c.if-is_waiting.true).proposals)

pub bounds-proposals-j : goal.bounds-proposals-j
bounds-proposals-j c = omega (arith, (room_of c.requires c.loop-k.invariant c.loop-k-test.true c.is_waiting.ensures c.if-is_waiting.true).proposals)

pub offset_bounds-bars-j : goal.offset_bounds-bars-j
offset_bounds-bars-j c = omega (arith, (room_of c.requires c.loop-k.invariant c.loop-k-test.true c.is_waiting.ensures c.if-is_waiting.true).bars)

pub bounds-bars-j : goal.bounds-bars-j
bounds-bars-j c = omega (arith, (room_of c.requires c.loop-k.invariant c.loop-k-test.true c.is_waiting.ensures c.if-is_waiting.true).bars)

pub offset_bounds-kinds-j : goal.offset_bounds-kinds-j
offset_bounds-kinds-j c = omega (arith, (room_of c.requires c.loop-k.invariant c.loop-k-test.true c.is_waiting.ensures c.if-is_waiting.true).kinds)

pub bounds-kinds-j : goal.bounds-kinds-j
bounds-kinds-j c = omega (arith, (room_of c.requires c.loop-k.invariant c.loop-k-test.true c.is_waiting.ensures c.if-is_waiting.true).kinds)

pub offset_bounds-numbers-j : goal.offset_bounds-numbers-j
offset_bounds-numbers-j c = omega (arith, (room_of c.requires c.loop-k.invariant c.loop-k-test.true c.is_waiting.ensures c.if-is_waiting.true).numbers)

pub bounds-numbers-j : goal.bounds-numbers-j
bounds-numbers-j c = omega (arith, (room_of c.requires c.loop-k.invariant c.loop-k-test.true c.is_waiting.ensures c.if-is_waiting.true).numbers)

pub overflow_add-j : goal.overflow_add-j
overflow_add-j c = omega (arith, (room_of c.requires c.loop-k.invariant c.loop-k-test.true c.is_waiting.ensures c.if-is_waiting.true).proposals)

pub loop-k-preserved : goal.loop-k-preserved
loop-k-preserved c =
    let s = c.args in
    let v = c.loop-k in
    let e = c.if-is_waiting in
    let can = turn_of c.requires v.invariant c.loop-k-test.true in
    let turned : TurnedIn s.sizes v.area s.proposals.now s.bars.now v.kinds v.numbers v.k v.j e.j e.area e.kinds e.numbers = elim e.branch [
      | then-is_waiting w ↦ rw (w.area-is, w.kinds-is, w.numbers-is, w.j-is, w.kind.ensures, w.number.ensures)
          (turn_done can c.is_waiting.ensures w.if-is_waiting.true (rw w.named-proposal.ensures at w.place-placed.ensures))
      | else-is_waiting w ↦ rw (w.area-is, w.kinds-is, w.numbers-is, w.j-is) (turn-none can (sym c.is_waiting.ensures ∙ w.if-is_waiting.false))
    ]
    in
    (v.invariant.0, going_more c.requires v.invariant.1 (omega (arith, v.invariant.0)) turned)

pub returns : goal.returns
returns c = going_done c.requires c.loop-k.invariant.1 (omega (arith, c.loop-k.invariant.0, c.loop-k.invariant.1.few))
