-- One more byte, or the end. Assumes nothing.
use Rattle.std.proofs.Common.{refl, arith, rules}
use Rattle.moves_commands.proofs.Lengths.{long_refl, long_trans, stepped_long}
use Rattle.moves_commands.proofs.Feeds.{feeding-none, feeding-room, feeding_on, feeding-short, feeding-over, same_none, same_then}
use Rattle.moves_commands.proofs.feed_on.Goals as goal

pub loop-i-init : goal.loop-i-init
loop-i-init c = record { fed = feeding-none c.requires (omega arith); long = long_refl _; same = same_none _ }

pub room-requires : goal.room-requires
room-requires c = feeding-room c.loop-i.invariant.fed

pub returns-then-room-lt-RESERVE-clause-fed_to : goal.returns-then-room-lt-RESERVE-clause-fed_to
returns-then-room-lt-RESERVE-clause-fed_to c =
    let f = feeding-short c.loop-i.invariant.fed refl refl refl (omega arith) in
    search rules

pub returns-then-room-lt-RESERVE-clause-same : goal.returns-then-room-lt-RESERVE-clause-same
returns-then-room-lt-RESERVE-clause-same c = c.loop-i.invariant.same

pub loop-i-preserved : goal.loop-i-preserved
loop-i-preserved c =
    let v = c.loop-i.invariant in
    let w = c.step.ensures.stepped in
    record {
      fed = feeding_on v.fed c.loop-i-test.true (omega arith) w;
      long = long_trans v.long (stepped_long _ _ w);
      same = same_then v.same c.step.ensures.same;
    }

pub returns-clause-fed_to : goal.returns-clause-fed_to
returns-clause-fed_to c =
    let f = feeding-over c.loop-i.invariant.fed refl refl refl (omega arith) in
    search rules

pub returns-clause-same : goal.returns-clause-same
returns-clause-same c = c.loop-i.invariant.same
