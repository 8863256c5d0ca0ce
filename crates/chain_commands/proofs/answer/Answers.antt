-- Nothing without room, and else what is printed. Assumes nothing.
use Rattle.std.proofs.Common.{sym, arith, length, rules}
use Rattle.std.proofs.lemmas.Bool.{lt-leb}
use Rattle.moves_replies.specs.Room.{put-none, put_as}
use Rattle.chain_commands.specs.Printed.{fits}
use Rattle.chain_commands.proofs.answer.Goals as goal

pub returns-then-out-lt-ROOM : goal.returns-then-out-lt-ROOM
returns-then-out-lt-ROOM c = rw (lt-leb 4097 _ c.if-out-lt-ROOM.true) (put-none _ _ (omega arith))

pub returns : goal.returns
returns c =
    let e = sym (fits c.args.input.now (length c.args.out.now) c.if-out-lt-ROOM.false) in
    let p = put_as e c.put_answer.ensures.put in
    search rules
