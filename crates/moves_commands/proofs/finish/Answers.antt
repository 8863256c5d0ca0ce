-- Nothing is said without room, by a program that has stopped, or where no command is cut. Assumes nothing.
use Rattle.std.proofs.Common.{rules, arith}
use Rattle.moves_replies.specs.Room.{put-none, put_as}
use Rattle.moves_commands.proofs.Turns.{unsaid_short, unsaid_stopped, unsaid_done}
use Rattle.moves_commands.proofs.finish.Goals as goal
use Rattle.moves_commands.proofs.finish.Goals.{then-out-lt64-via-then-out-lt64, then-out-lt64-via-else-out-lt64+then-machine, then-out-lt64-via-else-out-lt64+else-machine+then-not-cut}

pub returns-then-out-lt64 : goal.returns-then-out-lt64
returns-then-out-lt64 c = elim c.then-out-lt64.branch [
  | then-out-lt64-via-then-out-lt64 w ↦ put_as (unsaid_short _ _ w.if-out-lt64.true) (put-none _ _ (omega arith))
  | then-out-lt64-via-else-out-lt64+then-machine w ↦ put_as (unsaid_stopped _ _ w.if-machine.true) (put-none _ _ (omega arith))
  | then-out-lt64-via-else-out-lt64+else-machine+then-not-cut w ↦ put_as (unsaid_done _ _ (search rules)) (put-none _ _ (omega arith))
]
