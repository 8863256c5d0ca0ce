-- One more line. Assumes nothing.
use Rattle.std.proofs.Common.{arith}
use Rattle.moves_commands.proofs.Lines.{lines_none, lines_room, lines_more}
use Rattle.moves_commands.proofs.edge_lines.Listing.put_lines.Goals as goal

pub loop-k-init : goal.loop-k-init
loop-k-init c = λ load can. lines_none _ _ (omega (arith, c.requires.room))

pub put_line-requires-clause-room : goal.put_line-requires-clause-room
put_line-requires-clause-room c = let l = c.requires.can_list in lines_room _ _ _ (c.loop-k.invariant l.0 l.1) c.loop-k-test.true c.requires.room

pub loop-k-preserved : goal.loop-k-preserved
loop-k-preserved c = λ load can. lines_more _ _ (c.loop-k.invariant load can) (c.put_line.ensures load can)
