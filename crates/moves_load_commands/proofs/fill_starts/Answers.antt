-- A list with each start is the list of the starts. Assumes nothing.
use Rattle.std.proofs.Common.{arith}
use Rattle.graphs.specs.Tab.{is_tab}
use Rattle.moves_load_commands.proofs.fill_starts.Goals as goal

pub returns : goal.returns
returns c = is_tab _ _ _ c.loop-i.auto.starts (λ k h. c.loop-i.invariant k (omega arith))
