-- The lines of the edges up to k are written. Assumes nothing.
use Rattle.move_ledger.specs.Graph.{Load}
use Rattle.moves_replies.specs.Wrote.{Wrote}
use Rattle.moves_commands.specs.Program.{areas, lines}
use Rattle.moves_commands.specs.Steps.{CanList}
use Rattle.moves_commands.proofs.edge_lines.Listing.put_lines.Given as goal

abbrev pub invariant-loop-k : goal.invariant-loop-k
invariant-loop-k l = (load : Load) → CanList load l.self.area.now l.known l.self.order.now l.self.degrees.now → Wrote (lines (areas.asks load l.self.area.now) l.k) l.initial.replies l.replies
