-- What was read is answered as the whole input would be. Assumes nothing.
use native.Mathlib.Omega.{arith}
use Rattle.chain.specs.Ran.{ran}
use Rattle.chain.proofs.run.Goals as goal

pub returns : goal.returns
returns c = ran (omega arith) c.read_full-n.ensures c.reply.ensures
