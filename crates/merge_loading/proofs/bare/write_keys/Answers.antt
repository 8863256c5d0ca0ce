-- One key more at each turn. Assumes nothing.
use Rattle.std.proofs.Common.{arith}
use Rattle.merge_loading.proofs.Laws.{key_more, key-done}
use Rattle.merge_loading.proofs.bare.write_keys.Goals as goal

pub loop-k-preserved : goal.loop-k-preserved
loop-k-preserved c = key_more _ c.loop-k.invariant c.loop-k-test.true c.requires.0 c.key_of.ensures

pub returns : goal.returns
returns c = key-done _ c.loop-k.invariant (omega arith)
