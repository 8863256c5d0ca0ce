-- What the pass counts is what the definition's lists are long. Assumes nothing.
use mathlib.Core.Path.{refl}
use Rattle.nidskalm.specs.ReplyLaws.{pass_replied}
use Rattle.nidskalm.proofs.merges.nidskalm_chunk_optimization_graph_pass.Goals as goal

pub returns-clause-value : goal.returns-clause-value
returns-clause-value c = pass_replied c.pass.result _ refl c.pass.ensures c.from.ensures
