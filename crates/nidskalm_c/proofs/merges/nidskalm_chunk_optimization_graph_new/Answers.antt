-- A loading is lent by its parameters, with a flag for the mode. Assumes nothing.
use mathlib.Core.Path.{◌∙◌, ap}
use Rattle.nidskalm_replies.specs.Replies.{merge_reply}
use Rattle.nidskalm_c.proofs.Structs.{loads}
use Rattle.nidskalm_c.proofs.merges.nidskalm_chunk_optimization_graph_new.Goals as goal

pub returns : goal.returns
returns c =
    let e = loads c.sizes.ensures c.args.initial c.args.starts.now c.args.modules.now c.args.sets.now c.args.chunks.now c.args.effects.now c.args.mode c.args.area.now in
    record { value = c.nidskalm_chunk_optimization_graph_new.ensures.value ∙ ap (λ x. merge_reply x.0) e; area_after = c.nidskalm_chunk_optimization_graph_new.ensures.area_after ∙ ap (λ x. x.1) e }
