-- The choice on the two structs is that on the parameters. Assumes nothing.
use mathlib.Core.Path.{◌∙◌, ap}
use Rattle.merge_choice.specs.Find.{find}
use Rattle.merge_target.specs.declared.Candidate.{Candidate}
use Rattle.nidskalm_replies.specs.Replies.{merge_reply}
use Rattle.nidskalm_c.proofs.Structs.{same_choice}
use Rattle.nidskalm_c.proofs.targets.nidskalm_chunk_optimization_graph_merge_target.Goals as goal

pub returns : goal.returns
returns c =
    let e = c.bundle-bundle.ensures in
    let candidate : Candidate = record { set = record { 0 = c.args.set0; 1 = c.args.set1; 2 = c.args.set2; 3 = c.args.set3 }; modules = c.args.candidate } in
    c.nidskalm_chunk_optimization_graph_merge_target.ensures ∙ ap merge_reply (same_choice find e.chunks e.modules e.kinds (e.lists candidate))
