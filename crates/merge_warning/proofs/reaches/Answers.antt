-- What one chunk depends on, closed, is what it reaches. Assumes nothing.
use Rattle.std.proofs.Common.{◌∙◌, arith}
use Rattle.graphs.specs.Tab.{zeros}
use Rattle.graph_walks.specs.ClosedLaws.{flag_from, flag-to}
use Rattle.merge_warning.specs.Hits.{marked-yes, closed-reach}
use Rattle.merge_warning.proofs.Closing.{unmarked}
use Rattle.merge_warning.proofs.reaches.Goals as goal

pub closure-requires : goal.closure-requires
closure-requires c = record { ends = (c.requires.1, c.requires.1); unmarked = unmarked c.requires.0 }

pub returns : goal.returns
returns c = marked-yes _ _ _ _ (λ x h. zeros 1024 x) (omega (arith, c.requires.0)) c.closure.ensures _ c.requires.2 ∙ closed-reach _ _ (flag_from _ _ _) (flag-to _ _ _) _ _
