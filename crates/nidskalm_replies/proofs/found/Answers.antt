-- The sets of an edge are those of their numbers. Assumes nothing.
use mathlib.Core.Path.{refl, ap₂, ap, ◌∙◌}
use borrow.Author.Rules.{rules}
use Rattle.entry_set.specs.SetLaws.{Known, known-holds}
use Rattle.nidskalm_replies.specs.Replies.{of_sets}
use Rattle.nidskalm_replies.proofs.found.Goals as goal

pub returns : goal.returns
returns c =
    let from : Known c.args.edge.from = search rules in
    let to : Known c.args.edge.to = search rules in
    ap (of_sets c.args.edge.from c.args.edge.to) c.from.ensures
    ∙ ap₂ (λ x y. of_sets x y c.args.edge.multiplicity) (known-holds from refl).set (known-holds to refl).set
