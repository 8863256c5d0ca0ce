-- The counts that pass are those of nodes with an atom. Assumes nothing.
use Rattle.std.proofs.Common.{◌≡◌, ◌∙◌, sym, not, eqb, rules}
use Rattle.std.specs.List.{count_by}
use Rattle.move_freedom.proofs.Counting.{counted}
use Rattle.move_freedom.proofs.flags.occupied_nodes.Goals as goal

pub returns : goal.returns
returns c =
    let e : c.count.result ≡ count_by (λ x. not (eqb x 0)) c.args.counts.now = search rules in
    e ∙ sym (counted (λ x. not (eqb x 0)) c.args.counts.now)
