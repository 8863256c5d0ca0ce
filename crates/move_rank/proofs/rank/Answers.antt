-- Chunks and edges decide, or the sets. Assumes nothing.
use Rattle.std.proofs.Common.{ap₂, ◌∙◌}
use Rattle.std.specs.Ordering.{ordering_then}
use Rattle.move_rank.specs.RankLaws.{totals_decide, totals_equal}
use Rattle.move_rank.specs.Atoms.{placed, can_read}
use Rattle.move_rank.proofs.rank.Goals as goal

pub invariant_of-first : goal.invariant_of-first
invariant_of-first c = record { readable = can_read c.requires.1.atoms c.requires.1.one }

pub invariant_of-second : goal.invariant_of-second
invariant_of-second c = record { readable = can_read c.requires.1.atoms c.requires.1.other }

pub returns-in-Equal : goal.returns-in-Equal
returns-in-Equal c = λ load b.
    c.rank_sets.ensures _ _ (placed b.atoms b.one) (placed b.atoms b.other)
    ∙ totals_equal load _ _ (c.chunk_count.ensures load _ b.one) (c.chunk_count-2.ensures load _ b.other) (c.edge_count.ensures load _ b.one) (c.edge_count-2.ensures load _ b.other)
    (c.then.ensures ∙ ap₂ ordering_then c.cmp-chunks.ensures c.cmp-edges.ensures) c.in-Equal.is

pub returns-in_default : goal.returns-in_default
returns-in_default c = λ load b.
    totals_decide load _ _ (c.chunk_count.ensures load _ b.one) (c.chunk_count-2.ensures load _ b.other) (c.edge_count.ensures load _ b.one) (c.edge_count-2.ensures load _ b.other)
    (c.then.ensures ∙ ap₂ ordering_then c.cmp-chunks.ensures c.cmp-edges.ensures) c.in_default.not-Equal
