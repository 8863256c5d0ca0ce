-- `move_try::writes::commit` meets its contract. Assumes nothing.
use Rattle.std.proofs.Common.{arith, ap, ◌∙◌}
use Rattle.layout.specs.Patch.{part}
use Rattle.move_edges.specs.Matrix.{matrix}
use Rattle.move_try.specs.Areas.{edges_after, committed}
use Rattle.move_try.specs.Commit.{edges_can, commit_done}
use Rattle.move_try.proofs.writes.commit.Goals as goal

pub overflow_add-edges-2 : goal.overflow_add-edges-2
overflow_add-edges-2 c = omega (arith, (edges_can c.requires.rows c.requires.edges c.follow-changes.ensures.changed).1)

pub overflow_sub-edges : goal.overflow_sub-edges
overflow_sub-edges c = (edges_can c.requires.rows c.requires.edges c.follow-changes.ensures.changed).0

pub returns-clause-area_after : goal.returns-clause-area_after
returns-clause-area_after c =
    let s = c.args in
    let now = matrix s.new.now.sources.now s.new.now.targets.now s.n s.old.now.count in
    let counts = part 0 s.n s.counts.now in
    let changes = c.follow-changes.result in
    let found = edges_after s.n changes.appeared changes.vanished s.area.now in
    commit_done s.n s.atom s.to c.chunks_after-chunks.result found now counts s.area.now c.follow-changes.ensures.area_after c.write_totals.ensures c.copy.ensures c.fill_with.ensures
    ∙ ap (λ k. committed s.n now counts s.atom s.to k found s.area.now) c.chunks_after-chunks.ensures
