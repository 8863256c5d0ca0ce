-- The merges of the chunks that are made can be followed. Assumes nothing.
use Rattle.std.proofs.Common.{ℕ, ◌≡◌, length, length-take, take, arith}
use Rattle.merge_laws.specs.Ordering.{follows}
use Rattle.merge_questions.proofs.end_rows.Goals as goal

pub find_ends-requires : goal.find_ends-requires
find_ends-requires c =
    let k = c.requires.stood.0.headed in
    let e : length (take {A = ℕ} c.header-count.result c.args.ends.now) ≡ c.header-count.result = simp length-take (omega (arith, k.fits, k.within.chunks, c.header-count.ensures)) in
    rw e (follows _ _ c.requires.stood.0 c.requires.stood.1 c.header-count.ensures)
