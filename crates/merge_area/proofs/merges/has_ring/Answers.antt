-- Merges run in a ring where one of the ends was merged itself. Assumes nothing.
use Rattle.std.proofs.Common.{ℕ, ◌≡◌, not, eqb, get_or, length, take, replicate, length-take, arith, subst, ap, ◌∙◌}
use Rattle.std.proofs.Math.ListN.{length-replicate}
use Rattle.graphs.specs.Lists.{some_below}
use Rattle.merge_state.specs.State.{None}
use Rattle.merge_area.specs.Read.{into_in}
use Rattle.merge_area.specs.Merged.{Led, ring_is}
use Rattle.merge_area.proofs.merges.has_ring.Goals as goal

pub returns : goal.returns
returns c =
    let f = into_in c.args.sizes c.args.area.now in
    let l = c.find_ends.new.ends in
    let k : length (take {A = ℕ} c.args.n (replicate 1024 0)) ≡ c.args.n = simp (length-take, length-replicate) (omega arith) in
    let e : length l ≡ c.args.n = c.find_ends.auto.ends ∙ k in
    let led : Led f c.args.n 1024 l = subst (λ n. Led f n 1024 l) k c.find_ends.ensures in
    c.some_left.ensures ∙ ap (some_below (λ (x : ℕ). not (eqb (f (get_or l x 0)) None))) e ∙ ring_is f c.args.n c.requires.range led (omega arith)
