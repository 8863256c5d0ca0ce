-- The proof of the cycle of calls {edges, open}. Assumes nothing.
use Rattle.std.proofs.Common.{◌≡◌, ℕ, ◌<◌, ◌∙◌, List, length, set, get_or, subst, sym, ap, arith, length-set}
use Rattle.graphs.specs.Total.{whites}
use Rattle.graph_colours.specs.declared.State.TheVariants.{White, Gray}
use Rattle.graph_colours.specs.States.{code}
use borrow.Author.Rules.{rules}
use Rattle.graph_neighbours.specs.Followed.{followed}
use Rattle.graph_neighbours.specs.Lists.{deg, part_long}
use Rattle.graph_book_walk.specs.Book.{at, CanOpen, CanGo, Gone}
use Rattle.graph_book_walk.proofs.Falling.{falling}
use Rattle.graph_book_walk.proofs.Colours.{open_go, open_less, open_done, going_gray, going_less, going_can}
use Rattle.graph_book_walk.proofs.+edges_open.Goals as goal

pub edges-open-requires : goal.edges-open-requires
edges-open-requires t c =
    let b : c.loop-y.y-index < deg c.args.graph.now.starts.now c.args.x = omega (arith, ap length c.of-neighbours.ensures, part_long c.requires.graph _ c.requires.node) in
    let z : get_or c.loop-y.colour (get_or c.of-neighbours.result.now c.loop-y.y-index 0) White ≡ White = search rules in
    let is = ap (λ (p : List ℕ). get_or p c.loop-y.y-index 0) c.of-neighbours.ensures in (
      subst (λ (j : ℕ). falling (whites (length c.loop-y.colour) (at c.loop-y.colour)) (length (followed c.args.graph.now)) 0 < j) c.decreases (going_less c.loop-y.invariant b is),
      subst (λ (j : ℕ). CanOpen c.args.graph.now.starts.now (followed c.args.graph.now) j c.loop-y.colour (get_or c.of-neighbours.result.now c.loop-y.y-index 0)) (sym c.loop-y.invariant.long) (going_can c.loop-y.invariant b is (ap code z)),
    )

pub edges-returns-in-Gray : goal.edges-returns-in-Gray
edges-returns-in-Gray t c =
    let b : c.loop-y.y-index < deg c.args.graph.now.starts.now c.args.x = omega (arith, ap length c.of-neighbours.ensures, part_long c.requires.graph _ c.requires.node) in
    let z : get_or c.loop-y.colour (get_or c.of-neighbours.result.now c.loop-y.y-index 0) White ≡ Gray = search rules in
    going_gray c.loop-y.invariant b (ap (λ (p : List ℕ). get_or p c.loop-y.y-index 0) c.of-neighbours.ensures) (ap code z)

pub open-edges-met-requires : goal.open-edges-met-requires
open-edges-met-requires t c =
    let q : length (set c.args.colour.now c.args.x Gray) ≡ length c.args.colour.now = length-set c.args.colour.now c.args.x Gray in (
      subst (λ (j : ℕ). falling (whites (length (set c.args.colour.now c.args.x Gray)) (at (set c.args.colour.now c.args.x Gray))) (length (followed c.args.graph.now)) (deg c.args.graph.now.starts.now c.args.x) < j) c.decreases (open_less c.requires),
      subst (λ (j : ℕ). CanGo c.args.graph.now.starts.now (followed c.args.graph.now) j (set c.args.colour.now c.args.x Gray) c.args.x) (sym q) (open_go c.requires),
    )

pub open-returns : goal.open-returns
open-returns t c =
    let q : length (set c.args.colour.now c.args.x Gray) ≡ length c.args.colour.now = length-set c.args.colour.now c.args.x Gray in
    open_done c.requires (c.edges-met.auto.colour ∙ q) (subst (λ (j : ℕ). Gone c.args.graph.now.starts.now (followed c.args.graph.now) j (set c.args.colour.now c.args.x Gray) c.args.x c.edges-met.new.colour c.edges-met.result) q c.edges-met.ensures)
