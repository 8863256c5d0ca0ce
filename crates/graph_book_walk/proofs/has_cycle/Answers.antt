-- Each turn makes one more node black. Assumes nothing.
use Rattle.std.proofs.Common.{◌≡◌, ℕ, subst, sym, length, get_or, arith}
use mathlib.Core.Path.{ap}
use borrow.Author.Rules.{rules}
use Rattle.graph_colours.specs.declared.State.TheVariants.{White}
use Rattle.graph_colours.specs.States.{code}
use Rattle.graph_book_walk.specs.Book.{CanOpen, Opened}
use Rattle.graph_book_walk.proofs.Rounds.{round_first, round_skip, round_can, round_more, round_done, cleared, white}
use Rattle.graph_book_walk.proofs.has_cycle.Goals as goal
use Rattle.graph_book_walk.proofs.has_cycle.Goals.{else-eq-via-then-eq+else-open, else-eq-via-else-eq}

pub loop-x-init : goal.loop-x-init
loop-x-init c = round_first c.requires c.fill.ensures.len (cleared (length c.args.colour.now) (search rules))

pub open-requires : goal.open-requires
open-requires c =
    let z : get_or c.loop-x.colour c.loop-x.x White ≡ White = search rules in
    subst (λ (j : ℕ). CanOpen c.args.heads.now c.args.list.now j c.loop-x.colour c.loop-x.x) (sym c.loop-x.invariant.long) (round_can c.loop-x.invariant (omega arith) (ap code z))

pub loop-x-preserved : goal.loop-x-preserved
loop-x-preserved c = elim c.else-eq.branch [
  | else-eq-via-then-eq+else-open w ↦ rw w.colour-is (round_more c.loop-x.invariant (omega arith) w.if-open.false w.open.auto.colour (subst (λ (j : ℕ). Opened c.args.heads.now c.args.list.now j c.loop-x.colour c.loop-x.x w.open.new.colour w.open.result) c.loop-x.invariant.long w.open.ensures))
  | else-eq-via-else-eq w ↦
      let k : get_or c.loop-x.colour c.loop-x.x White ≡ White → ⊥ = search rules in
      rw w.colour-is (round_skip c.loop-x.invariant (omega arith) (λ z. k (white _ z)))
]

pub returns : goal.returns
returns c = sym (round_done c.loop-x.invariant (omega arith))
