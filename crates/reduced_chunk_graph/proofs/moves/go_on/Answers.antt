-- The rows, then the move. Assumes nothing.
use Rattle.std.proofs.Common.{arith, sym, ap, ◌∙◌, refl}
use Rattle.move_ledger.specs.Answer.{refused}
use Rattle.entry_set.specs.Compared.{equal_held}
use Rattle.reduced_chunk_graph.specs.Answers.{of_move}
use Rattle.reduced_chunk_graph.specs.Asked.{handed_on}
use Rattle.reduced_chunk_graph.specs.MoveLaws.{goes_ten, goes_fixed, goes_eleven, go_node, twelve_fits, can_try, tried-goes}
use Rattle.reduced_chunk_graph.proofs.moves.go_on.Goals as goal

pub returns-then-load-atom : goal.returns-then-load-atom
returns-then-load-atom c = goes_ten c.requires _ _ (omega arith)

pub returns-then-fixed-atom-ne0 : goal.returns-then-fixed-atom-ne0
returns-then-fixed-atom-ne0 c = goes_fixed c.requires _ _ (omega arith) c.if-fixed-atom-ne0.true

pub returns-in_err-target : goal.returns-in_err-target
returns-in_err-target c =
    rw (handed_on of_move _ (λ _. refl) c.from_residual.ensures.1 ∙ ap refused c.in_err-target.ensures.1)
    (goes_eleven c.requires _ _ (omega arith) c.if-fixed-atom-ne0.false c.in_err-target.ensures.0)

pub atom_set-requires : goal.atom_set-requires
atom_set-requires c = go_node c.requires c.args.atom c.args.bits.now (omega arith)

pub returns-then-eq : goal.returns-then-eq
returns-then-eq c = twelve_fits c.requires _ _ (omega arith) c.if-fixed-atom-ne0.false c.in_ok-target.ensures.0 refl refl (sym (equal_held c.atom_set.ensures c.in_ok-target.ensures.1 c.eq.ensures) ∙ c.if-eq.true)

pub try_checked-requires : goal.try_checked-requires
try_checked-requires c = can_try c.requires _ _ (omega arith) c.if-fixed-atom-ne0.false c.in_ok-target.ensures.0 refl c.in_ok-target.ensures.1.value (rw c.in_ok-target.ensures.1.value (sym (equal_held c.atom_set.ensures c.in_ok-target.ensures.1 c.eq.ensures) ∙ c.if-eq.false))

pub returns : goal.returns
returns c = tried-goes c.requires _ _ (omega arith) c.if-fixed-atom-ne0.false c.in_ok-target.ensures.0 refl c.in_ok-target.ensures.1.value c.try_checked.ensures
