-- `move_load_rows::bad_dependencies` meets its contract. Assumes nothing.
use Rattle.std.proofs.Common.{arith, sym, ◌∙◌}
use Rattle.move_load_rows.proofs.Spans.{span-first, span_hit, span_more, span-done, span_can}
use Rattle.move_load_rows.proofs.bad_dependencies.Goals as goal

pub loop-atom-init : goal.loop-atom-init
loop-atom-init c = span-first c.requires.rise

pub atom_fails-requires : goal.atom_fails-requires
atom_fails-requires c = span_can c.requires c.loop-atom.atom c.loop-atom-test.true

pub returns-then-atom_fails : goal.returns-then-atom_fails
returns-then-atom_fails c = span_hit c.requires.rise c.loop-atom.atom c.loop-atom-test.true (sym c.atom_fails.ensures ∙ c.if-atom_fails.true)

pub loop-atom-preserved : goal.loop-atom-preserved
loop-atom-preserved c = span_more c.requires.rise c.loop-atom.atom c.loop-atom.invariant c.loop-atom-test.true (sym c.atom_fails.ensures ∙ c.if-atom_fails.false)

pub returns : goal.returns
returns c = span-done c.requires.rise c.loop-atom.atom c.loop-atom.invariant (omega arith)
