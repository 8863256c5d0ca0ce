-- The counts of a fixed atom, and of another. Assumes nothing.
use Rattle.std.proofs.Common.{arith}
use Rattle.move_freedom.proofs.AtomCounts.{atom_stays, atom_few, atom_moves}
use Rattle.move_freedom.proofs.atoms.of_atom.Goals as goal

pub returns-then-is_fixed : goal.returns-then-is_fixed
returns-then-is_fixed c = atom_stays c.requires (λ e. omega (arith, c.if-is_fixed.true))

pub overflow_sub-result : goal.overflow_sub-result
overflow_sub-result c = omega (arith, atom_few c.requires c.accepted.ensures, c.from-open.ensures)

pub returns : goal.returns
returns c = rw c.from-open.ensures (atom_moves c.requires c.if-is_fixed.false c.accepted.ensures)
