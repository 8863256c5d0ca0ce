-- The atoms up to i are counted. Assumes nothing.
use Rattle.std.proofs.Common.{◌+◌, ◌*◌, ◌≤◌}
use Rattle.move_load_view.specs.View.{lent_by}
use Rattle.move_freedom.specs.Atoms.{place_in, Counted}
use Rattle.move_freedom.proofs.atoms.of_all.Given as goal

abbrev pub invariant-loop-atom : goal.invariant-loop-atom
invariant-loop-atom l = record {
  counted : Counted (lent_by l.load) l.fixed (place_in (lent_by l.load) l.area.n l.area.numbers.now) l.atom l.all;
  few : l.all.accepted + l.all.rejected + l.all.fixed ≤ 1024 * l.atom;
}
