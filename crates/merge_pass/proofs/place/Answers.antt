-- Merged or created. Assumes nothing.
use Rattle.std.proofs.Common.{arith, ◌≡◌, sym, refl, ◌∙◌, ap, false}
use Rattle.graphs.specs.Count.{ind}
use Rattle.merge_state.specs.Methods.{merges}
use Rattle.merge_state.specs.Named.{number_of}
use Rattle.merge_area.specs.Read.{read}
use Rattle.merge_reads.specs.Pass.{proposed, place-merge}
use Rattle.merge_pass.specs.Placing.{placed-merged, placed_created}
use Rattle.merge_pass.proofs.Bars.{unproposed, decided}
use Rattle.merge_pass.proofs.place.Goals as goal
use Rattle.merge_pass.proofs.place.Goals.{in_default-via-in-Some+else-may_merge, in_default-via-in_default}

pub merge-requires : goal.merge-requires
merge-requires c =
    let d = decided _ _ _ _ c.in-Some.is c.requires.1 c.may_merge.ensures in
    rw (sym (ap number_of c.in-Some.is)) (place-merge c.requires.0 (proposed _ _ _ _ (sym d ∙ c.if-may_merge.true)))

pub returns-in-Some : goal.returns-in-Some
returns-in-Some c =
    let e = sym (ap number_of c.in-Some.is) in
    placed-merged _ _ _ _ _ (decided _ _ _ _ c.in-Some.is c.requires.1 c.may_merge.ensures) _ c.if-may_merge.true refl e (rw (← e) c.merge.ensures)

pub returns-in_default : goal.returns-in_default
returns-in_default c =
    let s = c.args in
    let m : merges (read s.sizes s.area.now) s.x.0 (number_of s.proposal) (ind s.barred) ≡ false = elim c.in_default.branch [
      | in_default-via-in-Some+else-may_merge w ↦ sym (decided _ _ _ _ w.in-Some.is c.requires.1 w.may_merge.ensures) ∙ w.if-may_merge.false
      | in_default-via-in_default w ↦ unproposed _ _ _ _ w.in_default.is
    ]
    in
    placed_created _ _ _ _ _ (sym m) _ refl refl (omega (arith, c.header.ensures, c.header-in_default.ensures)) c.create.ensures
