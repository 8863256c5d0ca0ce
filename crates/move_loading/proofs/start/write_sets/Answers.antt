-- `move_loading::start::write_sets`: each turn writes one lane more. Assumes nothing.
use Rattle.std.proofs.Common.{refl, ◌∙◌, ap, List, ℕ, arith}
use Rattle.graphs.specs.Tab.{tab}
use Rattle.layout.specs.Patch.{patch}
use Rattle.layout.specs.Fields.{lay}
use Rattle.move_area.specs.Bodies.{lane_at}
use Rattle.move_loading.specs.Start.{lent_word}
use Rattle.move_loading.proofs.Starting.{sets-next}
use Rattle.move_loading.proofs.start.write_sets.Goals as goal

pub loop-j-init : goal.loop-j-init
unfolding lay
loop-j-init c = refl

pub loop-j-preserved : goal.loop-j-preserved
loop-j-preserved c =
    let s = c.args in
    c.write_words.ensures ∙ ap (λ (l : List ℕ). patch (lane_at s.n c.loop-j.j) (tab (lent_word s.width s.sets.now c.loop-j.j) s.count) l) c.loop-j.invariant
    ∙ sets-next s.n s.width s.count s.sets.now s.area.now c.loop-j.j (omega arith)
