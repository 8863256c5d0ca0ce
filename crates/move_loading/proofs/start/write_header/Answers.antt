-- `move_loading::start::write_header`: the part that is back is a patch. Assumes nothing.
use Rattle.std.proofs.Common.{arith, rules, ◌∙◌, ap, List, ℕ, ◌+◌}
use Rattle.layout.specs.Patch.{patch}
use Rattle.layout.specs.Lent.{put-patch}
use Rattle.move_loading.proofs.start.write_header.Goals as goal

pub returns : goal.returns
returns c =
    let s = c.args in
    put-patch s.at (s.at + 5) s.area.now c.copy_from_slice.new.self (omega arith) c.requires.0 (search rules) ∙ ap (λ (v : List ℕ). patch s.at v s.area.now) c.copy_from_slice.ensures.after
