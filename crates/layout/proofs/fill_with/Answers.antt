-- `layout::fill_with`: a lent part that is back is a patch. Assumes nothing.
use Rattle.std.proofs.Common.{arith, rules, ap, ◌≡◌, ◌∙◌, List, ℕ, ◌+◌, replicate}
use Rattle.layout.specs.Patch.{patch}
use Rattle.layout.specs.Lent.{put-patch}
use Rattle.layout.proofs.fill_with.Goals as goal

pub returns : goal.returns
returns c =
    let s = c.args in
    let filled : c.fill.new.self ≡ replicate s.k s.v = search rules in
    put-patch s.at (s.at + s.k) s.area.now c.fill.new.self (omega arith) (omega arith) (search rules) ∙ ap (λ (v : List ℕ). patch s.at v s.area.now) filled
