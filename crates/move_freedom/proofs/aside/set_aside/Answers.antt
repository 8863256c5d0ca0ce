-- The copied nodes are the area's. Assumes nothing.
use Rattle.std.proofs.Common.{ap, ◌∙◌, ◌*◌, List, ℕ, set, get_or}
use Rattle.move_freedom.proofs.Asides.{copied_nodes, aside_can, aside-done}
use Rattle.move_freedom.proofs.aside.set_aside.Goals as goal

pub fill-requires : goal.fill-requires
fill-requires c = aside_can c.requires (ap (λ (v : List ℕ). set v c.args.atom (get_or c.args.area.now.numbers.now (c.args.area.now.n * c.args.area.now.n) 0)) (c.copy_from_slice.ensures.after ∙ c.nodes.ensures ∙ copied_nodes c.requires))

pub returns : goal.returns
returns c = aside-done c.requires (ap (λ (v : List ℕ). set v c.args.atom (get_or c.args.area.now.numbers.now (c.args.area.now.n * c.args.area.now.n) 0)) (c.copy_from_slice.ensures.after ∙ c.nodes.ensures ∙ copied_nodes c.requires)) c.fill.ensures
