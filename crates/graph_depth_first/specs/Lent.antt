-- The lists that are lent to a search. Assumes nothing.
use Rattle.std.specs.Prelude.{◌≡◌, refl}
use Rattle.std.proofs.Common.{◌∙◌}
use Rattle.graph_depth_first.specs.declared.Searching.{Searching}
use Rattle.graph_depth_first.specs.Lists.{Lists}

-- what is in them
abbrev pub lists : Searching → Lists
lists s = record { states = s.states.now; cursors = s.cursors.now; stack = s.stack.now; order = s.order.now; met = s.met }

-- the same lists are lent, whatever is in them
pub record SameLists (s s' : Searching) : Type 0 where
  pub states : s'.states.ghost_name ≡ s.states.ghost_name
  pub cursors : s'.cursors.ghost_name ≡ s.cursors.ghost_name
  pub stack : s'.stack.ghost_name ≡ s.stack.ghost_name
  pub order : s'.order.ghost_name ≡ s.order.ghost_name

pub same_lists : (s : Searching) → SameLists s s
same_lists s = record { states = refl; cursors = refl; stack = refl; order = refl }

pub same_then : {r s t : Searching} → SameLists r s → SameLists s t → SameLists r t
same_then a b = record { states = b.states ∙ a.states; cursors = b.cursors ∙ a.cursors; stack = b.stack ∙ a.stack; order = b.order ∙ a.order }
