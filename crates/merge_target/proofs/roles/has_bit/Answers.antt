-- The bit stands in its word. Assumes nothing.
use Rattle.merge_choice.specs.Named.{bit_of}
use Rattle.merge_target.proofs.roles.has_bit.Goals as goal

pub returns : goal.returns
returns c = bit_of _ _ c.requires c.word.ensures
