-- `move_loading::start::write_words`: the words up to i are there. Assumes nothing.
use Rattle.std.proofs.Common.{◌≡◌, ℕ, ◌<◌, get_or}
use Rattle.move_loading.specs.Start.{lent_word}
use Rattle.move_loading.proofs.start.write_words.Given as goal

abbrev pub invariant-loop-i : goal.invariant-loop-i
invariant-loop-i l = (k : ℕ) → k < l.i → get_or l.lane k 0 ≡ lent_word l.width l.sets l.j k
