-- Sets that are told apart by sorting them: one is there twice where they aren't distinct. Assumes nothing.
use Rattle.std.specs.Prelude.{ℕ, ◌≡◌, Bool, not}
use Rattle.graphs.specs.Bools.{Decides}
use Rattle.set_order.specs.Order.{Distinct}
use Rattle.equal_sets.specs.Laid.{repeats}
use Rattle.merge_state.specs.Loading.{came_before, twice}

pub twice_is : (key : ℕ → ℕ) (n : ℕ) {d : Bool} → Decides (Distinct key n) d → not d ≡ twice key n
unfolding twice came_before
twice_is key n {d} r = repeats key n d r
