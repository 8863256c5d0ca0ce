-- A yes or no as a number. Assumes nothing.
use Rattle.std.specs.Prelude.{◌≡◌, refl, Bool, true, false, cond}
use mir.Val.{bool_byte}

-- a cast makes 1 of true and 0 of false
pub as_number : (t : Bool) → bool_byte t ≡ cond t 1 0
as_number true = refl
as_number false = refl
