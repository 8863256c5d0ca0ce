-- Writing a text over a part of a list, and the digits of a number. Assumes nothing.
use mathlib.Core.Path.{◌≡◌, refl, ap, ◌∙◌}
use mathlib.Core.List.{List}
use Prim.Native.Nat.{ℕ, ◌+◌, ◌-◌, ◌≤◌}
use native.Mathlib.Omega.{arith}
use lib.ListN.{length, take}
use borrow.Rule.Slice.PartMut.{put_mid}
use Rattle.layout.specs.Patch.{patch, patch_long}
use Rattle.layout.specs.Lent.{put-patch}
use Rattle.io.specs.Digits.{last_digits, IsDigitCount}
use Rattle.moves_replies.specs.Decimal.{decimal, digits_decimal}
use Rattle.moves_replies.specs.Room.{Put}

-- a part that is replaced by a text
pub put_text : (at : ℕ) (text l v : List ℕ) → at + length text ≤ length l → v ≡ text → Put text l at (put_mid at (at + length text - at) l v) (at + length text)
put_text at text l v h e =
    let w : put_mid at (at + length text - at) l v ≡ patch at text l = put-patch at (at + length text) l v (omega arith) h (rw e (omega arith)) ∙ ap (λ u. patch at u l) e in
    record { written = w; end = refl; long = ap length w ∙ patch_long at text l; inside = h }

-- the digits that the library of numbers gives are those of `decimal`
pub decimal_text : (n r : ℕ) (text : List ℕ) → r ≤ 20 → IsDigitCount 10 1 n r → take r text ≡ last_digits 10 r n → take r text ≡ decimal n
decimal_text n r text b f e = e ∙ digits_decimal 20 r n b f
