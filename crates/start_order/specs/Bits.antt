-- A set's entry bit stands in one of its words. Assumes nothing.
use Rattle.std.specs.Prelude.{ℕ, zero, suc, ◌+◌, ◌-◌, ◌*◌, ◌^◌, ◌/◌, ◌%◌, ◌≤◌, ◌<◌, ◌≡◌, Bool, not, ◌&&◌, List, eqb, length, get_or}
use Rattle.std.proofs.Common.{arith, div-one, mul-le-mul_right, sym, ap, ◌∙◌, shr-shr}
use Rattle.std.proofs.Math.Pow.{field, mod-mod-pow}
use Rattle.entry_set.specs.Joined.{parts}
use Rattle.entry_set.specs.Lanes.{lanes}
use Rattle.entry_set.specs.LaneLaws.{lanes_word}
use Rattle.move_area.specs.Bodies.{lane_at}
use Rattle.move_order.specs.Order.{holds}

parts_at : (k X j : ℕ) → j < k → get_or (parts 32 k X) j 0 ≡ X / 2 ^ (32 * j) % 2 ^ 32
unfolding parts
parts_at zero X j h = absurd (omega arith)
parts_at (suc k) X zero h = ap (λ (y : ℕ). y % 2 ^ 32) (sym (div-one X))
parts_at (suc k) X (suc j) h =
    let e : 32 + 32 * j ≡ 32 * suc j = omega arith in
    parts_at k (X / 2 ^ 32) j (omega arith) ∙ ap (λ (y : ℕ). y % 2 ^ 32) (shr-shr X 32 (32 * j) ∙ ap (λ (i : ℕ). X / 2 ^ i) e)

low_bit : (Y s : ℕ) → s < 32 → Y % 2 ^ 32 / 2 ^ s % 2 ≡ Y / 2 ^ s % 2
low_bit Y s h =
    let e : 32 ≡ 32 - s + s = omega arith in
    let f : 32 - s ≡ 31 - s + 1 = omega arith in
    ap (λ (i : ℕ). Y % 2 ^ i / 2 ^ s % 2) e ∙ ap (λ (y : ℕ). y % 2) (field Y (32 - s) s)
    ∙ ap (λ (i : ℕ). Y / 2 ^ s % 2 ^ i % 2) f ∙ mod-mod-pow (Y / 2 ^ s) (31 - s) 1

-- bit b of X is bit b % 32 of its word b / 32
bit_word : (X b : ℕ) → b < 256 → X / 2 ^ b % 2 ≡ get_or (parts 32 8 X) (b / 32) 0 / 2 ^ (b % 32) % 2
bit_word X b h =
    let e : 32 * (b / 32) + b % 32 ≡ b = omega arith in
    sym (ap (λ (y : ℕ). y / 2 ^ (b % 32) % 2) (parts_at 8 X (b / 32) (omega arith)) ∙ low_bit (X / 2 ^ (32 * (b / 32))) (b % 32) (omega arith)
    ∙ ap (λ (y : ℕ). y % 2) (shr-shr X (32 * (b / 32)) (b % 32)) ∙ ap (λ (i : ℕ). X / 2 ^ i % 2) e)

-- node x has an atom, and its set holds bit b
abbrev pub picks : List ℕ → ℕ → ℕ → ℕ → Bool
picks area n b x = not (eqb (get_or area (lane_at n 8 + x) 0) 0) && holds b (lanes area (lane_at n 0 + x) n)

-- the word with bit b of the set of node x
abbrev pub word_at : ℕ → ℕ → ℕ → ℕ
word_at n b x = n * n + 24 + b / 32 * n + x

pub holds_word : (area : List ℕ) (n b x : ℕ) → ((i : ℕ) → get_or area i 0 < 2 ^ 32) → b < 256 → eqb (get_or area (word_at n b x) 0 / 2 ^ (b % 32) % 2) 1 ≡ holds b (lanes area (lane_at n 0 + x) n)
holds_word area n b x small h =
    let e : lane_at n 0 + x + b / 32 * n ≡ word_at n b x = omega arith in
    sym (ap (λ (y : ℕ). eqb y 1) (bit_word (lanes area (lane_at n 0 + x) n) b h
    ∙ ap (λ (y : ℕ). y / 2 ^ (b % 32) % 2) (lanes_word area (lane_at n 0 + x) n small (b / 32) (omega arith) ∙ ap (λ (i : ℕ). get_or area i 0) e)))

-- it is one of the area's numbers
pub word_room : (area : List ℕ) (n b x : ℕ) → n * n + 24 + 24 * n ≤ length area → b < 256 → x < n → word_at n b x < length area
word_room area n b x room bit node = omega (arith, room, node, mul-le-mul_right {m = b / 32} {n = 7} n (omega (arith, bit)))
