-- The definitions computed: lent sets at the edges of e, single bits, and the answer by value. Assumes nothing.
use Rattle.std.specs.Prelude.{◌+◌, ◌^◌, ◌≡◌, refl, true, false, [], ◌∷◌}
use Rattle.entry_set.specs.Joined.{joined, parts}
use Rattle.entry_set.specs.Sets.{words, legal, bit_below, single_bit}

no_bits : legal 0 [] ≡ true
unfolding joined
no_bits = refl

no_bits_but_a_number : legal 0 (0 ∷ []) ≡ false
unfolding joined
no_bits_but_a_number = refl

one_bit : legal 1 (1 ∷ []) ≡ true
unfolding joined
one_bit = refl

bit_at_1 : legal 1 (2 ∷ []) ≡ false
unfolding joined
bit_at_1 = refl

bit_at_63 : legal 63 (2 ^ 63 ∷ []) ≡ false
unfolding joined
bit_at_63 = refl

last_of_64 : legal 64 (2 ^ 63 ∷ []) ≡ true
unfolding joined
last_of_64 = refl

last_of_65 : legal 65 (0 ∷ 1 ∷ []) ≡ true
unfolding joined
last_of_65 = refl

bit_at_65 : legal 65 (0 ∷ 2 ∷ []) ≡ false
unfolding joined
bit_at_65 = refl

last_of_256 : legal 256 (0 ∷ 0 ∷ 0 ∷ 2 ^ 63 ∷ []) ≡ true
unfolding joined
last_of_256 = refl

too_short_for_256 : legal 256 (1 ∷ 0 ∷ 0 ∷ []) ≡ false
unfolding joined
too_short_for_256 = refl

by_value : words 4 (3 + 2 ^ 64) ≡ 3 ∷ 1 ∷ 0 ∷ 0 ∷ []
unfolding parts
by_value = refl

highest_bit : single_bit (2 ^ 255) ≡ 255
unfolding bit_below
highest_bit = refl

two_bits : single_bit (1 + 2 ^ 64) ≡ 256
unfolding bit_below
two_bits = refl

empty : single_bit 0 ≡ 256
unfolding bit_below
empty = refl
