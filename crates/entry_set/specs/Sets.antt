-- A set of e entry bits is one number below 2 ^ e. Assumes nothing.
use Rattle.std.specs.Prelude.{ℕ, zero, suc, ◌+◌, ◌^◌, ◌/◌, ◌≡◌, Bool, cond, ◌&&◌, List, [], ◌∷◌, ltb, eqb, length, get_or}
use Rattle.entry_set.specs.Joined.{joined, parts}
use Rattle.entry_set.specs.declared.EntrySet.{EntrySet}

-- the number that a lent set stands for: numbers of 64 bits, bit 0 lowest
abbrev pub value : List ℕ → ℕ
value = joined 64

-- the k lowest numbers of 64 bits
abbrev pub words : ℕ → ℕ → List ℕ
words = parts 64

-- how many numbers a lent set of e bits has: e / 64 rounded up
abbrev pub width : ℕ → ℕ
width e = (e + 63) / 64

-- a lent set that is accepted: so many numbers, and no bit at or above e
abbrev pub legal : ℕ → List ℕ → Bool
legal e s = eqb (length s) (width e) && ltb (value s) (2 ^ e)

-- the four numbers of a set by value, and the number that they make
abbrev pub numbers : EntrySet → List ℕ
numbers s = s.0 ∷ s.1 ∷ s.2 ∷ s.3 ∷ []

abbrev pub number : EntrySet → ℕ
number s = value (numbers s)

-- a set is answered by value, as four numbers of 64 bits, unused ones 0
unfoldable pub entry_set : ℕ → EntrySet
entry_set X = record { 0 = get_or (words 4 X) 0 0; 1 = get_or (words 4 X) 1 0; 2 = get_or (words 4 X) 2 0; 3 = get_or (words 4 X) 3 0 }

-- s is the set X
pub record Holds (X : ℕ) (s : EntrySet) : Type 0 where
  pub value : number s ≡ X
  pub set : s ≡ entry_set X

-- the highest e below k with X ≡ 2 ^ e, 256 where there is none
unfoldable pub bit_below : ℕ → ℕ → ℕ
bit_below zero X = 256
bit_below (suc e) X = cond (eqb X (2 ^ e)) e (bit_below e X)

-- the bit e of the set {e}, and 256 for a set that isn't one bit
abbrev pub single_bit : ℕ → ℕ
single_bit = bit_below 256
