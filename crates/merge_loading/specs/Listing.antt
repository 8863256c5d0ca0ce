-- The list entries of a loading, one by one. Assumes nothing.
use Prim.Native.Nat.{ℕ, zero, suc, ◌+◌, ◌-◌, ◌≤◌, ◌<◌}
use native.Mathlib.Omega.{arith}
use Rattle.std.proofs.Math.Numerals.{add-one}
use native.Mathlib.Decide.{ℕ_discrete}
use Rattle.std.specs.Prelude.{◌≡◌, true, false, List, get_or, length, take, drop}
use Rattle.std.proofs.Math.Path.{refl, sym, ap}
use Rattle.std.proofs.Common.{◌∙◌, le-leb}
use Rattle.std.proofs.Math.Bool.{Bool}
use Rattle.std.proofs.Math.Dec.{leb}
use Rattle.std.proofs.lemmas.Bool.{lt-leb}
use Rattle.graphs.specs.Count.{count, count_add, count-all_no}
use Rattle.merge_state.specs.declared.Sizes.{Sizes}
use Rattle.merge_state.specs.State.{flag}
use Rattle.merge_state.specs.Loading.{lister}
use Rattle.merge_area.specs.Layout.{room, cell, head}
use Rattle.merge_area.specs.Writes.{append_area}
use Rattle.merge_area.specs.Within.{Within}
use Rattle.merge_laws.specs.Can.{CanAppend}
use Rattle.merge_reads.specs.Reads.{append_length, append_used}
use Rattle.merge_loading.specs.Loading.{listed_area}

-- the lists of the chunks below x end at or before k
abbrev pub Passed : List ℕ → ℕ → ℕ → Type 0
Passed starts x k = (y : ℕ) → y < x → get_or starts (y + 1) 0 ≤ k

-- the chunk that lists entry k is looked for from x on
pub record CanSeek (starts : List ℕ) (n x k : ℕ) : Type 0 where
  pub count : length starts ≡ n + 1
  pub begin : get_or starts 0 0 ≡ 0
  pub rising : (i : ℕ) → i < n → get_or starts i 0 ≤ get_or starts (i + 1) 0
  pub within : k < get_or starts n 0
  pub passed : Passed starts x k

-- r is that chunk
pub record Sought (starts : List ℕ) (n k r : ℕ) : Type 0 where
  pub is : r ≡ lister starts n k
  pub below : r < n
  pub passed : Passed starts r k

module _ (starts : List ℕ) (n k : ℕ) where
  pub passed_none : Passed starts 0 k
  passed_none y h = absurd (omega arith)

  pub passed-more : {x : ℕ} → Passed starts x k → get_or starts (x + 1) 0 ≤ k → Passed starts (x + 1) k
  passed-more {x} p h y b = elim (ℕ_discrete y x) [ yes q ↦ rw q h | no q ↦ p y (omega arith) ]

  pub passed_later : {x : ℕ} → Passed starts x k → Passed starts x (k + 1)
  passed_later p y b = omega (arith, p y b)

all_yes : (p : ℕ → Bool) (x : ℕ) → ((y : ℕ) → y < x → p y ≡ true) → count p x ≡ x
unfolding count
all_yes p zero h = refl
all_yes p (suc x) h = rw (all_yes p x (λ y b. h y (omega arith)), h x (omega arith)) (omega arith)

module _ {starts : List ℕ} {n k : ℕ} {x : ℕ} (can : CanSeek starts n x k) where
  -- a list is left
  pub seek_in : x < n
  seek_in = go n refl
    where
      go : (m : ℕ) → m ≡ n → x < n
      go zero e = absurd (omega (arith, can.within, can.begin, ap (λ i. get_or starts i 0) e))
      go (suc m) e = elim (native.Mathlib.Decide.dec_lt x n) [
        | yes b ↦ b
        | no b ↦ absurd (omega (arith, can.within, can.passed m (omega arith), ap (λ i. get_or starts i 0) (let q : m + 1 ≡ n = omega arith in q)))
      ]

  up : (j : ℕ) → x + j < n → get_or starts (x + 1) 0 ≤ get_or starts (x + j + 1) 0
  up zero h = omega (arith, ap (λ i. get_or starts i 0) (let q : x + 1 ≡ x + zero + 1 = omega arith in q))
  up (suc j) h = omega (arith, up j (omega arith), can.rising (x + j + 1) (omega arith), ap (λ i. get_or starts i 0) (let q : x + j + 1 + 1 ≡ x + suc j + 1 = omega arith in q))

  -- the list of x ends at or before k
  pub seek_more : get_or starts (x + 1) 0 ≤ k → CanSeek starts n (x + 1) k
  seek_more h = record { count = can.count; begin = can.begin; rising = can.rising; within = can.within; passed = passed-more starts n k can.passed h }

  -- it ends beyond k
  pub seek_done : k < get_or starts (x + 1) 0 → Sought starts n k x
  unfolding lister
  seek_done h =
      record {
        is = sym (ap (count p) whole ∙ count_add p x (n - x) ∙ omega (arith, all_yes p x before, count-all_no (λ j. p (x + j)) (n - x) after));
        below = seek_in;
        passed = can.passed;
      }
    where
      p : ℕ → Bool
      p y = leb (get_or starts (y + 1) 0) k

      whole : n ≡ x + (n - x)
      whole = omega (arith, seek_in)

      before : (y : ℕ) → y < x → p y ≡ true
      before y b = le-leb (get_or starts (y + 1) 0) k (can.passed y b)

      after : (j : ℕ) → j < n - x → p (x + j) ≡ false
      after j b = lt-leb (get_or starts (x + j + 1) 0) k (omega (arith, up j (omega arith)))

-- k entries
module _ (z : Sizes) (i : ℕ) (starts modules effects a : List ℕ) where
  abbrev listed : ℕ → List ℕ
  listed = listed_area z i starts modules effects a

  pub listed_long : (k : ℕ) → length (listed k) ≡ length a
  unfolding listed_area
  listed_long zero = refl
  listed_long (suc k) = append_length z (listed k) (lister starts i k) (get_or modules k 0) (flag effects (get_or modules k 0)) ∙ listed_long k

  pub listed-used : (k : ℕ) → room z ≤ length a → cell (listed k) (head z 4) ≡ cell a (head z 4) + k
  unfolding listed_area
  listed-used zero long = omega arith
  listed-used (suc k) long =
      omega (arith, append_used z (listed k) (lister starts i k) (get_or modules k 0) (flag effects (get_or modules k 0)) (omega (arith, listed_long k)), listed-used k long)

-- every entry of the module list can be listed
pub record CanList (z : Sizes) (i : ℕ) (starts modules effects a : List ℕ) : Type 0 where
  pub within : Within z
  pub long : room z ≤ length a
  pub few : i ≤ z.chunks
  pub count : length starts ≡ i + 1
  pub begin : get_or starts 0 0 ≡ 0
  pub end : get_or starts i 0 ≡ length modules
  pub rising : (j : ℕ) → j < i → get_or starts j 0 ≤ get_or starts (j + 1) 0
  pub listed : (j : ℕ) → j < length modules → get_or modules j 0 < z.modules
  pub told : length effects ≡ z.modules
  pub room : length modules ≤ z.entries
  pub empty : cell a (head z 4) ≡ 0

-- a is a₀ with k entries, and the next one's chunk is x or a later one
pub record Listed (z : Sizes) (i : ℕ) (starts modules effects a₀ : List ℕ) (x k : ℕ) (a : List ℕ) : Type 0 where
  pub most : k ≤ length modules
  pub passed : Passed starts x k
  pub area : a ≡ listed_area z i starts modules effects a₀ k

module _ {z : Sizes} {i : ℕ} {starts modules effects a₀ : List ℕ} (can : CanList z i starts modules effects a₀) where
  pub listed-none : Listed z i starts modules effects a₀ 0 0 a₀
  unfolding listed_area
  listed-none = record { most = omega arith; passed = passed_none starts i 0; area = refl }

  -- entry k can be listed with its chunk
  pub entry_can : {r : ℕ} (k : ℕ) → k < length modules → r < i → CanAppend z (listed_area z i starts modules effects a₀ k) r (get_or modules k 0)
  entry_can k h b = record {
    within = can.within;
    long = omega (arith, can.long, listed_long z i starts modules effects a₀ k);
    chunk = omega (arith, can.few);
    listed = can.listed k h;
    left = omega (arith, listed-used z i starts modules effects a₀ k can.long, can.empty, can.room);
  }

  module _ {x k : ℕ} {a : List ℕ} (l : Listed z i starts modules effects a₀ x k a) where
    pub list_long : length a ≡ length a₀
    list_long = ap length l.area ∙ listed_long z i starts modules effects a₀ k

    pub list_seek : k < length modules → CanSeek starts i x k
    list_seek h = record { count = can.count; begin = can.begin; rising = can.rising; within = omega (arith, can.end); passed = l.passed }

    pub list_can : {r : ℕ} → k < length modules → Sought starts i k r → CanAppend z a r (get_or modules k 0)
    list_can h s = rw l.area (entry_can k h s.below)

    pub list_more : {r : ℕ} {b : List ℕ} → Sought starts i k r → k < length modules → b ≡ append_area z a r (get_or modules k 0) (flag effects (get_or modules k 0)) → Listed z i starts modules effects a₀ r (k + 1) b
    unfolding listed_area
    list_more {r} {b} s h q = record {
      most = omega arith;
      passed = passed_later starts i k s.passed;
      area = rw add-one (q ∙ ap (λ u. append_area z u r (get_or modules k 0) (flag effects (get_or modules k 0))) l.area
          ∙ ap (λ u. append_area z (listed_area z i starts modules effects a₀ k) u (get_or modules k 0) (flag effects (get_or modules k 0))) s.is);
    }

    pub list_done : k ≡ length modules → a ≡ listed_area z i starts modules effects a₀ (length modules)
    list_done e = l.area ∙ ap (listed_area z i starts modules effects a₀) e

-- chunk x's part of the module list can be read
pub record CanPart (starts modules : List ℕ) (x : ℕ) : Type 0 where
  pub next : x + 1 < length starts
  pub rising : get_or starts x 0 ≤ get_or starts (x + 1) 0
  pub ends : get_or starts (x + 1) 0 ≤ length modules

abbrev pub modules_of : List ℕ → List ℕ → ℕ → List ℕ
modules_of starts modules x = take (get_or starts (x + 1) 0 - get_or starts x 0) (drop (get_or starts x 0) modules)

-- the first k modules of a list, each listed with chunk x
unfoldable pub with_area : Sizes → ℕ → List ℕ → List ℕ → List ℕ → ℕ → List ℕ
with_area z x modules effects a zero = a
with_area z x modules effects a (suc k) = append_area z (with_area z x modules effects a k) x (get_or modules k 0) (flag effects (get_or modules k 0))

pub record CanListWith (z : Sizes) (x : ℕ) (modules effects a : List ℕ) : Type 0 where
  pub append : (j : ℕ) → j < length modules → CanAppend z (with_area z x modules effects a j) x (get_or modules j 0)
  pub told : (j : ℕ) → j < length modules → get_or modules j 0 < length effects
