-- The roles that a set's bits give, in a table. Assumes nothing.
use Rattle.std.specs.Prelude.{ℕ, zero, suc, ◌+◌, ◌-◌, ◌*◌, ◌/◌, ◌%◌, ◌^◌, ◌<◌, ◌≤◌, ◌≡◌, refl, Bool, true, false, cond, List, get_or, length, set, ltb, eqb}
use Rattle.std.proofs.Common.{arith, sym, ap, ◌∙◌, subst, length-set, get_or-set_same, get_or-set_other, shr-shr}
use Rattle.std.proofs.Math.Path.{fun_ext}
use Rattle.std.proofs.Math.Pow.{field, mod-mod-pow}
use borrow.Author.Tests.{eq-eqb, ne_eqb, lt-ltb, le-ltb, ltb-true, ltb-false}
use Rattle.graphs.specs.Bools.{Same, it, other, same?}
use Rattle.entry_set.specs.Joined.{parts}
use Rattle.merge_choice.specs.Choice.{bits, role}

-- what stands at each place of a table
abbrev pub reads : List ℕ → ℕ → ℕ
reads l b = get_or l b 0

pub record CanName (kinds classes : List ℕ) (b : ℕ) : Type 0 where
  pub few : b < 256
  pub inside : b < length kinds
  pub kind : get_or kinds b 0 < 9
  pub eight : length classes ≡ 8

pub record CanSetRoles (kinds classes : List ℕ) (n : ℕ) (roles : List ℕ) : Type 0 where
  pub count : n ≡ bits (length kinds)
  pub small : (b : ℕ) → b < length kinds → get_or kinds b 0 < 9
  pub eight : length classes ≡ 8
  pub room : n ≤ length roles
  pub zero : (b : ℕ) → get_or roles b 0 ≡ 0

-- the roles of the chunks below n stand in the table
pub record Named (classes kinds : List ℕ) (set : ℕ) (old new : List ℕ) (n : ℕ) : Type 0 where
  pub long : length new ≡ length old
  pub at : (b : ℕ) → get_or new b 0 ≡ cond (ltb b n) (role classes kinds set b) 0

-- number j of 32 bits
word_at : (k j X : ℕ) → j < k → get_or (parts 32 k X) j 0 ≡ X / 2 ^ (32 * j) % 2 ^ 32
unfolding parts
word_at zero j X h = absurd (omega arith)
word_at (suc k) zero X h = ap (λ (v : ℕ). v % 2 ^ 32) {x = X} {y = X / 1} (omega arith)
word_at (suc k) (suc j) X h =
    word_at k j (X / 2 ^ 32) (omega arith)
    ∙ ap (λ (v : ℕ). v % 2 ^ 32) (shr-shr X 32 (32 * j) ∙ ap (λ (e : ℕ). X / 2 ^ e) {x = 32 + 32 * j} {y = 32 * suc j} (omega arith))

-- a bit within a number of 32 bits
bit_within : (Y i : ℕ) → i < 32 → Y % 2 ^ 32 / 2 ^ i % 2 ≡ Y / 2 ^ i % 2
bit_within Y i h =
    let j = 31 - i in
    ap (λ (e : ℕ). Y % 2 ^ e / 2 ^ i % 2) {x = 32} {y = (j + 1) + i} (omega arith) ∙ ap (λ (v : ℕ). v % 2) (field Y (j + 1) i) ∙ mod-mod-pow (Y / 2 ^ i) j 1

pub bit_of : (X b : ℕ) {w : ℕ} → b < 256 → w ≡ get_or (parts 32 8 X) (b / 32) 0 → eqb (w / 2 ^ (b % 32) % 2) 1 ≡ eqb (X / 2 ^ b % 2) 1
bit_of X b h e =
    ap (λ (v : ℕ). eqb (v / 2 ^ (b % 32) % 2) 1) (e ∙ word_at 8 (b / 32) X (omega arith))
    ∙ ap (λ (v : ℕ). eqb v 1) (bit_within (X / 2 ^ (32 * (b / 32))) (b % 32) (omega arith))
    ∙ ap (λ (v : ℕ). eqb (v % 2) 1) (shr-shr X (32 * (b / 32)) (b % 32) ∙ ap (λ (e : ℕ). X / 2 ^ e) {x = 32 * (b / 32) + b % 32} {y = b} (omega arith))

pub bits_le : (k : ℕ) → (bits k ≤ 256) × (bits k ≤ k)
unfolding bits
bits_le k = go (ltb 256 k) refl
  where
    go : (t : Bool) → ltb 256 k ≡ t → (cond t 256 k ≤ 256) × (cond t 256 k ≤ k)
    go true e = (omega arith, omega (arith, ltb-true 256 k e))
    go false e = (omega (arith, ltb-false 256 k e), omega arith)

pub bits_many : (k : ℕ) → 256 < k → 256 ≡ bits k
unfolding bits
bits_many k h = rw (lt-ltb 256 k h)

pub bits_few : (k : ℕ) → k ≤ 256 → k ≡ bits k
unfolding bits
bits_few k h = rw (le-ltb 256 k h)

in_bits : (k b : ℕ) → b < 256 → b < k → ltb b (bits k) ≡ true
unfolding bits
in_bits k b h g = go (ltb 256 k) refl
  where
    go : (t : Bool) → ltb 256 k ≡ t → ltb b (cond t 256 k) ≡ true
    go true e = lt-ltb b 256 h
    go false e = lt-ltb b k g

-- the cases of a role
module _ (set : ℕ) {classes kinds : List ℕ} {b : ℕ} (c : CanName kinds classes b) where
  within : ltb b (bits (length kinds)) ≡ true
  within = in_bits (length kinds) b c.few c.inside

  pub role-unnamed : eqb (set / 2 ^ b % 2) 1 ≡ false → 0 ≡ role classes kinds set b
  unfolding role
  role-unnamed h = rw (within, h)

  module _ (h : eqb (set / 2 ^ b % 2) 1 ≡ true) where
    pub role-common : get_or kinds b 0 ≡ 8 → 3 ≡ role classes kinds set b
    unfolding role
    role-common e = rw (within, h, eq-eqb (get_or kinds b 0) 8 e)

    pub role_user : (get_or kinds b 0 ≡ 8 → ⊥) → get_or classes (get_or kinds b 0) 0 ≡ 1 → 2 ≡ role classes kinds set b
    unfolding role
    role_user e q = rw (within, h, ne_eqb (get_or kinds b 0) 8 e, eq-eqb (get_or classes (get_or kinds b 0) 0) 1 q)

    pub role-dynamic : (get_or kinds b 0 ≡ 8 → ⊥) → (get_or classes (get_or kinds b 0) 0 ≡ 1 → ⊥) → 1 ≡ role classes kinds set b
    unfolding role
    role-dynamic e q = rw (within, h, ne_eqb (get_or kinds b 0) 8 e, ne_eqb (get_or classes (get_or kinds b 0) 0) 1 q)

-- a bit past those that can name a chunk names nothing
role_past : (classes kinds : List ℕ) (set b : ℕ) → ltb b (bits (length kinds)) ≡ false → role classes kinds set b ≡ 0
unfolding role
role_past classes kinds set b h = rw h

module _ {classes kinds : List ℕ} {X : ℕ} {l₀ : List ℕ} where
  pub named_none : ((b : ℕ) → get_or l₀ b 0 ≡ 0) → Named classes kinds X l₀ l₀ 0
  named_none z = record { long = refl; at = λ b. z b ∙ (rw (le-ltb b 0 (omega arith))) }

  pub named_more : {i : ℕ} {l l' : List ℕ} → Named classes kinds X l₀ l i → i < length l → l' ≡ set l i (role classes kinds X i) → Named classes kinds X l₀ l' (i + 1)
  named_more {i} {l} {l'} m room e = record { long = ap length e ∙ (simp length-set m.long); at = λ b. at b (same? b i) }
    where
      at : (b : ℕ) → Same b i → get_or l' b 0 ≡ cond (ltb b (i + 1)) (role classes kinds X b) 0
      at b (it r) = rw (lt-ltb b (i + 1) (omega arith), r) (ap (λ (k : List ℕ). get_or k i 0) e ∙ get_or-set_same l i (role classes kinds X i) 0 room)
      at b (other r) = ap (λ (k : List ℕ). get_or k b 0) e ∙ get_or-set_other l i b (role classes kinds X i) 0 r ∙ m.at b ∙ ap (λ t. cond t (role classes kinds X b) 0) (last (ltb b i) refl)
        where
          last : (t : Bool) → ltb b i ≡ t → ltb b i ≡ ltb b (i + 1)
          last true q = q ∙ sym (lt-ltb b (i + 1) (omega (arith, ltb-true b i q)))
          last false q = q ∙ sym (le-ltb b (i + 1) (omega (arith, ltb-false b i q)))

  -- all that the bits name
  pub named-all : {n : ℕ} {l : List ℕ} → Named classes kinds X l₀ l n → n ≡ bits (length kinds) → reads l ≡ role classes kinds X
  named-all {n} {l} m e = fun_ext (λ b. m.at b ∙ ap (λ k. cond (ltb b k) (role classes kinds X b) 0) e ∙ go b (ltb b (bits (length kinds))) refl)
    where
      go : (b : ℕ) (t : Bool) → ltb b (bits (length kinds)) ≡ t → cond t (role classes kinds X b) 0 ≡ role classes kinds X b
      go b true q = refl
      go b false q = sym (role_past classes kinds X b q)

pub named_end : {classes kinds : List ℕ} {X i n : ℕ} {l₀ l : List ℕ} → i ≡ n → Named classes kinds X l₀ l i → Named classes kinds X l₀ l n
named_end {classes} {kinds} {X} {i} {n} {l₀} {l} e m = subst (λ k. Named classes kinds X l₀ l k) e m

pub can_name : {kinds classes : List ℕ} {n : ℕ} {roles : List ℕ} {b : ℕ} → CanSetRoles kinds classes n roles → b < n → CanName kinds classes b
can_name {kinds} c h = let w = bits_le (length kinds) in record { few = omega (arith, c.count); inside = omega (arith, c.count); kind = c.small _ (omega (arith, c.count)); eight = c.eight }
