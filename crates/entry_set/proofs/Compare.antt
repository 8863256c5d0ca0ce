-- Tests on numbers that are made of several: in range, number by number. Assumes nothing.
use Prim.Native.Nat.{ℕ, ◌+◌, ◌-◌, ◌*◌, ◌/◌, ◌^◌, ◌<◌}
use mathlib.Core.Path.{◌≡◌, refl, sym, ◌∙◌, subst}
use mathlib.Core.Bool.{◌&&◌}
use Rattle.std.proofs.Math.Bool.{and_assoc}
use native.Mathlib.Omega.{arith}
use native.Mathlib.Nat.{div-eq_of_lt, div-lt_iff_lt-mul}
use native.Mathlib.Decide.{dec_lt}
use borrow.Author.Tests.{lt-ltb, le-ltb, eq-eqb, ne_eqb}
use lib.Dec.{ltb, eqb}
use lib.Pow.{pow_pos}
use Rattle.entry_set.specs.declared.EntrySet.{EntrySet}
use Rattle.entry_set.specs.Joined.{joined}
use Rattle.entry_set.specs.declared.EntrySet.{EntrySet}
use Rattle.entry_set.specs.Sets.{number}
use Rattle.entry_set.specs.SetLaws.{Known, known, range_step}

last : (d : ℕ) → d + 2 ^ 64 * 0 ≡ d
last d = omega arith

-- four numbers in range: each of them, the limit falling
pub range_four : (s : EntrySet) (e : ℕ) → Known s → ltb (number s) (2 ^ e) ≡ ((ltb s.0 (2 ^ e) && ltb s.1 (2 ^ (e - 64))) && ltb s.2 (2 ^ (e - 128))) && ltb s.3 (2 ^ (e - 192))
unfolding joined
range_four s e k =
    let h = known s k in
    let second : e - 64 - 64 ≡ e - 128 = omega arith in
    let third : e - 128 - 64 ≡ e - 192 = omega arith in
    rw (last s.3, range_step 64 s.0 _ e (h 0), range_step 64 s.1 _ (e - 64) (h 1), second, range_step 64 s.2 _ (e - 128) (h 2), third) (simp and_assoc refl)

-- a shift that leaves nothing
pub shifted_out : (x l : ℕ) → eqb (x / 2 ^ l) 0 ≡ ltb x (2 ^ l)
shifted_out x l =
    elim (dec_lt x (2 ^ l)) [
      | yes h ↦ eq-eqb (x / 2 ^ l) 0 (div-eq_of_lt h) ∙ sym (lt-ltb x (2 ^ l) h)
      | no h ↦ ne_eqb (x / 2 ^ l) 0 (λ e. h (subst (λ (n : ℕ). x < n) {x = 1 * 2 ^ l} {y = 2 ^ l} (omega arith) ((div-lt_iff_lt-mul (pow_pos l)).0 (omega (arith, e))))) ∙ sym (le-ltb x (2 ^ l) (omega (arith, h)))
    ]
