-- The lent sets: what their tests ask, and what a legal one is. Assumes nothing.
use Rattle.std.specs.Prelude.{ℕ, ◌+◌, ◌*◌, ◌^◌, ◌≤◌, ◌<◌, ◌≡◌, Bool, false, not, ◌&&◌, ◌||◌, List, length, take, drop, ltb}
use Rattle.std.proofs.Common.{arith, sym, ap, ◌∙◌, length-take, length-drop, eq-eqb}
use Rattle.graphs.specs.Lists.{some_below}
use Rattle.entry_set.specs.declared.EntrySet.{EntrySet}
use Rattle.entry_set.specs.Sets.{value, width, legal, number, Holds}
use Rattle.entry_set.specs.SetLaws.{sets-room}
use Rattle.merge_state.specs.declared.Sizes.{Sizes}
use Rattle.merge_state.specs.Table.{any_misfit}
use Rattle.merge_state.specs.Loading.{set_at}

-- the list has p sets of e bits, w numbers each
pub record CanTest (sets : List ℕ) (w p e : ℕ) : Type 0 where
  pub wide : w ≡ width e
  pub bits : e ≤ 256
  pub full : length sets ≡ p * w

module _ {sets : List ℕ} {w p e : ℕ} (can : CanTest sets w p e) where
  pub test_narrow : w ≤ 4
  test_narrow = omega (arith, can.wide, can.bits)

  pub test-room : (i : ℕ) → i < p → i * w + w ≤ length sets
  test-room i h = omega (arith, sets-room w h, can.full)

  -- a set of the list has w numbers, so its range decides
  pub illegal_is : (i : ℕ) → i < p → {s : EntrySet} {r : Bool} → Holds (value (take w (drop (i * w) sets))) s → r ≡ ltb (number s) (2 ^ e) → not r ≡ not (legal e (set_at w sets i))
  illegal_is i h {s} {r} v q = ap not (q ∙ ap (λ n. ltb n (2 ^ e)) v.value ∙ sym (ap (λ b. b && ltb (value (set_at w sets i)) (2 ^ e)) (eq-eqb _ _ count)))
    where
      count : length (set_at w sets i) ≡ width e
      count = omega (arith, length-take w (drop (i * w) sets), length-drop (i * w) sets, test-room i h, can.wide)

-- the lent sets have the length called for
pub test-full : {sets : List ℕ} {w p e : ℕ} → e ≤ 256 → length sets ≡ p * width e → w ≡ width e → CanTest sets w p e
test-full {p = p} b f q = record { wide = q; bits = b; full = f ∙ ap (λ v. p * v) (sym q) }

-- row 16's fault, of i initial chunks
unfoldable pub bad_index : Sizes → ℕ → List ℕ → List ℕ → List ℕ → Bool
bad_index z i modules flat chunks =
    any_misfit z.modules false modules || (some_below (λ j. not (legal z.bits (set_at (width z.bits) flat j))) (length chunks) || any_misfit i false chunks)
