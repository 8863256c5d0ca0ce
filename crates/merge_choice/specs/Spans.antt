-- Lists in one, whose starts and items are in order. Assumes nothing.
use Rattle.std.specs.Prelude.{ℕ, zero, suc, ◌+◌, ◌-◌, ◌<◌, ◌≤◌, ◌≡◌, false, not, List, get_or, length, ltb, eqb}
use Rattle.std.proofs.Common.{arith, ltb-false, eqb-true}
use Rattle.std.proofs.lemmas.Bool.{not-false}
use Rattle.graphs.specs.Bools.{or_false_left, or_false_right}
use Rattle.graphs.specs.Lists.{some_none}
use Rattle.merge_state.specs.Table.{bad_starts, falling}
use Rattle.merge_state.specs.Kept.{no_misfit}
use Rattle.merge_choice.specs.Choice.{lists}
use Rattle.merge_choice.specs.Find.{bad_lists}

-- list x can be read
pub record Span (starts items : List ℕ) (x : ℕ) : Type 0 where
  pub next : x + 1 < length starts
  pub rising : get_or starts x 0 ≤ get_or starts (x + 1) 0
  pub ends : get_or starts (x + 1) 0 ≤ length items

-- so can each of n lists, of numbers below top
pub record Spans (n top : ℕ) (starts items : List ℕ) : Type 0 where
  pub count : length starts ≡ n + 1
  pub each : (x : ℕ) → x < n → Span starts items x
  pub below : (i : ℕ) → i < length items → get_or items i 0 < top

-- a start is at most the last one
up : (l : List ℕ) (n : ℕ) → ((i : ℕ) → i < n → get_or l i 0 ≤ get_or l (i + 1) 0) → (k i : ℕ) → i + k ≡ n → get_or l i 0 ≤ get_or l n 0
up l n r zero i e = let q : i ≡ n = omega arith in rw q (omega arith)
up l n r (suc k) i e = omega (arith, r i (omega arith), up l n r k (i + 1) (omega arith))

pub spans : (n top : ℕ) (starts items : List ℕ) → bad_lists n top (lists starts items) ≡ false → Spans n top starts items
unfolding bad_lists bad_starts falling
spans n top starts items h =
    let st = or_false_left (bad_starts n starts (length items)) _ h in
    let st₁ = or_false_right (not (eqb (length starts) (n + 1))) _ st in
    let st₂ = or_false_right (not (eqb (get_or starts 0 0) 0)) _ st₁ in
    let st₃ = or_false_right (not (eqb (get_or starts n 0) (length items))) _ st₂ in
    let count : length starts ≡ n + 1 = eqb-true _ _ (not-false _ (or_false_left (not (eqb (length starts) (n + 1))) _ st)) in
    let last : get_or starts n 0 ≡ length items = eqb-true _ _ (not-false _ (or_false_left (not (eqb (get_or starts n 0) (length items))) _ st₂)) in
    let rise : (i : ℕ) → i < n → get_or starts i 0 ≤ get_or starts (i + 1) 0 = λ i b. ltb-false _ _ (some_none (λ i. ltb (get_or starts (i + 1) 0) (get_or starts i 0)) n st₃ i b) in
    record {
      count = count;
      each = λ x b. record { next = omega arith; rising = rise x b; ends = omega (arith, up starts n rise (n - (x + 1)) (x + 1) (omega arith)) };
      below = no_misfit top items (or_false_right (bad_starts n starts (length items)) _ h);
    }
