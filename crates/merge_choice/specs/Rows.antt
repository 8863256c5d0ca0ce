-- The row that refuses a call, and what holds where it doesn't fit. Assumes nothing.
use Rattle.std.specs.Prelude.{ℕ, ◌<◌, ◌≤◌, ◌≡◌, Bool, true, false, not, ◌||◌, List, get_or, length, ltb, leb, eqb}
use Rattle.std.proofs.Common.{sym, ◌∙◌, ltb-false, leb-false, eqb-true, eq-eqb, ne_eqb}
use Rattle.std.proofs.lemmas.Bool.{not-false}
use Rattle.graphs.specs.Bools.{or_false_left, or_false_right}
use Rattle.graphs.specs.Lists.{some_none}
use Rattle.merge_state.specs.Table.{any_misfit, other_length}
use Rattle.merge_state.specs.Kept.{no_misfit}
use Rattle.merge_choice.specs.Choice.{Lent}
use Rattle.merge_choice.specs.Find.{bad_lists, bad_entry, bad_lengths, bad_spans, bad_numbers, row23}
use Rattle.merge_choice.specs.Spans.{Spans, spans}

-- tests one after the other
pub here : (a b : Bool) → a ≡ true → true ≡ (a || b)
here a b h = rw h

pub next : (a b : Bool) {r : Bool} → a ≡ false → r ≡ b → r ≡ (a || b)
next a b h e = rw h e

pub other : (a n : ℕ) → (a ≡ n → ⊥) → not (eqb a n) ≡ true
other a n h = rw (ne_eqb a n h)

pub same : (a n : ℕ) → a ≡ n → not (eqb a n) ≡ false
same a n h = rw (eq-eqb a n h)

-- an entry module that isn't read, and one that is
pub entry_unread : (kinds entries : List ℕ) (m b : ℕ) → get_or kinds b 0 ≡ 8 → false ≡ bad_entry kinds entries m b
unfolding bad_entry
entry_unread kinds entries m b h = rw (eq-eqb (get_or kinds b 0) 8 h)

pub entry_read : (kinds entries : List ℕ) (m b : ℕ) → (get_or kinds b 0 ≡ 8 → ⊥) → leb m (get_or entries b 0) ≡ bad_entry kinds entries m b
unfolding bad_entry
entry_read kinds entries m b h = rw (ne_eqb (get_or kinds b 0) 8 h)

pub record Legal (k m : ℕ) (kinds : List ℕ) (l : Lent) : Type 0 where
  pub few_chunks : k ≤ 1024
  pub few_modules : m ≤ 4096
  pub count : length kinds ≡ k
  pub listed : length l.entries ≡ k
  pub sided : length l.effects ≡ k
  pub shown : length l.exports ≡ m
  pub modules : Spans k m l.modules.starts l.modules.items
  pub static : Spans m m l.static.starts l.static.items
  pub dynamic : Spans m m l.dynamic.starts l.dynamic.items
  pub reached : Spans k k l.reached.starts l.reached.items
  pub kind : (b : ℕ) → b < length kinds → get_or kinds b 0 < 9
  pub own : (i : ℕ) → i < length l.candidate → get_or l.candidate i 0 < m
  pub entry : (b : ℕ) → b < length kinds → (get_or kinds b 0 ≡ 8 → ⊥) → get_or l.entries b 0 < m

length_is : (l : List ℕ) (n : ℕ) → other_length l n ≡ false → length l ≡ n
length_is l n h = eqb-true (length l) n (not-false _ h)

pub legal : (k m : ℕ) (kinds : List ℕ) (l : Lent) → row23 k m kinds l ≡ false → Legal k m kinds l
unfolding row23 bad_lengths bad_spans bad_numbers bad_entry
legal k m kinds l h =
    let a = or_false_left (bad_lengths k m kinds l.entries l.effects l.exports) _ h in
    let h₁ = or_false_right (bad_lengths k m kinds l.entries l.effects l.exports) _ h in
    let s = or_false_left (bad_spans k m l.modules l.static l.dynamic l.reached) _ h₁ in
    let n = or_false_right (bad_spans k m l.modules l.static l.dynamic l.reached) _ h₁ in
    let a₁ = or_false_right (ltb 1024 k) _ a in
    let a₂ = or_false_right (ltb 4096 m) _ a₁ in
    let a₃ = or_false_right (other_length kinds k) _ a₂ in
    let a₄ = or_false_right (other_length l.entries k) _ a₃ in
    let s₁ = or_false_right (bad_lists k m l.modules) _ s in
    let s₂ = or_false_right (bad_lists m m l.static) _ s₁ in
    let n₁ = or_false_right (any_misfit 9 false kinds) _ n in
    let n₂ = or_false_right (any_misfit m false l.candidate) _ n₁ in
    record {
      few_chunks = ltb-false _ _ (or_false_left (ltb 1024 k) _ a);
      few_modules = ltb-false _ _ (or_false_left (ltb 4096 m) _ a₁);
      count = length_is kinds k (or_false_left (other_length kinds k) _ a₂);
      listed = length_is l.entries k (or_false_left (other_length l.entries k) _ a₃);
      sided = length_is l.effects k (or_false_left (other_length l.effects k) _ a₄);
      shown = length_is l.exports m (or_false_right (other_length l.effects k) _ a₄);
      modules = spans k m l.modules.starts l.modules.items (or_false_left (bad_lists k m l.modules) _ s);
      static = spans m m l.static.starts l.static.items (or_false_left (bad_lists m m l.static) _ s₁);
      dynamic = spans m m l.dynamic.starts l.dynamic.items (or_false_left (bad_lists m m l.dynamic) _ s₂);
      reached = spans k k l.reached.starts l.reached.items (or_false_right (bad_lists m m l.dynamic) _ s₂);
      kind = no_misfit 9 kinds (or_false_left (any_misfit 9 false kinds) _ n);
      own = no_misfit m l.candidate (or_false_left (any_misfit m false l.candidate) _ n₁);
      entry = λ b i e. leb-false m (get_or l.entries b 0) (entry_read kinds l.entries m b e ∙ some_none (bad_entry kinds l.entries m) (length kinds) n₂ b i);
    }

pub equal_lengths : (k m : ℕ) (kinds entries effects exports : List ℕ) → bad_lengths k m kinds entries effects exports ≡ false → length entries ≡ length kinds
unfolding bad_lengths
equal_lengths k m kinds entries effects exports h =
    let a₂ = or_false_right (ltb 4096 m) _ (or_false_right (ltb 1024 k) _ h) in
    let a₃ = or_false_right (other_length kinds k) _ a₂ in
    length_is entries k (or_false_left (other_length entries k) _ a₃) ∙ sym (length_is kinds k (or_false_left (other_length kinds k) _ a₂))
