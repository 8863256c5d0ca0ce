-- The table's rows: the first fitting one, and what a call that none refuses may rely on. Assumes nothing.
use Rattle.std.specs.Prelude.{ℕ, zero, suc, ◌<◌, ◌≤◌, ◌≡◌, Bool, ◌||◌, List, [], ◌∷◌, length, leb}
use Rattle.std.proofs.Common.{arith, ◌∙◌}
use Rattle.std.proofs.Math.Path.{refl, sym, ap}
use Rattle.std.proofs.Math.Bool.{true, false}
use Rattle.graphs.specs.Bools.{or_false_left, or_false_right}
use Rattle.refusals.specs.declared.Refusal.{Refusal}
use Rattle.refusals.specs.Rows.{row}
pub use Rattle.refusals.specs.Rows.{row_some}
use Rattle.merge_state.specs.declared.Sizes.{Sizes}
use borrow.Author.Tests.{leb-false}
use Rattle.merge_state.specs.Table.{register_chunk_graph_index, Answer, refused, Call, first_fitting, over_lists, bad_lists, later, acted, turned}
use Rattle.merge_state.specs.Kept.{none-fits}
use Rattle.merge_area.specs.Layout.{room}
use Rattle.merge_area.specs.Read.{read}
use Rattle.merge_area.specs.Writes.{write}
use Rattle.merge_area.specs.Consistent.{over, short, head_fault, inconsistent}
use Rattle.merge_area.specs.Within.{Within, within, Headed, headed, longs}
use Rattle.merge_area.specs.Calls.{standing, refusal, step, Called}

-- a row fits, or those after it decide
pub fits_here : (b : Bool) (n : ℕ) (l : List (Bool × ℕ)) → b ≡ true → n ≡ first_fitting ((b, n) ∷ l)
unfolding first_fitting
fits_here b n l h = rw h

pub fits_next : (b : Bool) (n q : ℕ) (l : List (Bool × ℕ)) → b ≡ false → q ≡ first_fitting l → q ≡ first_fitting ((b, n) ∷ l)
unfolding first_fitting
fits_next b n q l h e = rw h e

pub fits-none : 0 ≡ first_fitting []
unfolding first_fitting
fits-none = refl

-- three rows, and others after them
module _ (l : List (Bool × ℕ)) where
  stop : (b₁ b₂ b₃ : Bool) → (first_fitting ((b₁, 14) ∷ (b₂, 15) ∷ (b₃, 21) ∷ []) ≡ 0 → ⊥)
      → first_fitting ((b₁, 14) ∷ (b₂, 15) ∷ (b₃, 21) ∷ []) ≡ first_fitting ((b₁, 14) ∷ (b₂, 15) ∷ (b₃, 21) ∷ l)
  unfolding first_fitting
  stop true b₂ b₃ h = refl
  stop false true b₃ h = refl
  stop false false true h = refl
  stop false false false h = absurd (h refl)

  go_on : (b₁ b₂ b₃ : Bool) → first_fitting ((b₁, 14) ∷ (b₂, 15) ∷ (b₃, 21) ∷ []) ≡ 0 → first_fitting l ≡ first_fitting ((b₁, 14) ∷ (b₂, 15) ∷ (b₃, 21) ∷ l)
  unfolding first_fitting
  go_on true b₂ b₃ h = absurd (omega arith)
  go_on false true b₃ h = absurd (omega arith)
  go_on false false true h = absurd (omega arith)
  go_on false false false h = refl

module _ (z : Sizes) (a : List ℕ) (c : Call) where
  -- rows 14, 15 and 21 refuse the call
  pub early : {q : ℕ} → q ≡ standing z (over_lists c) (bad_lists z c) a → (q ≡ 0 → ⊥) → q ≡ refusal z a c
  unfolding standing refusal
  early e h = e ∙ stop (later z (read z a) c) (over z || over_lists c) (bad_lists z c || short z a) (inconsistent z a) (λ k. h (e ∙ k))

  pub early-row : (r : Refusal) → row r ≡ standing z (over_lists c) (bad_lists z c) a → row r ≡ refusal z a c
  early-row r e = early e (row_some r)

  -- they don't: the later rows decide
  pub late : (q r : ℕ) → q ≡ standing z (over_lists c) (bad_lists z c) a → q ≡ 0 → r ≡ first_fitting (later z (read z a) c) → r ≡ refusal z a c
  unfolding standing refusal
  late q r e h k = k ∙ go_on (later z (read z a) c) (over z || over_lists c) (bad_lists z c || short z a) (inconsistent z a) (sym e ∙ h)

-- rows 14, 15 and 21 don't fit
pub record Stood (z : Sizes) (a : List ℕ) : Type 0 where
  pub headed : Headed z a
  pub consistent : inconsistent z a ≡ false

head_right : (z : Sizes) (a : List ℕ) → inconsistent z a ≡ false → head_fault z a ≡ false
unfolding inconsistent
head_right z a h = or_false_left (head_fault z a) _ h

stood_by : (z : Sizes) (a : List ℕ) (m l : Bool) (rest : List (Bool × ℕ)) → first_fitting ((over z || m, 14) ∷ (l || short z a, 15) ∷ (inconsistent z a, 21) ∷ rest) ≡ 0
    → Stood z a × (m ≡ false) × (l ≡ false) × (first_fitting rest ≡ 0)
stood_by z a m l rest h =
    let h₁ = none-fits _ 14 _ (omega arith) h in
    let h₂ = none-fits _ 15 _ (omega arith) h₁.1 in
    let h₃ = none-fits _ 21 _ (omega arith) h₂.1 in (
      record { headed = headed (within z (or_false_left (over z) _ h₁.0)) (longs z a (or_false_right l _ h₂.0)) (head_right z a h₃.0); consistent = h₃.0 },
      or_false_right (over z) _ h₁.0,
      or_false_left l _ h₂.0,
      h₃.1,
    )

pub stood : (z : Sizes) (a : List ℕ) (m l : Bool) {q : ℕ} → q ≡ standing z m l a → q ≡ 0 → Stood z a
unfolding standing
stood z a m l e h = (stood_by z a m l [] (sym e ∙ h)).0

-- no row fits
pub record Free (z : Sizes) (a : List ℕ) (c : Call) : Type 0 where
  pub stood : Stood z a
  pub many : over_lists c ≡ false
  pub lists : bad_lists z c ≡ false
  pub later : first_fitting (later z (read z a) c) ≡ 0

pub free : (z : Sizes) (a : List ℕ) (c : Call) {q : ℕ} → q ≡ refusal z a c → q ≡ 0 → Free z a c
unfolding refusal
free z a c e h = let s = stood_by z a (over_lists c) (bad_lists z c) (later z (read z a) c) (sym e ∙ h) in record { stood = s.0; many = s.1; lists = s.2; later = s.3 }

pub turned_refused : {A : Type 0} (q : ℕ) (g : A) (r : Answer × A) → (q ≡ 0 → ⊥) → turned q g r ≡ (refused q, g)
unfolding turned
turned_refused zero g r h = absurd (h refl)
turned_refused (suc n) g r h = refl

pub turned-free : {A : Type 0} (q : ℕ) (g : A) (r : Answer × A) → q ≡ 0 → turned q g r ≡ r
unfolding turned
turned-free zero g r h = refl
turned-free (suc n) g r h = absurd (omega arith)

module _ (z : Sizes) (a : List ℕ) (c : Call) where
  -- a refused call
  pub refused_called : {q : ℕ} {r : Answer} {b : List ℕ} → q ≡ refusal z a c → (q ≡ 0 → ⊥) → r ≡ refused q → b ≡ a → Called z a c r b
  unfolding step
  refused_called {q} e h p s =
      let t = turned_refused (refusal z a c) a ((acted z (read z a) c).0, write z a c) (λ k. h (e ∙ k)) in
      record { answer = p ∙ ap refused e ∙ sym (ap (λ x. x.0) t); area = s ∙ sym (ap (λ x. x.1) t) }

  -- one that isn't
  pub acted_called : {q : ℕ} {r : Answer} {b : List ℕ} → q ≡ refusal z a c → q ≡ 0 → r ≡ (acted z (read z a) c).0 → b ≡ write z a c → Called z a c r b
  unfolding step
  acted_called e h p s =
      let t = turned-free (refusal z a c) a ((acted z (read z a) c).0, write z a c) (sym e ∙ h) in
      record { answer = p ∙ sym (ap (λ x. x.0) t); area = s ∙ sym (ap (λ x. x.1) t) }

-- what each call may rely on
module _ (z : Sizes) (a : List ℕ) where
  pub may-register : (k x : ℕ) {q : ℕ} → q ≡ refusal z a (register_chunk_graph_index k x) → q ≡ 0 → Within z × (room z ≤ length a) × (k < z.chunks)
  unfolding later
  may-register k x e h =
      let f = free z a (register_chunk_graph_index k x) e h in
      let h₁ = none-fits _ 16 _ (omega arith) f.later in
      (f.stood.headed.within, f.stood.headed.long, leb-false _ _ (or_false_left (leb z.chunks k) _ h₁.0))
