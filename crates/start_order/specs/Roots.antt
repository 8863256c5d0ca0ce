-- The nodes from which a desk starts: marked 1 and put on the stack, by rising number. Assumes nothing.
use Rattle.std.specs.Prelude.{ℕ, ◌+◌, ◌≤◌, ◌<◌, ◌≡◌, Bool, true, false, not, List, ltb, length, set}
use Rattle.std.proofs.Common.{arith, sym, ap, ◌∙◌, true≢false, length-set, get_or-set_same, get_or-set_other, lt-ltb, le-ltb}
use Rattle.std.proofs.Math.Decide.{ℕ_discrete}
use Rattle.graphs.specs.Count.{ind}
use Rattle.graphs.specs.Total.{whites_le, whites_push, room_for}
use Rattle.graph_walks.specs.Spread.{met, CanLook, Looked, Ready}
use Rattle.move_ledger.specs.Graph.{at}

-- of the nodes below r those that pass are marked, and on the stack; no other node below n is marked
pub record Roots (p : ℕ → Bool) (n r : ℕ) (marks stack : List ℕ) (h : ℕ) : Type 0 where
  pub ready : Ready n 1 marks stack h
  pub marked : (x : ℕ) → x < r → at marks x ≡ ind (p x)
  pub beyond : (x : ℕ) → r ≤ x → x < n → at marks x ≡ 0
  pub on_stack : (x : ℕ) → x < r → p x ≡ true → (j : ℕ) × (j < h) × (at stack j ≡ x)
  pub of_stack : (j : ℕ) → j < h → (at stack j < r) × (p (at stack j) ≡ true)

-- nothing is marked yet
pub record Blank (n : ℕ) (marks stack : List ℕ) : Type 0 where
  pub cells : n ≤ length marks
  pub room : n ≤ length stack
  pub clear : (x : ℕ) → x < n → at marks x ≡ 0

met_no : (l : List ℕ) (x : ℕ) → at l x ≡ 0 → met 1 l x ≡ 0
met_no l x h = ap (λ b. ind (not b)) (lt-ltb (at l x) 1 (omega arith))

met-yes : (l : List ℕ) (x : ℕ) → at l x ≡ 1 → met 1 l x ≡ 1
met-yes l x h = ap (λ b. ind (not b)) (le-ltb (at l x) 1 (omega arith))

pub roots_none : (p : ℕ → Bool) {n : ℕ} {marks stack : List ℕ} → Blank n marks stack → Roots p n 0 marks stack 0
roots_none p {n} {marks} b = record {
  ready = record { cells = b.cells; room = b.room; count = omega (arith, whites_le n (met 1 marks)); node = λ j l. absurd (omega arith) };
  marked = λ x l. absurd (omega arith);
  beyond = λ x l c. b.clear x c;
  on_stack = λ x l. absurd (omega arith);
  of_stack = λ j l. absurd (omega arith);
}

module _ {p : ℕ → Bool} {n x : ℕ} {marks stack : List ℕ} {h : ℕ} (v : Roots p n x marks stack h) (xn : x < n) where
  free : at marks x ≡ 0
  free = v.beyond x (omega arith) xn

  fits : h < n
  fits = room_for n (met 1 marks) h x v.ready.count xn (met_no marks x free)

  pub roots_can : CanLook marks stack 1 h x
  roots_can = record { cell = omega (arith, v.ready.cells); room = λ q. omega (arith, fits, v.ready.room) }

  abbrev marks' : List ℕ
  marks' = set marks x 1

  abbrev stack' : List ℕ
  stack' = set stack h x

  at_x : at marks' x ≡ 1
  at_x = get_or-set_same marks x 1 0 (omega (arith, v.ready.cells))

  far : (y : ℕ) → (y ≡ x → ⊥) → at marks' y ≡ at marks y
  far y d = get_or-set_other marks x y 1 0 d

  top : at stack' h ≡ x
  top = get_or-set_same stack h x 0 (omega (arith, fits, v.ready.room))

  deep : (j : ℕ) → j < h → at stack' j ≡ at stack j
  deep j b = get_or-set_other stack h j x 0 (omega arith)

  pushed : p x ≡ true → Roots p n (x + 1) marks' stack' (h + 1)
  pushed q = record {
    ready = record {
      cells = omega (arith, length-set marks x 1, v.ready.cells);
      room = omega (arith, length-set stack h x, v.ready.room);
      count = omega (arith, v.ready.count, whites_push n (met 1 marks) (met 1 marks') x xn (met_no marks x free) (met-yes marks' x at_x) (λ y b d. ap (λ k. ind (not (ltb k 1))) (far y d)));
      node = λ j b. elim (ℕ_discrete j h) [ yes e ↦ omega (arith, ap (at stack') e, top) | no e ↦ omega (arith, deep j (omega arith), v.ready.node j (omega arith)) ];
    };
    marked = λ y b. elim (ℕ_discrete y x) [
      | yes e ↦ ap (at marks') e ∙ at_x ∙ sym (ap ind (ap p e ∙ q))
      | no e ↦ far y e ∙ v.marked y (omega arith)
    ];
    beyond = λ y b c. far y (omega arith) ∙ v.beyond y (omega arith) c;
    on_stack = λ y b u. elim (ℕ_discrete y x) [
      | yes e ↦ (h, omega arith, top ∙ sym e)
      | no e ↦ let r = v.on_stack y (omega arith) u in (r.0, omega (arith, r.1), deep r.0 r.1 ∙ r.2)
    ];
    of_stack = λ j b. elim (ℕ_discrete j h) [
      | yes e ↦ let z : at stack' j ≡ x = ap (at stack') e ∙ top in (omega arith, ap p z ∙ q)
      | no e ↦ let z = deep j (omega arith) in let r = v.of_stack j (omega arith) in (omega (arith, r.0), ap p z ∙ r.1)
    ];
  }

  -- a node that does not start
  pub roots_same : p x ≡ false → Roots p n (x + 1) marks stack h
  roots_same q = record {
    ready = v.ready;
    marked = λ y b. elim (ℕ_discrete y x) [ yes e ↦ ap (at marks) e ∙ free ∙ sym (ap ind (ap p e ∙ q)) | no e ↦ v.marked y (omega arith) ];
    beyond = λ y b c. v.beyond y (omega arith) c;
    on_stack = λ y b u. elim (ℕ_discrete y x) [ yes e ↦ absurd (true≢false (sym u ∙ ap p e ∙ q)) | no e ↦ v.on_stack y (omega arith) u ];
    of_stack = λ j b. let r = v.of_stack j b in (omega (arith, r.0), r.1);
  }

  -- and one that does
  pub roots_more : p x ≡ true → {marks'' stack'' : List ℕ} {h' : ℕ} → Looked marks stack 1 h x marks'' stack'' h' → Roots p n (x + 1) marks'' stack'' h'
  roots_more q s = let w = s.new (omega (arith, free)) in rw (w.0, w.1, w.2) (pushed q)
