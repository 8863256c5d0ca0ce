-- The same on the lists, for the stores of `src/lib.rt`. Assumes nothing.
use Prim.Native.Nat.{ℕ, ◌+◌, ◌-◌, ◌<◌, ◌≤◌}
use native.Mathlib.Omega.{arith}
use native.Mathlib.Decide.{ℕ_discrete, dec_lt}
use mathlib.Core.Path.{◌≡◌, refl, ap, ◌∙◌}
use mathlib.Core.Bool.{Bool, true, false, not}
use mathlib.Core.List.{List}
use lib.ListN.{get_or, length, set, length-set}
use lib.Dec.{ltb}
use lib.Seq.{get_or-set_same, get_or-set_other}
use borrow.Author.Tests.{lt-ltb, le-ltb}
use Rattle.graphs.specs.Bools.{fails}
use Rattle.graphs.specs.Count.{ind}
use Rattle.graphs.specs.Total.{whites, whites_le, whites_push, room_for}
use Rattle.graph_walks.specs.Spread.{met, stk, Offers, Spread, Ready, size, Kept, CanLook, Looked, Scanned, Done}
use Rattle.graph_walks.proofs.Moves as moves

-- marked as a number
pub met-yes : (mark : ℕ) (l : List ℕ) (x : ℕ) → mark ≤ get_or l x 0 → met mark l x ≡ 1
met-yes mark l x h = ap (λ b. ind (not b)) (le-ltb _ _ h)

pub met_no : (mark : ℕ) (l : List ℕ) (x : ℕ) → get_or l x 0 < mark → met mark l x ≡ 0
met_no mark l x h = ap (λ b. ind (not b)) (lt-ltb _ _ h)

pub yes-met : (mark : ℕ) (l : List ℕ) (x : ℕ) → met mark l x ≡ 1 → mark ≤ get_or l x 0
yes-met mark l x h = elim (dec_lt (get_or l x 0) mark) [ yes q ↦ absurd (omega (arith, met_no mark l x q)) | no q ↦ omega arith ]

pub kept_refl : (n mark : ℕ) (l : List ℕ) → Kept n mark l l
kept_refl n mark l = record { stay = λ x h. refl; low = λ x h. refl; new = λ x h k. absurd (omega arith); beyond = λ x h. refl }

pub kept_trans : {n mark : ℕ} {a b c : List ℕ} → Kept n mark a b → Kept n mark b c → Kept n mark a c
kept_trans {n} {mark} {a} {b} {c} p q = record {
  stay = λ x h. let i = p.stay x h in q.stay x (omega arith) ∙ i;
  low = λ x h. let i = q.low x h in i ∙ p.low x (omega arith);
  new = λ x h k. elim (dec_lt (get_or b x 0) mark) [
    | yes z ↦ q.new x z k
    | no z ↦ let i = q.stay x (omega arith) in i ∙ p.new x h (omega arith)
  ];
  beyond = λ x h. q.beyond x h ∙ p.beyond x h;
}

-- a node that is marked stays marked
pub kept-met : {n mark : ℕ} {a b : List ℕ} → Kept n mark a b → (x : ℕ) → met mark a x ≡ 1 → met mark b x ≡ 1
kept-met {n} {mark} {a} {b} k x h = met-yes mark b x (let i = yes-met mark a x h in omega (arith, k.stay x i))

-- the walk starts with nothing on the stack
pub ready-first : {n mark : ℕ} {marks stack : List ℕ} → n ≤ length marks → n ≤ length stack → Ready n mark marks stack 0
ready-first {n} {mark} {marks} a b = record { cells = a; room = b; count = omega (arith, whites_le n (met mark marks)); node = λ p l. absurd (omega arith) }

-- looking at one node
module _ {n mark : ℕ} {marks stack : List ℕ} {sp y : ℕ} (v : Ready n mark marks stack sp) (yn : y < n) where
  fits : get_or marks y 0 < mark → sp < n
  fits h = room_for n (met mark marks) sp y v.count yn (met_no mark marks y h)

  pub look_can : CanLook marks stack mark sp y
  look_can = record { cell = omega (arith, v.cells); room = λ h. let a = fits h in omega (arith, v.room) }

  -- it is new
  module _ (new : get_or marks y 0 < mark) where
    abbrev marks' : List ℕ
    marks' = set marks y mark

    abbrev stack' : List ℕ
    stack' = set stack sp y

    pub at_y : get_or marks' y 0 ≡ mark
    at_y = get_or-set_same marks y mark 0 (omega (arith, v.cells))

    pub far : (x : ℕ) → (x ≡ y → ⊥) → get_or marks' x 0 ≡ get_or marks x 0
    far x z = get_or-set_other marks y x mark 0 z

    pub cy : met mark marks' y ≡ 1
    cy = met-yes mark marks' y (omega (arith, at_y))

    pub co : (x : ℕ) → x < n → (x ≡ y → ⊥) → met mark marks' x ≡ met mark marks x
    co x b z = ap (λ k. ind (not (ltb k mark))) (far x z)

    pub top_y : stk stack' sp ≡ y
    top_y = get_or-set_same stack sp y 0 (omega (arith, v.room, fits new))

    pub so : (p : ℕ) → (p ≡ sp → ⊥) → stk stack' p ≡ stk stack p
    so p z = get_or-set_other stack sp p y 0 z

    fewer : whites n (met mark marks') + 1 ≡ whites n (met mark marks)
    fewer = whites_push n (met mark marks) (met mark marks') y yn (met_no mark marks y new) cy co

    pub push_ready : Ready n mark marks' stack' (sp + 1)
    push_ready = record {
      cells = rw length-set v.cells;
      room = rw length-set v.room;
      count = omega (arith, fewer, v.count);
      node = λ p b. elim (ℕ_discrete p sp) [ yes q ↦ rw (q, top_y) yn | no q ↦ rw (so p q) (v.node p (omega arith)) ];
    }

    pub push_kept : Kept n mark marks marks'
    push_kept = record {
      stay = λ x h. far x (λ u. omega (arith, ap (λ k. get_or marks k 0) u));
      low = λ x h. far x (λ u. omega (arith, ap (λ k. get_or marks' k 0) u, at_y));
      new = λ x h k. elim (ℕ_discrete x y) [ yes u ↦ rw u at_y | no u ↦ absurd (omega (arith, far x u)) ];
      beyond = λ x h. far x (omega arith);
    }

    pub push_less : size n mark marks' (sp + 1) ≤ size n mark marks sp
    unfolding size
    push_less = omega (arith, fewer)

    -- it goes on the stack between two scans
    pub seed_state : {d : ℕ → ℕ} {f : ℕ → ℕ → ℕ} {h : ℕ → ℕ → Bool} {o r : ℕ → Bool} → ((x i : ℕ) → x < n → i < d x → h x i ≡ true → f x i < n)
        → Spread n d f h o r (met mark marks) (stk stack) sp n 0 → r y ≡ true → Spread n d f h o r (met mark marks') (stk stack') (sp + 1) n 0
    seed_state g a may = moves.seed a g (met mark marks') (stk stack') y yn may cy co top_y so (λ i b. absurd (omega arith))

-- the loop over t's places
module _ {e : ℕ → ℕ → Bool} {n : ℕ} {d : ℕ → ℕ} {f : ℕ → ℕ → ℕ} {h : ℕ → ℕ → Bool} (G : Offers e n d f h) where
  pub scan_none : {mark : ℕ} {l s : List ℕ} {sp t : ℕ} → Ready n mark l s sp → Scanned e n d f h mark l s sp t 0 l s sp
  scan_none {mark} {l} v = record { ready = v; kept = kept_refl n mark l; less = omega arith; state = λ o r w g. w }

  module _ {mark : ℕ} {l₀ s₀ l s : List ℕ} {sp₀ sp t j : ℕ} (v : Scanned e n d f h mark l₀ s₀ sp₀ t j l s sp) where
    pub turn_skip : (h t j ≡ true → met mark l (f t j) ≡ 1) → Scanned e n d f h mark l₀ s₀ sp₀ t (j + 1) l s sp
    turn_skip q = record { ready = v.ready; kept = v.kept; less = v.less; state = λ o r w g. moves.pass (v.state o r w g) q }

    module _ (tn : t < n) (jd : j < d t) (holds : h t j ≡ true) {y : ℕ} (is : y ≡ f t j) where
      yn : y < n
      yn = rw is (G.ends t j tn jd holds)

      pub turn_can : CanLook l s mark sp y
      turn_can = look_can v.ready yn

      turn-new : get_or l y 0 < mark → Scanned e n d f h mark l₀ s₀ sp₀ t (j + 1) (set l y mark) (set s sp y) (sp + 1)
      turn-new k = record {
        ready = push_ready v.ready yn k;
        kept = kept_trans v.kept (push_kept v.ready yn k);
        less = omega (arith, v.less, push_less v.ready yn k);
        state = λ o r w g.
            let a = v.state o r w g in
            let free : o y ≡ false = fails (o y) (λ z. omega (arith, a.old y yn z, met_no mark l y k)) in
            moves.pass
            (moves.seed a G.ends (met mark (set l y mark)) (stk (set s sp y)) y yn (g y (rw is (G.step t j tn jd holds)) free)
            (cy v.ready yn k) (co v.ready yn k) (top_y v.ready yn k) (so v.ready yn k) (λ i b m q. G.ends t i tn m q))
            (λ z. rw (← is) (cy v.ready yn k));
      }

      pub turn_more : {l' s' : List ℕ} {sp' : ℕ} → Looked l s mark sp y l' s' sp' → Scanned e n d f h mark l₀ s₀ sp₀ t (j + 1) l' s' sp'
      turn_more {l'} {s'} {sp'} w = go (dec_lt (get_or l y 0) mark)
        where
          go : Dec (get_or l y 0 < mark) → Scanned e n d f h mark l₀ s₀ sp₀ t (j + 1) l' s' sp'
          go (yes k) = let q = w.new k in rw (q.0, q.1, q.2) (turn-new k)
          go (no k) = let q = w.old (omega arith) in rw (q.0, q.1, q.2) (turn_skip (λ z. rw (← is) (met-yes mark l y (omega arith))))

  -- the loop over the stack
  pub done_none : {mark : ℕ} {l s : List ℕ} {sp : ℕ} → Ready n mark l s sp → Done e n d f h mark l s sp l s sp
  done_none {mark} {l} v = record { ready = v; kept = kept_refl n mark l; state = λ o r g w. w }

  module _ {mark : ℕ} {l₀ s₀ l s : List ℕ} {sp₀ sp : ℕ} (v : Done e n d f h mark l₀ s₀ sp₀ l s sp) (some : 0 < sp) where
    pub top_node : stk s (sp - 1) < n
    top_node = v.ready.node (sp - 1) (omega arith)

    pub top_ready : Ready n mark l s (sp - 1)
    top_ready = record { cells = v.ready.cells; room = v.ready.room; count = omega (arith, v.ready.count); node = λ p b. v.ready.node p (omega arith) }

    pub done_more : {l' s' : List ℕ} {sp' : ℕ} → Scanned e n d f h mark l s (sp - 1) (stk s (sp - 1)) (d (stk s (sp - 1))) l' s' sp' → Done e n d f h mark l₀ s₀ sp₀ l' s' sp'
    done_more w = record {
      ready = w.ready;
      kept = kept_trans v.kept w.kept;
      state = λ o r g a.
          let b = v.state o r g a in
          moves.done (w.state o r (moves.take b some) (λ y. g (stk s (sp - 1)) y (b.live (sp - 1) (omega arith)))) (omega arith);
    }

pub scan_less : (n mark : ℕ) (marks : List ℕ) (sp k : ℕ) → 0 < sp → k ≤ size n mark marks (sp - 1) → k < size n mark marks sp
unfolding size
scan_less n mark marks sp k b h = omega arith
