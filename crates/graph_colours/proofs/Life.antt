-- Theorems on the definitions of specs/Life: they stand here, so that the crate can be read with a definition changed. Assumes nothing.
use Rattle.std.specs.Prelude.{ℕ, ◌<◌, ◌≡◌, refl, true, List, [], ◌∷◌, eqb}
use Rattle.std.proofs.Common.{arith, sym, ap, ◌∙◌, ⊎_elim, true≢false, eqb-true, eq-eqb}
use Rattle.std.proofs.Math.Decide.{ℕ_discrete}
use Rattle.graphs.specs.Bools.{or_cases, or_left, or_right}
use Rattle.graphs.specs.Lists.{any, has}
use Rattle.graph_colours.specs.declared.State.TheVariants.{Gray, Black}
use Rattle.graph_colours.specs.States.{code}
use Rattle.graph_colours.specs.Colours.{next_state, View, Opens, Passes, Closes, Step, opens, passes, closes, Run, none, more, Starts}
use Rattle.graph_colours.specs.Life.{Life}

has_here : (x : ℕ) (l : List ℕ) → has x (x ∷ l) ≡ true
unfolding has any
has_here x l = or_left (eqb x x) _ (eq-eqb x x refl)

has_there : (x y : ℕ) (l : List ℕ) → has x l ≡ true → has x (y ∷ l) ≡ true
unfolding has any
has_there x y l h = or_right (eqb x y) _ h

has_else : (x y : ℕ) (l : List ℕ) → has x (y ∷ l) ≡ true → (x ≡ y → ⊥) → has x l ≡ true
unfolding has any
has_else x y l h n = ⊎_elim (λ a. absurd (n (eqb-true x y a))) (λ b. b) (or_cases (eqb x y) _ h)

has-none : (x : ℕ) → has x [] ≡ true → ⊥
unfolding has any
has-none x h = true≢false (sym h)

-- no node is on the path twice
data Apart : List ℕ → Type 0 where
  empty : Apart []
  put : {x : ℕ} {l : List ℕ} → (has x l ≡ true → ⊥) → Apart l → Apart (x ∷ l)

apart_head : {x : ℕ} {l : List ℕ} → Apart (x ∷ l) → has x l ≡ true → ⊥
apart_head (put h a) = h

apart_tail : {x : ℕ} {l : List ℕ} → Apart (x ∷ l) → Apart l
apart_tail (put h a) = a

-- what the steps keep
record Kept (n : ℕ) (d : ℕ → ℕ) (v : View) : Type 0 where
  life : Life n d v
  inside : (x : ℕ) → has x v.path ≡ true → x < n
  apart : Apart v.path

kept-first : {n : ℕ} {d : ℕ → ℕ} {v : View} → Starts n v → Kept n d v
kept-first {n} {d} {v} s = record {
  life = record {
    white = λ x b h. s.none x b;
    gray = λ x b. (λ h. absurd (omega (arith, ap code (sym (s.white x b) ∙ h))), λ h. absurd (has-none x (rw s.empty at h)));
    black = λ x b h. absurd (omega (arith, ap code (sym (s.white x b) ∙ h)));
  };
  inside = λ x h. absurd (has-none x (rw s.empty at h));
  apart = rw s.empty empty;
}

module _ {n : ℕ} {d : ℕ → ℕ} {v w : View} (k : Kept n d v) where
  kept_opens : {f : ℕ → ℕ → ℕ} (y : ℕ) → Opens n d f v w y → Kept n d w
  kept_opens y o = record {
    life = record {
      white = λ x b h. elim (ℕ_discrete x y) [
        | yes q ↦ absurd (omega (arith, ap code (sym turned ∙ ap w.state (sym q) ∙ h)))
        | no q ↦ o.cursors x b ∙ k.life.white x b (sym (o.turns.others x b q) ∙ h)
      ];
      gray = λ x b. (
        λ h. rw o.path (elim (ℕ_discrete x y) [
          | yes q ↦ rw q (has_here y v.path)
          | no q ↦ has_there x y v.path ((k.life.gray x b).0 (sym (o.turns.others x b q) ∙ h))
        ]),
        λ h. elim (ℕ_discrete x y) [
          | yes q ↦ ap w.state q ∙ turned
          | no q ↦ o.turns.others x b q ∙ (k.life.gray x b).1 (has_else x y v.path (rw o.path at h) q)
        ],
      );
      black = λ x b h. elim (ℕ_discrete x y) [
        | yes q ↦ absurd (omega (arith, ap code (sym turned ∙ ap w.state (sym q) ∙ h)))
        | no q ↦ o.cursors x b ∙ k.life.black x b (sym (o.turns.others x b q) ∙ h)
      ];
    };
    inside = λ x h. elim (ℕ_discrete x y) [ yes q ↦ rw q o.node | no q ↦ k.inside x (has_else x y v.path (rw o.path at h) q) ];
    apart = rw o.path (put (λ h. omega (arith, ap code (sym o.white ∙ (k.life.gray y o.node).1 h))) k.apart);
  }
    where
      turned : w.state y ≡ Gray
      turned = o.turns.this ∙ ap next_state o.white

  kept-passes : {f : ℕ → ℕ → ℕ} (x y : ℕ) → Passes n d f v w x y → Kept n d w
  kept-passes x y o = record {
    life = record {
      white = λ z b h. let g = sym (o.states z b) ∙ h in o.others z b (λ q. omega (arith, ap code (sym (top z b q) ∙ g))) ∙ k.life.white z b g;
      gray = λ z b. (λ h. rw o.path ((k.life.gray z b).0 (sym (o.states z b) ∙ h)), λ h. o.states z b ∙ (k.life.gray z b).1 (rw o.path at h));
      black = λ z b h. let g = sym (o.states z b) ∙ h in o.others z b (λ q. omega (arith, ap code (sym (top z b q) ∙ g))) ∙ k.life.black z b g;
    };
    inside = λ z h. k.inside z (rw o.path at h);
    apart = rw o.path k.apart;
  }
    where
      -- the node opened last is gray
      top : (z : ℕ) → z < n → z ≡ x → v.state z ≡ Gray
      top z b q = (k.life.gray z b).1 (rw (q, o.next.top) (has_here x o.next.rest))

  kept-closes : (x : ℕ) → Closes n d v w x → Kept n d w
  kept-closes x o = record {
    life = record {
      white = λ z b h. elim (ℕ_discrete z x) [
        | yes q ↦ absurd (omega (arith, ap code (sym turned ∙ ap w.state (sym q) ∙ h)))
        | no q ↦ o.cursors z b ∙ k.life.white z b (sym (o.turns.others z b q) ∙ h)
      ];
      gray = λ z b. (
        λ h. elim (ℕ_discrete z x) [
          | yes q ↦ absurd (omega (arith, ap code (sym turned ∙ ap w.state (sym q) ∙ h)))
          | no q ↦ has_else z x w.path (rw o.path at ((k.life.gray z b).0 (sym (o.turns.others z b q) ∙ h))) q
        ],
        λ h.
            let q : z ≡ x → ⊥ = λ e. apart_head (rw o.path at k.apart) (rw e at h) in
            o.turns.others z b q ∙ (k.life.gray z b).1 (rw o.path (has_there z x w.path h)),
      );
      black = λ z b h. elim (ℕ_discrete z x) [
        | yes q ↦ o.cursors z b ∙ ap v.cursor q ∙ o.all ∙ ap d (sym q)
        | no q ↦ o.cursors z b ∙ k.life.black z b (sym (o.turns.others z b q) ∙ h)
      ];
    };
    inside = λ z h. k.inside z (rw o.path (has_there z x w.path h));
    apart = apart_tail (rw o.path at k.apart);
  }
    where
      node : has x v.path ≡ true
      node = rw o.path (has_here x w.path)

      turned : w.state x ≡ Black
      turned = o.turns.this ∙ ap next_state ((k.life.gray x (k.inside x node)).1 node)

kept_step : {n : ℕ} {d : ℕ → ℕ} {f : ℕ → ℕ → ℕ} {v w : View} → Kept n d v → Step n d f v w → Kept n d w
kept_step k (opens y o) = kept_opens k y o
kept_step k (passes x y o) = kept-passes k x y o
kept_step k (closes x o) = kept-closes k x o

kept_run : {n : ℕ} {d : ℕ → ℕ} {f : ℕ → ℕ → ℕ} {v w : View} → Kept n d v → Run n d f v w → Kept n d w
kept_run k none = k
kept_run k (more r s) = kept_step (kept_run k r) s

-- it starts white, and is gray exactly while its edges are gone through: at every moment of a run from the start
pub life : {n : ℕ} {d : ℕ → ℕ} {f : ℕ → ℕ → ℕ} {u v : View} → Starts n u → Run n d f u v → Life n d v
life s r = (kept_run (kept-first s) r).life

-- while an edge of x is gone through, before the step and after it, x is gray
pub passed-gray : {n : ℕ} {d : ℕ → ℕ} {f : ℕ → ℕ → ℕ} {u v w : View} {x y : ℕ} → Starts n u → Run n d f u v → Passes n d f v w x y → (v.state x ≡ Gray) × (w.state x ≡ Gray)
passed-gray {v} {x} s r o =
    let k = kept_run (kept-first s) r in
    let h : has x v.path ≡ true = rw o.next.top (has_here x o.next.rest) in
    let b = k.inside x h in
    let g = (k.life.gray x b).1 h in
    (g, o.states x b ∙ g)

-- it is opened before the first of its edges, and closed after the last
pub opened-first : {n : ℕ} {d : ℕ → ℕ} {f : ℕ → ℕ → ℕ} {u v w : View} {y : ℕ} → Starts n u → Run n d f u v → Opens n d f v w y → w.cursor y ≡ 0
opened-first {y} s r o = o.cursors y o.node ∙ (life s r).white y o.node o.white
