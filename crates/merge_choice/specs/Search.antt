-- The first entry whose module all others of its role import. Assumes nothing.
use Prim.Native.Nat.{ℕ, zero, suc, ◌+◌, ◌<◌, ◌≤◌}
use Rattle.std.proofs.Common.{arith, add-one, sym, ◌∙◌, subst}
use Rattle.std.specs.Prelude.{◌≡◌, Bool, true, false, ◌&&◌, ◌||◌, List, length}
use Rattle.std.proofs.Math.Path.{refl, ap}
use Rattle.std.proofs.Math.Bool.{not, cond}
use Rattle.std.proofs.Math.ListN.{get_or}
use Rattle.std.proofs.Math.Dec.{eqb}
use borrow.Author.Tests.{eq-eqb, ne_eqb}
use Rattle.graphs.specs.Bools.{Same, it, other, same?}
use Rattle.merge_state.specs.State.{None}
use Rattle.merge_choice.specs.Choice.{lists, first_below, wins}
use Rattle.merge_choice.specs.Spans.{Span}
use Rattle.merge_choice.specs.Marks.{CanMarkList}
use Rattle.merge_choice.specs.Named.{reads}

-- chunk o has role v, and its entry module neither is e nor has the mark
unfoldable pub misses : List ℕ → ℕ → List ℕ → ℕ → List ℕ → ℕ → ℕ → Bool
misses roles v entries e marks mark o = eqb (get_or roles o 0) v && not (eqb (get_or entries o 0) e || eqb (get_or marks (get_or entries o 0) 0) mark)

-- its cases
module _ (roles : List ℕ) (v : ℕ) (entries : List ℕ) (e : ℕ) (marks : List ℕ) (mark o : ℕ) where
  pub miss_role : (get_or roles o 0 ≡ v → ⊥) → false ≡ misses roles v entries e marks mark o
  unfolding misses
  miss_role h = rw (ne_eqb (get_or roles o 0) v h)

  pub miss_same : get_or roles o 0 ≡ v → get_or entries o 0 ≡ e → false ≡ misses roles v entries e marks mark o
  unfolding misses
  miss_same h q = rw (eq-eqb (get_or roles o 0) v h, eq-eqb (get_or entries o 0) e q)

  pub miss_mark : get_or roles o 0 ≡ v → (get_or entries o 0 ≡ e → ⊥) → not (eqb (get_or marks (get_or entries o 0) 0) mark) ≡ misses roles v entries e marks mark o
  unfolding misses
  miss_mark h q = rw (eq-eqb (get_or roles o 0) v h, ne_eqb (get_or entries o 0) e q)

-- the entry modules of the chunks of role v have a mark
pub record CanMiss (roles : List ℕ) (v : ℕ) (entries : List ℕ) (n : ℕ) (marks : List ℕ) : Type 0 where
  pub named : n ≤ length roles
  pub listed : n ≤ length entries
  pub below : (o : ℕ) → o < n → get_or roles o 0 ≡ v → get_or entries o 0 < length marks

-- and a list of importers each, of modules that have one too, of at most `room` modules
pub record CanFirst (n : ℕ) (roles : List ℕ) (v : ℕ) (entries starts items : List ℕ) (room : ℕ) : Type 0 where
  pub few : n ≤ 256
  pub named : n ≤ length roles
  pub listed : n ≤ length entries
  pub entry : (o : ℕ) → o < n → get_or roles o 0 ≡ v → get_or entries o 0 + 1 < length starts
  pub count : length starts ≤ room + 1
  pub spans : (x : ℕ) → x + 1 < length starts → Span starts items x
  pub inside : (i : ℕ) → i < length items → get_or items i 0 < room

pub record CanWin (n : ℕ) (roles : List ℕ) (v : ℕ) (entries starts items marks : List ℕ) (t : ℕ) : Type 0 where
  pub first : CanFirst n roles v entries starts items (length marks)
  pub old : (y : ℕ) → get_or marks y 0 ≤ t
  pub named : t < n

pub record Won (n : ℕ) (roles : List ℕ) (v : ℕ) (entries starts items marks : List ℕ) (t : ℕ) (marks' : List ℕ) (r : Bool) : Type 0 where
  pub long : length marks' ≡ length marks
  pub old : (y : ℕ) → get_or marks' y 0 ≤ t + 1
  pub answer : r ≡ wins (reads roles) n entries (lists starts items) v t

module _ {n : ℕ} {roles : List ℕ} {v : ℕ} {entries starts items marks : List ℕ} {t : ℕ} (c : CanWin n roles v entries starts items marks t) where
  -- another role
  pub lost : (get_or roles t 0 ≡ v → ⊥) → Won n roles v entries starts items marks t marks false
  unfolding wins
  lost h = record { long = refl; old = λ y. omega (arith, c.old y); answer = rw (ne_eqb (get_or roles t 0) v h) }

-- a search for the first that passes
module _ (p : ℕ → Bool) where
  pub first-none : first_below p 0 ≡ None
  unfolding first_below
  first-none = refl

  pub first_more : (t : ℕ) → first_below p t ≡ None → p t ≡ false → first_below p (t + 1) ≡ None
  unfolding first_below
  first_more t h q = ap (first_below p) (add-one t) ∙ (rw (h, q))

  pub first_found : (n t : ℕ) → t < None → first_below p t ≡ None → p t ≡ true → t < n → t ≡ first_below p n
  unfolding first_below
  first_found zero t s h q b = absurd (omega arith)
  first_found (suc n) t s h q b = go (same? t n) (first_found n t s h q)
    where
      go : Same t n → (t < n → t ≡ first_below p n) → t ≡ cond (eqb (first_below p n) None) (cond (p n) n None) (first_below p n)
      go (it e) f = rw (← e, h, q)
      go (other e) f = let r : t ≡ first_below p n = f (omega arith) in rw (ne_eqb (first_below p n) None (λ z. omega (arith, z, r))) r

  pub first-end : (n t : ℕ) → first_below p t ≡ None → t ≡ n → None ≡ first_below p n
  first-end n t h e = sym h ∙ ap (first_below p) e

-- the search stands at t
pub record Searching (n : ℕ) (roles : List ℕ) (v : ℕ) (entries starts items marks : List ℕ) (t : ℕ) : Type 0 where
  pub long : length marks ≡ 4096
  pub old : (y : ℕ) → get_or marks y 0 ≤ t
  pub none : first_below (wins (reads roles) n entries (lists starts items) v) t ≡ None

module _ {n : ℕ} {roles : List ℕ} {v : ℕ} {entries starts items marks : List ℕ} where
  pub can_mark : {t : ℕ} → CanWin n roles v entries starts items marks t → get_or roles t 0 ≡ v → CanMarkList starts items (get_or entries t 0) marks
  can_mark {t} c q = record { span = c.first.spans (get_or entries t 0) (c.first.entry t c.named q); below = c.first.inside }

  pub can_miss : {t : ℕ} {marks' : List ℕ} → CanWin n roles v entries starts items marks t → length marks' ≡ length marks → CanMiss roles v entries n marks'
  can_miss c e = record { named = c.first.named; listed = c.first.listed; below = λ o b q. omega (arith, c.first.entry o b q, c.first.count) }

  pub can_win : {t : ℕ} → CanFirst n roles v entries starts items 4096 → Searching n roles v entries starts items marks t → t < n → CanWin n roles v entries starts items marks t
  can_win f s b = record { first = subst (λ k. CanFirst n roles v entries starts items k) (sym s.long) f; old = s.old; named = b }

  pub search_more : {t : ℕ} {marks' : List ℕ} {r : Bool} → Searching n roles v entries starts items marks t → Won n roles v entries starts items marks t marks' r → r ≡ false → Searching n roles v entries starts items marks' (t + 1)
  search_more {t} s w q = record { long = w.long ∙ s.long; old = w.old; none = first_more _ t s.none (sym w.answer ∙ q) }
