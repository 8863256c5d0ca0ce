-- The matrix follows slots: first their new edges, then their old ones. Assumes nothing.
use mathlib.Core.Path.{◌≡◌, refl, sym, ap, ◌∙◌, subst}
use mathlib.Core.List.{List, ◌++◌}
use mathlib.Core.Bool.{Bool, true, false, cond, not, ◌&&◌}
use Prim.Native.Nat.{ℕ, zero, suc, ◌+◌, ◌-◌, ◌*◌, ◌≤◌, ◌<◌}
use native.Mathlib.Omega.{arith}
use native.Mathlib.Nat.{zero-add}
use lib.Dec.{eqb}
use lib.ListN.{length, get_or, drop, replicate, length-replicate, get_or-replicate, get_or-append}
use Rattle.std.proofs.Common.{length-append, length-drop, get_or-append-add, get_or-drop}
use borrow.Author.Tests.{eqb-true}
use Rattle.graphs.specs.Bools.{and_both}
use Rattle.graphs.specs.Count.{ind, count, count_none, count-more, count_yes, count_le, count_mono}
use Rattle.graphs.specs.Square.{index_lt}
use Rattle.graphs.specs.Slots.{stands, cell, flat, added, removed}
use Rattle.graphs.specs.SlotLaws.{more-at, less-at, length_more, length-less, hits-yes, flat_beyond}
use Rattle.layout.specs.Patch.{patch, is_patch}
use Rattle.move_edges.specs.Matrix.{matrix, matrix_long, matrix-at}
use Rattle.move_edges.specs.Steps.{Within, within-place, CanAdd, InBoth, CanGainOne, CanShedOne, Both, CanGain, CanShed, CanUpdate, CanFill, another, changed, gained, lost, Grown, Fallen}

-- an edge that is no other has the same ends
same_ends : (a b c d : ℕ) → another a b c d ≡ false → (a ≡ c) × (b ≡ d)
same_ends a b c d h = go (eqb a c) (eqb b d) refl refl h
  where
    go : (p q : Bool) → eqb a c ≡ p → eqb b d ≡ q → not (p && q) ≡ false → (a ≡ c) × (b ≡ d)
    go true true e f z = (eqb-true a c e, eqb-true b d f)
    go true false e f z = absurd (let w : ◌≡◌ {A = ℕ} 0 1 = cc in omega arith)
    go false q e f z = absurd (let w : ◌≡◌ {A = ℕ} 0 1 = cc in omega arith)

-- one slot: what it adds and what it removes, place by place
module _ (e : List ℕ) (n a b c d : ℕ) where
  pub gain_at : CanAdd e n c d → (i : ℕ) → get_or (cond (another a b c d) (added e n c d) e) i 0 ≡ get_or e i 0 + ind (another a b c d && stands n c d i)
  gain_at can i = go (another a b c d)
    where
      go : (t : Bool) → get_or (cond t (added e n c d) e) i 0 ≡ get_or e i 0 + ind (t && stands n c d i)
      go true = more-at e (c * n + d) c d i (within-place can.within)
      go false = omega arith

  gain_long : length (cond (another a b c d) (added e n c d) e) ≡ length e
  gain_long = go (another a b c d)
    where
      go : (t : Bool) → length (cond t (added e n c d) e) ≡ length e
      go true = length_more e (c * n + d) c d
      go false = refl

  pub shed_at : Within e n a b → (another a b c d ≡ true → (a ≡ b → ⊥) → 1 ≤ get_or e (a * n + b) 0) → (i : ℕ) → get_or (cond (another a b c d) (removed e n a b) e) i 0 + ind (another a b c d && stands n a b i) ≡ get_or e i 0
  shed_at within there i = go (another a b c d) refl
    where
      go : (t : Bool) → another a b c d ≡ t → get_or (cond t (removed e n a b) e) i 0 + ind (t && stands n a b i) ≡ get_or e i 0
      go true q = less-at e (a * n + b) a b i (within-place within) (there q)
      go false q = omega arith

  shed_long : length (cond (another a b c d) (removed e n a b) e) ≡ length e
  shed_long = go (another a b c d)
    where
      go : (t : Bool) → length (cond t (removed e n a b) e) ≡ length e
      go true = length-less e (a * n + b) a b
      go false = refl

-- slot by slot
pub grown_none : {q : ℕ → ℕ → Bool} {e : List ℕ} → Grown q 0 e e
grown_none {q} = record { at = λ i. omega (arith, count_none (q i)); long = refl }

grown_more : {q : ℕ → ℕ → Bool} {k : ℕ} {e e' e'' : List ℕ} → Grown q k e e' → ((i : ℕ) → get_or e'' i 0 ≡ get_or e' i 0 + ind (q i k)) → length e'' ≡ length e' → Grown q (k + 1) e e''
grown_more {q} {k} h f l = record { at = λ i. omega (arith, h.at i, f i, count-more (q i) k); long = l ∙ h.long }

pub fallen_none : {q : ℕ → ℕ → Bool} {e : List ℕ} → Fallen q 0 e e
fallen_none {q} = record { at = λ i. omega (arith, count_none (q i)); long = refl }

fallen_more : {q : ℕ → ℕ → Bool} {k : ℕ} {e e' e'' : List ℕ} → Fallen q k e e' → ((i : ℕ) → get_or e'' i 0 + ind (q i k) ≡ get_or e' i 0) → length e'' ≡ length e' → Fallen q (k + 1) e e''
fallen_more {q} {k} h f l = record { at = λ i. omega (arith, h.at i, f i, count-more (q i) k); long = l ∙ h.long }

-- a list that holds the matrix, and is l behind it
is_matrix : (s t : List ℕ) (n m : ℕ) (l l' : List ℕ) → n * n ≤ length l → length l' ≡ length l → ((i : ℕ) → i < n * n → get_or l' i 0 ≡ flat s t n m i)
    → ((i : ℕ) → i < length l → n * n ≤ i → get_or l' i 0 ≡ get_or l i 0) → l' ≡ patch 0 (matrix s t n m) l
is_matrix s t n m l l' b e f g =
    is_patch 0 (matrix s t n m) l l' e
    (λ i h z. let y : i < n * n = omega (arith, matrix_long s t n m) in rw (zero-add i) (f i y ∙ sym (matrix-at s t n m i y)))
    (λ k h z. let y = z (omega arith) in g k h (omega (arith, matrix_long s t n m)))

-- the slots that stay are in both counts
module _ (n : ℕ) (s t u v : List ℕ) where
  pub balance : (i k : ℕ) → count (lost s t u v n i) k + flat u v n k i ≡ count (gained s t u v n i) k + flat s t n k i
  unfolding count
  balance i zero = refl
  balance i (suc k) = omega (arith, balance i k, one (changed s t u v k) (cell s t n i k) (cell u v n i k) stay)
    where
      stay : changed s t u v k ≡ false → cell s t n i k ≡ cell u v n i k
      stay z = let r = same_ends (get_or s k 0) (get_or t k 0) (get_or u k 0) (get_or v k 0) z in rw (r.0, r.1) refl

      one : (c p q : Bool) → (c ≡ false → p ≡ q) → ind (c && p) + ind q ≡ ind (c && q) + ind p
      one true true q f = omega arith
      one true false q f = omega arith
      one false p q f = rw (f refl) refl

  pub lost_le : (i k : ℕ) → count (lost s t u v n i) k ≤ flat s t n k i
  unfolding count
  lost_le i zero = omega arith
  lost_le i (suc k) = omega (arith, lost_le i k, one (changed s t u v k) (cell s t n i k))
    where
      one : (c p : Bool) → ind (c && p) ≤ ind p
      one true p = omega arith
      one false p = omega arith

slot_can : {n : ℕ} {s t u v : List ℕ} {m k : ℕ} → Both n s t u v m → k < m → InBoth s t u v k
slot_can both l = record { source = omega (arith, both.sources); target = omega (arith, both.targets); new_source = omega (arith, both.new_sources); new_target = omega (arith, both.new_targets) }

-- what each turn asks
module _ {e₀ : List ℕ} {n : ℕ} {s t u v : List ℕ} {m : ℕ} where
  pub gain_can : CanGain e₀ n s t u v m → {e : List ℕ} {k : ℕ} → Grown (gained s t u v n) k e₀ e → k < m → CanGainOne e n s t u v k
  gain_can can {e} {k} h l =
      let c = get_or u k 0 in
      let d = get_or v k 0 in
      let hc : c < n = can.both.new_ends.source k l in
      let hd : d < n = can.both.new_ends.target k l in
      let i : c * n + d < n * n = index_lt n c d hc hd in
      record {
        slot = slot_can can.both l;
        add = record {
          within = record { source = hc; target = hd; square = omega (arith, h.long, can.square) };
          room = omega (arith, h.at (c * n + d), can.room (c * n + d) i, count_le (gained s t u v n (c * n + d)) k, can.both.few);
        };
      }

  pub shed_can : CanShed e₀ n s t u v m → {e : List ℕ} {k : ℕ} → Fallen (lost s t u v n) k e₀ e → k < m → CanShedOne e n s t u v k
  shed_can can {e} {k} h l =
      let a = get_or s k 0 in
      let b = get_or t k 0 in
      let ha : a < n = can.both.ends.source k l in
      let hb : b < n = can.both.ends.target k l in
      let i : a * n + b < n * n = index_lt n a b ha hb in
      record {
        slot = slot_can can.both l;
        within = record { source = ha; target = hb; square = omega (arith, h.long, can.square) };
        there = λ q w.
            let y = count_yes (lost s t u v n (a * n + b)) k (and_both (changed s t u v k) _ q (hits-yes a b (a * n + b) (a * n + b) w refl)) in
            omega (arith, h.at (a * n + b), can.there (a * n + b) i, y, count_mono (lost s t u v n (a * n + b)) (k + 1) m (omega arith));
      }

  pub gain_more : CanGain e₀ n s t u v m → {e : List ℕ} {k : ℕ} → Grown (gained s t u v n) k e₀ e → k < m → {e' : List ℕ}
      → e' ≡ cond (changed s t u v k) (added e n (get_or u k 0) (get_or v k 0)) e → Grown (gained s t u v n) (k + 1) e₀ e'
  gain_more can {e} {k} h l {e'} q =
      grown_more h
      (λ i. rw q (gain_at e n (get_or s k 0) (get_or t k 0) (get_or u k 0) (get_or v k 0) (gain_can can h l).add i))
      (ap length q ∙ gain_long e n (get_or s k 0) (get_or t k 0) (get_or u k 0) (get_or v k 0))

  pub shed_more : CanShed e₀ n s t u v m → {e : List ℕ} {k : ℕ} → Fallen (lost s t u v n) k e₀ e → k < m → {e' : List ℕ}
      → e' ≡ cond (changed s t u v k) (removed e n (get_or s k 0) (get_or t k 0)) e → Fallen (lost s t u v n) (k + 1) e₀ e'
  shed_more can {e} {k} h l {e'} q =
      fallen_more h
      (λ i. rw q (shed_at e n (get_or s k 0) (get_or t k 0) (get_or u k 0) (get_or v k 0) (shed_can can h l).within (shed_can can h l).there i))
      (ap length q ∙ shed_long e n (get_or s k 0) (get_or t k 0) (get_or u k 0) (get_or v k 0))

  module _ (can : CanUpdate e₀ n s t u v m) where
    pub update_gain : CanGain e₀ n s t u v m
    update_gain = record { both = can.both; square = can.square; room = λ i h. omega (arith, can.holds.at i h, count_le (cell s t n i) m) }

    module _ {e₁ : List ℕ} (g : Grown (gained s t u v n) m e₀ e₁) where
      pub update_shed : CanShed e₁ n s t u v m
      update_shed = record {
        both = can.both;
        square = omega (arith, g.long, can.square);
        there = λ i h. omega (arith, g.at i, can.holds.at i h, lost_le n s t u v i m);
      }

      pub update_done : {e₂ : List ℕ} → Fallen (lost s t u v n) m e₁ e₂ → e₂ ≡ patch 0 (matrix u v n m) e₀
      update_done {e₂} f = is_matrix u v n m e₀ e₂ can.square (f.long ∙ g.long)
          (λ i h. omega (arith, f.at i, g.at i, can.holds.at i h, balance n s t u v i m))
          (λ i b h. omega (arith, f.at i, g.at i, flat_beyond s t n m i can.both.ends h, flat_beyond u v n m i can.both.new_ends h, balance n s t u v i m))

-- from nothing: the square is cleared, and then the slots are added
module _ {n : ℕ} {s t : List ℕ} {m : ℕ} {e₀ : List ℕ} (can : CanFill e₀ n s t m) where
  module _ {e₁ : List ℕ} (c : e₁ ≡ replicate (n * n) 0 ++ drop (n * n) e₀) where
    clear_long : length e₁ ≡ length e₀
    clear_long = omega (arith, ap length c, length-append (replicate (n * n) 0) (drop (n * n) e₀), length-replicate {A = ℕ} (n * n) 0, length-drop (n * n) e₀, can.square)

    pub zero_at : (i : ℕ) → i < n * n → get_or e₁ i 0 ≡ 0
    zero_at i h =
        ap (λ (l : List ℕ). get_or l i 0) c ∙ get_or-append (replicate (n * n) 0) (drop (n * n) e₀) 0 i (omega (arith, length-replicate {A = ℕ} (n * n) 0))
        ∙ get_or-replicate (n * n) i 0 0 h

    clear_beyond : (i : ℕ) → i < length e₀ → n * n ≤ i → get_or e₁ i 0 ≡ get_or e₀ i 0
    clear_beyond i b h =
        let z : length (replicate (n * n) (zero)) + (i - n * n) ≡ i = omega (arith, length-replicate {A = ℕ} (n * n) 0) in
        let y : n * n + (i - n * n) ≡ i = omega arith in
        ap (λ (l : List ℕ). get_or l i 0) c ∙ ap (λ (j : ℕ). get_or (replicate (n * n) 0 ++ drop (n * n) e₀) j 0) (sym z)
        ∙ get_or-append-add (replicate (n * n) 0) (drop (n * n) e₀) (i - n * n) 0 ∙ get_or-drop (n * n) e₀ (i - n * n) 0 ∙ ap (λ (j : ℕ). get_or e₀ j 0) y

    module _ {k : ℕ} {e : List ℕ} (h : Grown (cell s t n) k e₁ e) where
      pub fill_can : k < m → CanAdd e n (get_or s k 0) (get_or t k 0)
      fill_can l =
          let a = get_or s k 0 in
          let b = get_or t k 0 in
          let i : a * n + b < n * n = index_lt n a b (can.ends.source k l) (can.ends.target k l) in
          record {
            within = record { source = can.ends.source k l; target = can.ends.target k l; square = omega (arith, can.square, h.long, clear_long) };
            room = omega (arith, h.at (a * n + b), zero_at (a * n + b) i, count_le (cell s t n (a * n + b)) k, can.few);
          }

      pub fill_more : k < m → {e' : List ℕ} → e' ≡ added e n (get_or s k 0) (get_or t k 0) → Grown (cell s t n) (k + 1) e₁ e'
      fill_more l {e'} q =
          let a = get_or s k 0 in
          let b = get_or t k 0 in
          grown_more h (λ i. rw q (more-at e (a * n + b) a b i (within-place (fill_can l).within))) (ap length q ∙ length_more e (a * n + b) a b)

    pub fill_done : {k : ℕ} {e : List ℕ} → Grown (cell s t n) k e₁ e → k ≡ m → e ≡ patch 0 (matrix s t n m) e₀
    fill_done {k} {e} h q =
        let g : Grown (cell s t n) m e₁ e = subst (λ (j : ℕ). Grown (cell s t n) j e₁ e) q h in
        is_matrix s t n m e₀ e can.square (g.long ∙ clear_long)
        (λ i z. omega (arith, g.at i, zero_at i z))
        (λ i b z. omega (arith, g.at i, clear_beyond i b z, flat_beyond s t n m i can.ends z))
