-- Laws of the ranking: it is a total order, equal exactly for one placement. Assumes nothing.
use Rattle.std.specs.Prelude.{ℕ, ◌<◌, ◌≡◌, ◌↔◌, Bool, true, false, cond, List, [], ◌∷◌, ltb, length}
use Rattle.std.proofs.Common.{arith, sym, ap₂, subst, ◌∙◌, ltb-true, ltb-false, lt-ltb, le-ltb}
use Rattle.std.proofs.Math.Path.{refl, ap}
use Rattle.move_ledger.specs.Graph.{Load, rising, edges}
use Rattle.std.specs.Ordering.{MatchOrdering, nat_cmp, ordering_then}
use Rattle.std.specs.declared.cmp.Ordering.{Ordering}
use Rattle.std.specs.declared.cmp.Ordering.TheVariants.{Less, Equal, Greater}
use Rattle.std.proofs.lemmas.Cmp.{ranked}
use Rattle.move_rank.specs.Ranking.{of_ranked}
use Rattle.move_rank.specs.Rank.{Rank, before, equal, after, by, then, one_by_one, rank, turned}

-- what `by` says
data By (x y : ℕ) : Rank → Type 0 where
  less : x < y → By x y before
  same : x ≡ y → By x y equal
  more : y < x → By x y after

by_is : (x y : ℕ) → By x y (by x y)
unfolding by
by_is x y = go (ltb x y) refl (ltb y x) refl
  where
    go : (t : Bool) → ltb x y ≡ t → (u : Bool) → ltb y x ≡ u → By x y (cond t before (cond u after equal))
    go true a u b = less (ltb-true x y a)
    go false a true b = more (ltb-true y x b)
    go false a false b = same (omega (arith, ltb-false x y a, ltb-false y x b))

pub by_less : (x y : ℕ) → x < y → by x y ≡ before
unfolding by
by_less x y h = rw (lt-ltb x y h) refl

pub by-same : (x : ℕ) → by x x ≡ equal
unfolding by
by-same x = rw (le-ltb x x (omega arith)) refl

pub by-more : (x y : ℕ) → y < x → by x y ≡ after
unfolding by
by-more x y h = rw (le-ltb x y (omega arith), lt-ltb y x h) refl

-- the order of two numbers, and two orders one after the other
pub by_ordering : (x y : ℕ) → of_ranked (nat_cmp x y) ≡ by x y
by_ordering x y = go (nat_cmp x y) (ranked x y (nat_cmp x y) refl)
  where
    go : (o : Ordering) → MatchOrdering o (x < y) (x ≡ y) (y < x) → of_ranked o ≡ by x y
    go Less h = sym (by_less x y h)
    go Equal e = rw e (sym (by-same y))
    go Greater h = sym (by-more x y h)

pub then_ordering : (o u : Ordering) → of_ranked (ordering_then o u) ≡ then (of_ranked o) (of_ranked u)
then_ordering Less u = refl
then_ordering Equal u = refl
then_ordering Greater u = refl

by_turned : (x y : ℕ) → by y x ≡ turned (by x y)
by_turned x y = go (by x y) (by_is x y)
  where
    go : (r : Rank) → By x y r → by y x ≡ turned r
    go before (less h) = by-more y x h
    go equal (same e) = rw e (by-same y)
    go after (more h) = by_less y x h

then-turned : (r s : Rank) → then (turned r) (turned s) ≡ turned (then r s)
then-turned before s = refl
then-turned equal s = refl
then-turned after s = refl

lists-turned : (p q : List ℕ) → one_by_one q p ≡ turned (one_by_one p q)
unfolding one_by_one
lists-turned [] [] = refl
lists-turned [] (y ∷ q) = refl
lists-turned (x ∷ p) [] = refl
lists-turned (x ∷ p) (y ∷ q) = ap₂ then (by_turned x y) (lists-turned p q) ∙ then-turned (by x y) (one_by_one p q)

-- total and antisymmetric: the other way round the answer is turned
pub rank_turned : (load : Load) (p q : List ℕ) → rank load q p ≡ turned (rank load p q)
unfolding rank
rank_turned load p q =
    ap₂ then (by_turned (length (rising p)) (length (rising q)))
    (ap₂ then (by_turned (length (edges load p)) (length (edges load q))) (lists-turned p q) ∙ then-turned (by (length (edges load p)) (length (edges load q))) (one_by_one p q))
    ∙ then-turned (by (length (rising p)) (length (rising q))) _

then_equal : (r s : Rank) → then r s ≡ equal → (r ≡ equal) × (s ≡ equal)
then_equal before s h = absurd (let z : ◌≡◌ {A = ℕ} 0 1 = cc in omega arith)
then_equal equal s h = (refl, h)
then_equal after s h = absurd (let z : ◌≡◌ {A = ℕ} 0 1 = cc in omega arith)

pub by_equal : (x y : ℕ) → by x y ≡ equal → x ≡ y
by_equal x y h = go (by x y) (by_is x y) h
  where
    go : (r : Rank) → By x y r → r ≡ equal → x ≡ y
    go before (less a) e = absurd (let z : ◌≡◌ {A = ℕ} 0 1 = cc in omega arith)
    go equal (same a) e = a
    go after (more a) e = absurd (let z : ◌≡◌ {A = ℕ} 0 1 = cc in omega arith)

-- a comparison that isn't equal decides
pub apart_decides : (x y : ℕ) (r : Rank) → (x ≡ y → ⊥) → then (by x y) r ≡ by x y
apart_decides x y r d = go (by x y) refl
  where
    go : (s : Rank) → by x y ≡ s → then s r ≡ s
    go before e = refl
    go equal e = absurd (d (by_equal x y e))
    go after e = refl

lists_equal : (p q : List ℕ) → one_by_one p q ≡ equal → p ≡ q
unfolding one_by_one
lists_equal [] [] h = refl
lists_equal [] (y ∷ q) h = absurd (let z : ◌≡◌ {A = ℕ} 0 1 = cc in omega arith)
lists_equal (x ∷ p) [] h = absurd (let z : ◌≡◌ {A = ℕ} 0 1 = cc in omega arith)
lists_equal (x ∷ p) (y ∷ q) h = let r = then_equal (by x y) (one_by_one p q) h in ap₂ {A = ℕ} {B = List ℕ} ◌∷◌ (by_equal x y r.0) (lists_equal p q r.1)

pub lists-same : (p : List ℕ) → one_by_one p p ≡ equal
unfolding one_by_one
lists-same [] = refl
lists-same (x ∷ p) = rw (by-same x) (lists-same p)

-- equal exactly where every atom has the same set
pub rank_equal : (load : Load) (p q : List ℕ) → (rank load p q ≡ equal) ↔ (p ≡ q)
unfolding rank
rank_equal load p q = (
  λ h. lists_equal p q (then_equal (by (length (edges load p)) (length (edges load q))) _ (then_equal (by (length (rising p)) (length (rising q))) _ h).1).1,
  λ e. subst (λ r. then (by (length (rising p)) (length (rising r))) (then (by (length (edges load p)) (length (edges load r))) (one_by_one p r)) ≡ equal) e
      (rw (by-same (length (rising p)), by-same (length (edges load p))) (lists-same p)),
)

-- before is transitive: first for a comparison after which comes one that is
then_trans : (x y z : ℕ) (r s t : Rank) → (r ≡ before → s ≡ before → t ≡ before) → then (by x y) r ≡ before → then (by y z) s ≡ before → then (by x z) t ≡ before
then_trans x y z r s t f a b = go (by x y) (by_is x y) (by y z) (by_is y z) a b
  where
    go : (u : Rank) → By x y u → (v : Rank) → By y z v → then u r ≡ before → then v s ≡ before → then (by x z) t ≡ before
    go before (less h) before (less k) a b = rw (by_less x z (omega arith)) refl
    go before (less h) equal (same k) a b = rw (by_less x z (omega arith)) refl
    go before (less h) after (more k) a b = absurd (let z : ◌≡◌ {A = ℕ} 0 1 = cc in omega arith)
    go equal (same h) before (less k) a b = rw (by_less x z (omega arith)) refl
    go equal (same h) equal (same k) a b = rw (h, k, by-same z) (f a b)
    go equal (same h) after (more k) a b = absurd (let z : ◌≡◌ {A = ℕ} 0 1 = cc in omega arith)
    go after (more h) v w a b = absurd (let z : ◌≡◌ {A = ℕ} 0 1 = cc in omega arith)

lists_trans : (p q r : List ℕ) → one_by_one p q ≡ before → one_by_one q r ≡ before → one_by_one p r ≡ before
unfolding one_by_one
lists_trans p [] [] a b = absurd (let z : ◌≡◌ {A = ℕ} 0 1 = cc in omega arith)
lists_trans [] q (z ∷ r) a b = refl
lists_trans (x ∷ p) [] (z ∷ r) a b = absurd (let z : ◌≡◌ {A = ℕ} 0 1 = cc in omega arith)
lists_trans p (y ∷ q) [] a b = absurd (let z : ◌≡◌ {A = ℕ} 0 1 = cc in omega arith)
lists_trans (x ∷ p) (y ∷ q) (z ∷ r) a b = then_trans x y z (one_by_one p q) (one_by_one q r) (one_by_one p r) (lists_trans p q r) a b

pub rank_trans : (load : Load) (p q r : List ℕ) → rank load p q ≡ before → rank load q r ≡ before → rank load p r ≡ before
unfolding rank
rank_trans load p q r =
    then_trans _ _ _ _ _ _ (then_trans _ _ _ _ _ _ (lists_trans p q r))

-- which of the three decides
module _ (load : Load) (p q : List ℕ) where
  pub chunks_decide : {x y : ℕ} → x ≡ length (rising p) → y ≡ length (rising q) → (x ≡ y → ⊥) → by x y ≡ rank load p q
  unfolding rank
  chunks_decide {x} {y} X Y d = rw (← X, ← Y) (sym (apart_decides x y _ d))

  module _ (e : length (rising p) ≡ length (rising q)) where
    pub edges-decide : {x y : ℕ} → x ≡ length (edges load p) → y ≡ length (edges load q) → (x ≡ y → ⊥) → by x y ≡ rank load p q
    unfolding rank
    edges-decide {x} {y} X Y d = rw (← X, ← Y, e, by-same (length (rising q))) (sym (apart_decides x y (one_by_one p q) d))

    pub sets-decide : length (edges load p) ≡ length (edges load q) → one_by_one p q ≡ rank load p q
    unfolding rank
    sets-decide f = rw (e, f, by-same (length (rising q)), by-same (length (edges load q))) refl

-- the three orders one after the other
then_then : (a b c : Rank) → then (then a b) c ≡ then a (then b c)
then_then before b c = refl
then_then equal b c = refl
then_then after b c = refl

module _ (load : Load) (p q : List ℕ) {x y u v : ℕ} (X : x ≡ length (rising p)) (Y : y ≡ length (rising q)) (U : u ≡ length (edges load p)) (V : v ≡ length (edges load q))
    {o : Ordering} (orders : o ≡ ordering_then (nat_cmp x y) (nat_cmp u v)) where
  ranked_then : then (of_ranked o) (one_by_one p q) ≡ rank load p q
  unfolding rank
  ranked_then =
      ap (λ k. then k (one_by_one p q)) (ap of_ranked orders ∙ then_ordering (nat_cmp x y) (nat_cmp u v) ∙ ap₂ then (by_ordering x y ∙ ap₂ by X Y) (by_ordering u v ∙ ap₂ by U V))
      ∙ then_then (by (length (rising p)) (length (rising q))) (by (length (edges load p)) (length (edges load q))) (one_by_one p q)

  -- chunks or edges decide
  pub totals_decide : (o ≡ Equal → ⊥) → of_ranked o ≡ rank load p q
  totals_decide d = go o d ∙ ranked_then
    where
      go : (o : Ordering) → (o ≡ Equal → ⊥) → of_ranked o ≡ then (of_ranked o) (one_by_one p q)
      go Less d = refl
      go Equal d = absurd (d refl)
      go Greater d = refl

  -- or the sets
  pub totals_equal : o ≡ Equal → one_by_one p q ≡ rank load p q
  totals_equal e = sym (ap (λ k. then (of_ranked k) (one_by_one p q)) e) ∙ ranked_then
