-- The three counts of the pairs add up. Assumes nothing.
use Prim.Native.Nat.{ℕ, zero, suc, ◌+◌, ◌*◌, ◌-◌, ◌^◌, ◌<◌}
use native.Mathlib.Nat.{lt_of_lt_of_le}
use native.Mathlib.Omega.{arith}
use Rattle.std.specs.Prelude.{◌≡◌, Bool, not, cond, ◌&&◌, ◌||◌, List, [], ◌∷◌, leb, eqb, length, set}
use Rattle.std.proofs.Math.Path.{refl, sym, ap}
use Rattle.std.proofs.Common.{subst, ◌∙◌, ⊎_elim, true≢false, pow_mono}
use Rattle.std.proofs.Math.Bool.{true, false}
use borrow.Author.Tests.{leb-true, lt-ltb, eqb-true, eqb-false, eq-eqb, ne_eqb, not-true}
use Rattle.graphs.specs.Bools.{or_cases, or_left, or_right, and_left, and_right, and_both, fails}
use Rattle.graphs.specs.Count.{ind}
use Rattle.graphs.specs.Lists.{any, has, has-at, has-place}
use Rattle.graphs.specs.Total.{total, total-same}
use Rattle.graphs.specs.Walk.{cyclic}
use Rattle.entry_set.specs.Sets.{value, legal, words, width}
use Rattle.entry_set.specs.JoinedLaws.{length-parts, joined-parts}
use Rattle.move_ledger.specs.Graph.{Load, at, edge, rising, sum}
use Rattle.move_ledger.proofs.GraphLaws.{outside-stays}
use Rattle.move_ledger.specs.Listing.{Rising, none, next, rising-rising, has-rising}
use Rattle.move_ledger.specs.Answer.{Report, Answer, refused, accepted, rejected, is_refused, is_accepted}
use Rattle.move_ledger.specs.Ledger.{step1, stays, report, decide}
use Rattle.move_ledger.specs.MoveLaws.{choose, decide_chooses}
use Rattle.move_ledger.specs.Evict.{total_add}
use Rattle.move_free_walks.specs.HowFree.{is_rejected, is_fixed, targets, pairs}

-- a set in range, lent, is legal and is that set
pub words-value : (e X : ℕ) → X < 2 ^ e → value (words (width e) X) ≡ X
words-value e X h = joined-parts 64 (width e) X (lt_of_lt_of_le h (pow_mono (omega arith)))

pub words-legal : (e X : ℕ) → X < 2 ^ e → legal e (words (width e) X) ≡ true
words-legal e X h = and_both (eqb (length (words (width e) X)) (width e)) _ (eq-eqb _ _ (length-parts 64 (width e) X)) (lt-ltb _ _ (subst (λ k. k < 2 ^ e) (sym (words-value e X h)) h))

-- what an atom's move to another set in range is answered. Row 24 is the only one that refuses it
module _ (load : Load) (fixed place : List ℕ) (a X : ℕ) (n : length place ≡ load.A) (b : a < load.A) (small : X < 2 ^ load.E) (d : X ≡ at place a → ⊥) where
  s : List ℕ
  s = words (width load.E) X

  abbrev moved : List ℕ
  moved = set place a (value (words (width load.E) X))

  abbrev reports : Report
  reports = report load place moved (value (words (width load.E) X))

  v : value (words (width load.E) X) ≡ X
  v = words-value load.E X small

  chosen : (f : Answer → Bool) → f (decide load fixed place a (words (width load.E) X))
      ≡ f (cond (stays fixed a) (refused 24) (cond (step1 load place a || cyclic (edge load moved) moved) rejected (accepted reports)))
  unfolding choose
  chosen f =
      ap f
      (decide_chooses load fixed place a (words (width load.E) X)
      ∙ rw (fails (leb load.A a) (λ h. omega (arith, leb-true load.A a h)), words-legal load.E X small, ne_eqb (value (words (width load.E) X)) (at place a) (λ e. d (sym v ∙ e))) refl)

  pub fixed_answer : is_fixed (decide load fixed place a (words (width load.E) X)) ≡ stays fixed a
  fixed_answer = chosen is_fixed ∙ go (stays fixed a) (step1 load place a || cyclic (edge load moved) moved)
    where
      go : (f t : Bool) → is_fixed (cond f (refused 24) (cond t rejected (accepted reports))) ≡ f
      go true t = refl
      go false true = refl
      go false false = refl

  pub refused_answer : is_refused (decide load fixed place a (words (width load.E) X)) ≡ is_fixed (decide load fixed place a (words (width load.E) X))
  refused_answer = chosen is_refused ∙ go (stays fixed a) (step1 load place a || cyclic (edge load moved) moved) ∙ sym (chosen is_fixed)
    where
      go : (f t : Bool) → is_refused (cond f (refused 24) (cond t rejected (accepted reports))) ≡ is_fixed (cond f (refused 24) (cond t rejected (accepted reports)))
      go true t = refl
      go false true = refl
      go false false = refl

  pub one_answer : ind (is_accepted (decide load fixed place a (words (width load.E) X))) + ind (is_rejected (decide load fixed place a (words (width load.E) X)))
      + ind (is_fixed (decide load fixed place a (words (width load.E) X))) ≡ 1
  one_answer =
      omega (arith, ap ind (chosen is_accepted), ap ind (chosen is_rejected), ap ind (chosen is_fixed), go (stays fixed a) (step1 load place a || cyclic (edge load moved) moved))
    where
      go : (f t : Bool) → ind (is_accepted (cond f (refused 24) (cond t rejected (accepted reports))))
          + ind (is_rejected (cond f (refused 24) (cond t rejected (accepted reports))))
          + ind (is_fixed (cond f (refused 24) (cond t rejected (accepted reports)))) ≡ 1
      go true t = refl
      go false true = refl
      go false false = refl

  -- accepted where the atom isn't fixed and the moved graph has no cycle: step 1 rejects nothing that step 3 wouldn't
  pub accepted_answer : is_accepted (decide load fixed place a (words (width load.E) X)) ≡ (not (stays fixed a) && not (cyclic (edge load (set place a X)) (set place a X)))
  accepted_answer =
      chosen is_accepted ∙ go (stays fixed a) (step1 load place a) (cyclic (edge load moved) moved) stay
      ∙ ap (λ Y. not (stays fixed a) && not (cyclic (edge load (set place a Y)) (set place a Y))) v
    where
      stay : step1 load place a ≡ true → cyclic (edge load moved) moved ≡ true
      stay h =
          outside-stays load place a (value (words (width load.E) X)) n (and_left (cyclic (edge load place) place) _ h)
          (not-true _ (and_right (cyclic (edge load place) place) _ h))

      go : (f t u : Bool) → (t ≡ true → u ≡ true) → is_accepted (cond f (refused 24) (cond (t || u) rejected (accepted reports))) ≡ (not f && not u)
      go true t u h = refl
      go false true u h = sym (ap not (h refl))
      go false false true h = refl
      go false false false h = refl

sum_same : (f g : ℕ → ℕ) (l : List ℕ) → ((X : ℕ) → has X l ≡ true → f X ≡ g X) → sum f l ≡ sum g l
unfolding sum has any
sum_same f g [] h = refl
sum_same f g (x ∷ l) h = omega (arith, h x (or_left (eqb x x) _ (eq-eqb x x refl)), sum_same f g l (λ X k. h X (or_right (eqb X x) _ k)))

sum_add : (f g : ℕ → ℕ) (l : List ℕ) → sum (λ X. f X + g X) l ≡ sum f l + sum g l
unfolding sum
sum_add f g [] = refl
sum_add f g (x ∷ l) = omega (arith, sum_add f g l)

noughts : (l : List ℕ) → sum (λ X. 0) l ≡ 0
unfolding sum
noughts [] = refl
noughts (x ∷ l) = omega (arith, noughts l)

-- the sets of a rising list other than one of them
all_others : (own : ℕ) {b : ℕ} {l : List ℕ} → own < b → Rising b l → sum (λ X. ind (not (eqb X own))) l ≡ length l
unfolding sum
all_others own h none = refl
all_others own h (next {x = x} k r) = omega (arith, all_others own (omega arith) r, ap (λ t. ind (not t)) (ne_eqb x own (λ e. omega arith)))

pub sum_others : (own : ℕ) {b : ℕ} {l : List ℕ} → Rising b l → has own l ≡ true → sum (λ X. ind (not (eqb X own))) l + 1 ≡ length l
unfolding sum has any
sum_others own none h = absurd (true≢false (sym h))
sum_others own (next {x = x} {l = l} k r) h = go (eqb own x) refl (λ m. sum_others own r m)
  where
    go : (t : Bool) → eqb own x ≡ t → (has own l ≡ true → sum (λ X. ind (not (eqb X own))) l + 1 ≡ length l) → ind (not (eqb x own)) + sum (λ X. ind (not (eqb X own))) l + 1 ≡ suc (length l)
    go true e f = omega (arith, all_others own {b = suc x} (omega (arith, eqb-true own x e)) r, ap (λ t. ind (not t)) (eq-eqb x own (sym (eqb-true own x e))))
    go false e f = omega (arith, f (⊎_elim (λ m. absurd (true≢false (sym m ∙ e))) (λ m. m) (or_cases (eqb own x) _ h)), ap (λ t. ind (not t)) (ne_eqb x own (λ q. eqb-false own x e (sym q))))

-- the placement's sets are in range
module _ (load : Load) (fixed place : List ℕ) (n : length place ≡ load.A) (small : (i : ℕ) → i < load.A → at place i < 2 ^ load.E) where
  in_range : (X : ℕ) → has X (rising place) ≡ true → X < 2 ^ load.E
  in_range X h = let r = has-place X place (sym (has-rising X place) ∙ h) in subst (λ k. k < 2 ^ load.E) r.2 (small r.0 (omega (arith, r.1)))

  module _ (a : ℕ) (b : a < load.A) where
    abbrev answer : ℕ → Answer
    answer X = decide load fixed place a (words (width load.E) X)

    others : sum (λ X. ind (not (eqb X (at place a)))) (rising place) + 1 ≡ length (rising place)
    others = sum_others (at place a) (rising-rising place) (has-rising (at place a) place ∙ has-at place a (omega arith))

    guard : (t f g : Bool) → (t ≡ false → f ≡ g) → ind (not t && f) ≡ ind (not t && g)
    guard true f g h = refl
    guard false f g h = ap ind (h refl)

    -- each of the atom's sets counts as one of the three
    pub atom_sum : targets load fixed place is_accepted a + targets load fixed place is_rejected a + targets load fixed place is_fixed a ≡ length (rising place) - 1
    unfolding targets
    atom_sum = omega (
      arith,
      others,
      sum_add (λ X. term is_accepted X) (λ X. term is_rejected X) (rising place),
      sum_add (λ X. term is_accepted X + term is_rejected X) (λ X. term is_fixed X) (rising place),
      sum_same (λ X. term is_accepted X + term is_rejected X + term is_fixed X) (λ X. ind (not (eqb X (at place a)))) (rising place) (λ X h. three X h (eqb X (at place a)) refl),
    )
      where
        term : (Answer → Bool) → ℕ → ℕ
        term p X = ind (not (eqb X (at place a)) && p (decide load fixed place a (words (width load.E) X)))

        three : (X : ℕ) → has X (rising place) ≡ true → (t : Bool) → eqb X (at place a) ≡ t
            → ind (not t && is_accepted (answer X)) + ind (not t && is_rejected (answer X)) + ind (not t && is_fixed (answer X)) ≡ ind (not t)
        three X h true e = refl
        three X h false e = one_answer load fixed place a X n b (in_range X h) (eqb-false _ _ e)

    -- of a fixed atom as fixed, of another none
    pub atom_fixed : targets load fixed place is_fixed a ≡ cond (stays fixed a) (length (rising place) - 1) 0
    unfolding targets
    atom_fixed = sum_same _ (λ X. ind (not (eqb X (at place a)) && stays fixed a)) (rising place) (λ X h. guard (eqb X (at place a)) _ _ (λ e. fixed_answer load fixed place a X n b (in_range X h) (eqb-false _ _ e))) ∙ go (stays fixed a)
      where
        drop : (t : Bool) → (t && false) ≡ false
        drop true = refl
        drop false = refl

        keep : (t : Bool) → (t && true) ≡ t
        keep true = refl
        keep false = refl

        go : (t : Bool) → sum (λ X. ind (not (eqb X (at place a)) && t)) (rising place) ≡ cond t (length (rising place) - 1) 0
        go true = omega (arith, others, sum_same (λ X. ind (not (eqb X (at place a)) && true)) (λ X. ind (not (eqb X (at place a)))) (rising place) (λ X h. ap ind (keep (not (eqb X (at place a))))))
        go false = sum_same _ (λ X. 0) (rising place) (λ X h. ap ind (drop (not (eqb X (at place a))))) ∙ noughts (rising place)

    -- a refused pair is one of a fixed atom
    atom_24 : targets load fixed place is_fixed a ≡ targets load fixed place is_refused a
    unfolding targets
    atom_24 = sum_same _ _ (rising place) (λ X h. guard (eqb X (at place a)) _ _ (λ e. sym (refused_answer load fixed place a X n b (in_range X h) (eqb-false _ _ e))))

  total_times : (f : ℕ → ℕ) (k n : ℕ) → ((i : ℕ) → i < n → f i ≡ k) → total f n ≡ n * k
  unfolding total
  total_times f k zero h = rw (native.Mathlib.Nat.zero-mul) refl
  total_times f k (suc n) h = rw (native.Mathlib.Nat.suc-mul) (omega (arith, total_times f k n (λ i b. h i (omega arith)), h n (omega arith)))

  -- the three counts add up to the atoms times one less than the occupied sets, or to 0 without atoms
  pub free-sum : pairs load fixed place is_accepted + pairs load fixed place is_rejected + pairs load fixed place is_fixed ≡ load.A * (length (rising place) - 1)
  unfolding pairs
  free-sum = omega (
    arith,
    total_add (targets load fixed place is_accepted) (targets load fixed place is_rejected) load.A,
    total_add (λ a. targets load fixed place is_accepted a + targets load fixed place is_rejected a) (targets load fixed place is_fixed) load.A,
    total_times (λ a. targets load fixed place is_accepted a + targets load fixed place is_rejected a + targets load fixed place is_fixed a) (length (rising place) - 1) load.A (λ a b. atom_sum a b),
  )

  -- a pair that isn't accepted or rejected is refused by row 24 and no other
  pub pairs_24 : pairs load fixed place is_refused ≡ pairs load fixed place is_fixed
  unfolding pairs
  pairs_24 = total-same _ _ load.A (λ a b. sym (atom_24 a b))

  -- and it is one of a fixed atom
  pub pairs_fixed : pairs load fixed place is_fixed ≡ total (λ a. cond (stays fixed a) (length (rising place) - 1) 0) load.A
  unfolding pairs
  pairs_fixed = total-same _ _ load.A (λ a b. atom_fixed a b)
