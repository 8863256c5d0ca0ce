-- What is wanted: the chunks that hold the bit, and all that their edges lead to. Assumes nothing.
use Rattle.std.specs.Prelude.{ℕ, suc, ◌≤◌, ◌≡◌, Bool, true, false, cond, ◌&&◌, List, [], ◌∷◌, ltb, eqb, length}
use Rattle.std.proofs.Common.{arith}
use Rattle.std.proofs.Math.Logic.{⊎_elim}
use Rattle.graphs.specs.Bools.{or_cases, or_left, or_right, and_left, and_right, and_both}
use Rattle.graphs.specs.Lists.{has, any_give, any-take}
use Rattle.graphs.specs.Walk.{Walk, one, more, via}
use Rattle.graphs.specs.Walks.{join, via_walk}
use Rattle.move_ledger.specs.Graph.{Load, edge, insert, rising}
use Rattle.move_ledger.proofs.GraphLaws.{edge-source, edge-target}
use Rattle.move_order.specs.Order.{holds, wanted}

-- a rising list of sets is no longer than the list
insert_most : (x : ℕ) (l : List ℕ) → length (insert x l) ≤ suc (length l)
unfolding insert
insert_most x [] = omega arith
insert_most x (y ∷ l) = go (eqb x y) (ltb x y) (insert_most x l)
  where
    go : (s t : Bool) → length (insert x l) ≤ suc (length l) → length (cond s (y ∷ l) (cond t (x ∷ y ∷ l) (y ∷ insert x l))) ≤ suc (suc (length l))
    go true t h = omega arith
    go false true h = omega arith
    go false false h = omega arith

pub rising_most : (l : List ℕ) → length (rising l) ≤ length l
unfolding rising
rising_most [] = omega arith
rising_most (x ∷ l) = omega (arith, insert_most x (rising l), rising_most l)

module _ (load : Load) (place : List ℕ) (b : ℕ) where
  pub wanted-inside : (X : ℕ) → wanted load place b X ≡ true → has X place ≡ true
  unfolding wanted
  wanted-inside X h = and_left (has X place) _ h

  pub wanted-first : (X : ℕ) → has X place ≡ true → holds b X ≡ true → wanted load place b X ≡ true
  unfolding wanted
  wanted-first X m h = and_both (has X place) _ m (or_left (holds b X) _ h)

  module _ (long : length place ≡ load.A) where
    from : (X Y : ℕ) → edge load place X Y ≡ true → has X place ≡ true
    from = edge-source load place long

    pub wanted-next : (X Y : ℕ) → wanted load place b X ≡ true → edge load place X Y ≡ true → wanted load place b Y ≡ true
    unfolding wanted
    wanted-next X Y h e =
        and_both (has Y place) _ (edge-target load place long X Y e)
        (or_right (holds b Y) _
        (⊎_elim (λ q. any_give (λ Z. holds b Z && via (edge load place) place Z Y) place X (and_left (has X place) _ h) (and_both (holds b X) _ q ((via_walk (edge load place) place from X Y).1 (one e))))
        (λ q. let r = any-take (λ Z. holds b Z && via (edge load place) place Z X) place q in
        any_give (λ Z. holds b Z && via (edge load place) place Z Y) place r.0 r.1
        (and_both (holds b r.0) _ (and_left (holds b r.0) _ r.2) ((via_walk (edge load place) place from r.0 Y).1 (join ((via_walk (edge load place) place from r.0 X).0 (and_right (holds b r.0) _ r.2)) (one e)))))
        (or_cases (holds b X) _ (and_right (has X place) _ h))))

    -- what holds of the chunks with the bit, and is handed on by an edge, holds of all that is wanted
    pub wanted-all : (P : ℕ → Type 0) → ((X : ℕ) → has X place ≡ true → holds b X ≡ true → P X) → ((X Y : ℕ) → P X → edge load place X Y ≡ true → P Y)
        → (X : ℕ) → wanted load place b X ≡ true → P X
    unfolding wanted
    wanted-all P base step X h =
        ⊎_elim (λ q. base X (and_left (has X place) _ h) q)
        (λ q. let r = any-take (λ Z. holds b Z && via (edge load place) place Z X) place q in
        along (base r.0 r.1 (and_left (holds b r.0) _ r.2)) ((via_walk (edge load place) place from r.0 X).0 (and_right (holds b r.0) _ r.2)))
        (or_cases (holds b X) _ (and_right (has X place) _ h))
      where
        along : {X Y : ℕ} → P X → Walk (edge load place) X Y → P Y
        along p (one e) = step _ _ p e
        along p (more e w) = along (step _ _ p e) w
