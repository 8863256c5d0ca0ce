-- Which plan is better. Assumes nothing.
use Rattle.std.specs.Prelude.{ℕ, ◌<◌, ◌≡◌, refl, ◌⊎◌, ◌↔◌, true, false, List, length}
use Rattle.std.proofs.Common.{arith, sym, ap, ap₂, subst, ◌∙◌, inl, inr}
use Rattle.layout.specs.Patch.{part_long}
use Rattle.move_ledger.specs.Graph.{Load, at}
use Rattle.move_ledger.specs.Answer.{Answer, number, is_refused}
use Rattle.move_ledger.specs.Ledger.{Ledger, Call}
use Rattle.move_ledger.specs.Loading.{refusal}
use Rattle.move_ledger.specs.NodeLaws.{placed-length}
use Rattle.move_area.specs.Area.{State, decode}
use Rattle.move_area.specs.Bodies.{atom_at}
use Rattle.move_area.specs.Fixed.{checks_out}
use Rattle.move_area.specs.Calls.{checked, first, new}
use Rattle.move_area.specs.History.{holding_decode, holding_checks, area_after, loading-holds, run}
use Rattle.move_rank.specs.Rank.{Rank, before, equal, after, rank, turned}
use Rattle.move_rank.specs.RankLaws.{rank_turned, rank_equal, rank_trans}
use Rattle.move_rank.specs.Ranking.{told, ranking}
use Rattle.move_rank.specs.Atoms.{lists_one}
use Rattle.demands.specs.History.{history}

-- equal exactly when every atom has the same set, of placements of the load
pub equal_exactly : (load : Load) (p q : List ℕ) → length p ≡ load.A → length q ≡ load.A → (rank load p q ≡ equal) ↔ ((i : ℕ) → i < load.A → at p i ≡ at q i)
equal_exactly load p q P Q = (
  λ e i h. ap (λ (l : List ℕ). at l i) ((rank_equal load p q).0 e),
  λ h. (rank_equal load p q).1 (lists_one p q (P ∙ sym Q) (λ i b. h i (omega arith))),
)

-- p ranks first, or the two are equal
abbrev pub no_later : Load → List ℕ → List ℕ → Type 0
no_later load p q = rank load p q ≡ after → ⊥

-- it is a total order over all placements of a load
pub record TotalOrder (load : Load) : Type 0 where
  pub reflexive : (p : List ℕ) → no_later load p p
  pub antisymmetric : (p q : List ℕ) → no_later load p q → no_later load q p → p ≡ q
  pub transitive : (p q r : List ℕ) → no_later load p q → no_later load q r → no_later load p r
  pub total : (p q : List ℕ) → no_later load p q ⊎ no_later load q p
  -- and the answer about the second of two is the other one
  pub turns : (p q : List ℕ) → rank load q p ≡ turned (rank load p q)

equal_not_after : (r : Rank) → r ≡ equal → r ≡ after → ⊥
equal_not_after r e f = let z : ◌≡◌ {A = ℕ} 0 1 = cc in omega arith

before_not_after : (r : Rank) → r ≡ before → r ≡ after → ⊥
before_not_after r e f = let z : ◌≡◌ {A = ℕ} 0 1 = cc in omega arith

module _ (load : Load) where
  one_way : (p q : List ℕ) → no_later load p q → no_later load q p → p ≡ q
  one_way p q f g = go (rank load p q) refl
    where
      go : (r : Rank) → rank load p q ≡ r → p ≡ q
      go before e = absurd (g (rank_turned load p q ∙ ap turned e))
      go equal e = (rank_equal load p q).0 e
      go after e = absurd (f e)

  onward : (p q r : List ℕ) → no_later load p q → no_later load q r → no_later load p r
  onward p q r f g = go (rank load p q) refl (rank load q r) refl
    where
      go : (s : Rank) → rank load p q ≡ s → (t : Rank) → rank load q r ≡ t → no_later load p r
      go before e before h = before_not_after (rank load p r) (rank_trans load p q r e h)
      go before e equal h = subst (λ (x : List ℕ). no_later load p x) ((rank_equal load q r).0 h) f
      go before e after h = absurd (g h)
      go equal e t h = subst (λ (x : List ℕ). no_later load x r) (sym ((rank_equal load p q).0 e)) g
      go after e t h = absurd (f e)

  either : (p q : List ℕ) → no_later load p q ⊎ no_later load q p
  either p q = go (rank load p q) refl
    where
      go : (r : Rank) → rank load p q ≡ r → no_later load p q ⊎ no_later load q p
      go before e = inl (before_not_after (rank load p q) e)
      go equal e = inl (equal_not_after (rank load p q) e)
      go after e = inr (before_not_after (rank load q p) (rank_turned load p q ∙ ap turned e))

  pub total_order : TotalOrder load
  total_order = record {
    reflexive = λ p. equal_not_after (rank load p p) ((rank_equal load p p).1 refl);
    antisymmetric = one_way;
    transitive = onward;
    total = either;
    turns = rank_turned load;
  }

-- each atom's set, from an area
abbrev place_in : Load → ℕ → List ℕ → List ℕ
place_in load N area = (decode load N area).ledger.place

place_long : (load : Load) (N : ℕ) (area : List ℕ) → length (place_in load N area) ≡ load.A
unfolding decode
place_long load N area = placed-length _ _ ∙ part_long (atom_at N) load.A area

-- the numbers of the three answers differ
told_equal : (r : Rank) → told r ≡ number 1 → r ≡ equal
told_equal before e = absurd (let z : ◌≡◌ {A = ℕ} 0 1 = cc in omega arith)
told_equal equal e = refl
told_equal after e = absurd (let z : ◌≡◌ {A = ℕ} 0 1 = cc in omega arith)

-- the first passes all checks of a later call (1 to 6, 9), then the second
pub record Passes (load : Load) (fixed : List ℕ) (N : ℕ) (area : List ℕ) : Type 0 where
  pub legal : refusal load fixed N (length area) ≡ 0
  pub checks : checks_out load fixed N area ≡ true

passed : {load : Load} {fixed : List ℕ} {N : ℕ} {area : List ℕ} → Passes load fixed N area → (x : Answer) → checked load fixed N area x ≡ x
unfolding checked
passed p x = rw (p.legal, p.checks) refl

module _ {load : Load} {fixed : List ℕ} {N : ℕ} {one other : List ℕ} (p : Passes load fixed N one) (q : Passes load fixed N other) where
  -- two areas that pass are ranked by their placements
  pub areas_ranked : ranking load fixed N one other ≡ told (rank load (place_in load N one) (place_in load N other))
  unfolding ranking
  areas_ranked = passed p _ ∙ passed q _

  -- and are equal exactly when every atom has the same set in both; registered sets, counter and marks don't count
  pub areas_equal : (ranking load fixed N one other ≡ number 1) ↔ ((i : ℕ) → i < load.A → at (place_in load N one) i ≡ at (place_in load N other) i)
  areas_equal =
      let e = equal_exactly load (place_in load N one) (place_in load N other) (place_long load N one) (place_long load N other) in
      (λ h. e.0 (told_equal _ (sym areas_ranked ∙ h)), λ h. areas_ranked ∙ ap told (e.1 h))

-- lent the other way round, the answer is turned
pub areas-turned : {load : Load} {fixed : List ℕ} {N : ℕ} {one other : List ℕ} → Passes load fixed N one → Passes load fixed N other
    → ranking load fixed N other one ≡ told (turned (rank load (place_in load N one) (place_in load N other)))
areas-turned p q = areas_ranked q p ∙ ap told (rank_turned _ _ _)

-- the areas of two histories of one load are never refused: their ledgers' placements are ranked
pub histories_ranked : (load : Load) (fixed : List ℕ) (N : ℕ) (sets area sets' area' : List ℕ) (calls calls' : List Call)
    → is_refused (new load fixed N sets area).answer ≡ false → is_refused (new load fixed N sets' area').answer ≡ false
    → ranking load fixed N (area_after load fixed N (new load fixed N sets area).area calls) (area_after load fixed N (new load fixed N sets' area').area calls')
    ≡ told (rank load (history load fixed N sets calls).place (history load fixed N sets' calls').place)
histories_ranked load fixed N sets area sets' area' calls calls' u v =
    let r = run load fixed N (new load fixed N sets area).area (first load N sets) calls (loading-holds load fixed N sets area u) in
    let s = run load fixed N (new load fixed N sets' area').area (first load N sets') calls' (loading-holds load fixed N sets' area' v) in
    areas_ranked (record { legal = r.holds.legal; checks = holding_checks r.holds }) (record { legal = s.holds.legal; checks = holding_checks s.holds })
    ∙ ap₂ (λ (x y : List ℕ). told (rank load x y))
    (ap (λ (z : State). z.ledger.place) (holding_decode r.holds) ∙ ap (λ (l : Ledger). l.place) r.ends)
    (ap (λ (z : State). z.ledger.place) (holding_decode s.holds) ∙ ap (λ (l : Ledger). l.place) s.ends)
