-- What a start order is, for a load, a placement of its atoms and an entry bit. Assumes nothing.
use Prim.Native.Nat.{ℕ, ◌≤◌, ◌<◌}
use Rattle.std.proofs.Common.{arith, sym, ap, ◌∙◌, eq-eqb}
use Rattle.std.specs.Prelude.{◌≡◌, false, ◌&&◌, eqb, length}
use Rattle.std.proofs.Math.Path.{refl}
use Rattle.std.proofs.Math.Bool.{true, not, true≢false}
use mathlib.Core.List.{List, [], ◌∷◌}
use Rattle.std.proofs.Math.ListN.{length-map}
use Rattle.graphs.specs.Bools.{or_left}
use Rattle.graphs.specs.Count.{count_le}
use Rattle.graphs.specs.Lists.{any, has, has-at}
use Rattle.graphs.specs.Walk.{Walk, one, more, cyclic}
use Rattle.graphs.specs.Walks.{cyclic-lists}
use Rattle.move_ledger.specs.Graph.{Load, at, edge, rising}
use Rattle.move_ledger.proofs.GraphLaws.{edge-source, edge-target}
use Rattle.move_ledger.specs.Ledger.{index}
use Rattle.move_ledger.specs.Listing.{has-rising}
use Rattle.move_ledger.specs.Places.{Apart, index-has}
use Rattle.move_order.specs.Order.{holds, wanted, start_order, names}
use Rattle.move_order.specs.Names.{index_low, map_at}
use Rattle.move_order.specs.Listing.{few, only-wanted, listed_once, listed_behind}
use Rattle.move_order.specs.Ready.{all_listed}
use Rattle.move_order.specs.Wanted.{rising_most, wanted-inside, wanted-next, wanted-all}

module _ (load : Load) (place : List ℕ) (b : ℕ) (long : length place ≡ load.A) where
  inside : (X : ℕ) → wanted load place b X ≡ true → has X (rising place) ≡ true
  inside X h = has-rising X place ∙ wanted-inside load place b X h

  source : (X Y : ℕ) → edge load place X Y ≡ true → has X (rising place) ≡ true
  source X Y h = has-rising X place ∙ edge-source load place long X Y h

  -- the chunks to fetch: all of them are listed, where the graph has no cycle
  pub all_fetched : cyclic (edge load place) place ≡ false → (X : ℕ) → wanted load place b X ≡ true → has X (start_order load place b) ≡ true
  unfolding start_order
  all_fetched free X h =
      all_listed (edge load place) (rising place) source (cyclic-lists (edge load place) (rising place) place source (edge-source load place long) ∙ free)
      (wanted load place b) inside (wanted-next load place b long)
      (length place) []
      (omega (arith, count_le (λ j. wanted load place b (at (rising place) j) && not (has (at (rising place) j) [])) (length (rising place)), rising_most place)) X h

  -- and nothing else
  pub only_fetched : (X : ℕ) → has X (start_order load place b) ≡ true → wanted load place b X ≡ true
  unfolding start_order has any
  only_fetched = only-wanted (edge load place) (wanted load place b) (rising place) (length place) [] (λ x h. absurd (true≢false (sym h)))

  -- each is listed once
  pub fetched_once : Apart (start_order load place b)
  unfolding start_order
  fetched_once = listed_once (edge load place) (wanted load place b) (rising place) (length place) [] (λ i j a c. absurd (omega arith))

  -- whose edges, facade ones too, all lead to listed chunks: each stands behind all that its edges lead to
  pub fetched_behind : (i : ℕ) → i < length (start_order load place b) → (Y : ℕ) → edge load place (at (start_order load place b) i) Y ≡ true
      → (j : ℕ) × (j < i) × (at (start_order load place b) j ≡ Y)
  unfolding start_order
  fetched_behind i h Y q =
      listed_behind (edge load place) (wanted load place b) (rising place) (length place) [] (λ i c. absurd (omega arith)) i h Y
      (has-rising Y place ∙ edge-target load place long _ Y q) q

  -- so, following the list, no chunk is fetched before one that it needs, however far away
  pub needs_first : (i : ℕ) → i < length (start_order load place b) → (Y : ℕ) → Walk (edge load place) (at (start_order load place b) i) Y
      → (j : ℕ) × (j < i) × (at (start_order load place b) j ≡ Y)
  needs_first i h Y w = go i h w refl
    where
      go : (i : ℕ) → i < length (start_order load place b) → {X : ℕ} → Walk (edge load place) X Y → at (start_order load place b) i ≡ X
          → (j : ℕ) × (j < i) × (at (start_order load place b) j ≡ Y)
      go i h (one q) e = fetched_behind i h Y (ap (λ Z. edge load place Z Y) e ∙ q)
      go i h (more {y} q v) e =
          let r = fetched_behind i h y (ap (λ Z. edge load place Z y) e ∙ q) in
          let s = go r.0 (omega (arith, r.1)) v r.2 in
          (s.0, omega (arith, s.1, r.1), s.2)

  -- no more than there are atoms, the numbers that are lent
  pub at_most_atoms : length (start_order load place b) ≤ load.A
  unfolding start_order
  at_most_atoms = omega (arith, few (edge load place) (wanted load place b) (rising place) (length place) [])

  -- a bit that no chunk holds gives an empty list
  pub none-holds : ((X : ℕ) → has X place ≡ true → holds b X ≡ false) → start_order load place b ≡ []
  unfolding has any
  none-holds f = go (start_order load place b) (λ X h. wanted-all load place b long (λ X. ⊥) (λ X m q. true≢false (sym q ∙ f X m)) (λ X Y z q. z) X (only_fetched X h))
    where
      go : (l : List ℕ) → ((X : ℕ) → has X l ≡ true → ⊥) → l ≡ []
      go [] g = refl
      go (x ∷ l) g = absurd (g x (or_left (eqb x x) _ (eq-eqb x x refl)))

  -- named by its lowest atom: as many names as chunks, each an atom of its chunk, and no lower atom lies in it
  pub record Named (i : ℕ) (name : ℕ) : Type 0 where
    pub atom : name < load.A
    pub lies : at place name ≡ at (start_order load place b) i
    pub low : (a : ℕ) → a < name → at place a ≡ at (start_order load place b) i → ⊥

  pub as_many : length (names load place b) ≡ length (start_order load place b)
  unfolding names
  as_many = length-map (start_order load place b) (λ X. index X place)

  pub lowest_atom : (i : ℕ) → i < length (start_order load place b) → Named i (at (names load place b) i)
  unfolding names
  lowest_atom i h =
      let X : ℕ = at (start_order load place b) i in
      let r = index-has X place (wanted-inside load place b X (only_fetched X (has-at (start_order load place b) i h))) in
      rw (map_at (λ X. index X place) (start_order load place b) i h)
      (record { atom = omega (arith, r.0); lies = r.1; low = λ a c. index_low X place a c })
