-- For the code: what a placement by nodes keeps, and what each edge slot holds. Assumes nothing.
use Prim.Native.Nat.{ℕ, zero, suc, ◌+◌, ◌-◌, ◌^◌, ◌≤◌, ◌<◌}
use native.Mathlib.Omega.{arith}
use Rattle.std.proofs.Math.Decide.{ℕ_discrete}
use Rattle.std.proofs.Common.{add-one, sym, ap, ◌∙◌, lt-ltb, le-ltb, eqb-true, eq-eqb, ne_eqb}
use Rattle.std.specs.Prelude.{◌≡◌, Bool, true, false, not, cond, ◌&&◌, List, [], ◌∷◌, eqb, length, get_or, set}
use Rattle.std.proofs.Math.Path.{refl}
use Rattle.std.proofs.lemmas.List.{length-map}
use Rattle.std.proofs.lemmas.Bool.{eqb-false, not-true}
use Rattle.graphs.specs.Bools.{and_left, and_right, and_both, fails, alike}
use Rattle.graphs.specs.Count.{count_ext}
use Rattle.graphs.specs.Tab.{tab-length, tab-at}
use Rattle.move_ledger.specs.Graph.{Load, none, at, owner, members, occupied}
use Rattle.move_ledger.specs.Nodes.{placed, Placing, highest, fronts, front, faced, face_source, face_target, source, target, sources, targets}

-- placed
pub placed-length : (nodes sets : List ℕ) → length (placed nodes sets) ≡ length nodes
unfolding placed
placed-length nodes sets = length-map nodes (at sets)

pub placed_at : (nodes sets : List ℕ) (i : ℕ) → i < length nodes → at (placed nodes sets) i ≡ at sets (at nodes i)
unfolding placed
placed_at [] sets i h = absurd (omega arith)
placed_at (x ∷ l) sets zero h = refl
placed_at (x ∷ l) sets (suc i) h = placed_at l sets i (omega arith)

-- an atom moved to node y is moved to the set of y
pub placed-set : (nodes sets : List ℕ) (a y : ℕ) → placed (set nodes a y) sets ≡ set (placed nodes sets) a (at sets y)
unfolding placed
placed-set [] sets a y = refl
placed-set (x ∷ l) sets zero y = refl
placed-set (x ∷ l) sets (suc a) y = ap (λ r. at sets x ∷ r) (placed-set l sets a y)

-- a node's atom count is its set's
pub members-nodes : {load : Load} {nodes sets : List ℕ} → Placing load nodes sets → (x : ℕ) → x < length sets → members load nodes x ≡ members load (placed nodes sets) (at sets x)
unfolding members
members-nodes {load} {nodes} {sets} p x b =
    count_ext _ _ load.A (λ i l. let c : i < length nodes = omega (arith, p.atoms) in
    alike _ _ (λ h. eq-eqb _ _ (placed_at nodes sets i c ∙ ap (at sets) (eqb-true _ _ h)))
    (λ h. eq-eqb _ _ (p.distinct _ _ (p.inside i l) b (sym (placed_at nodes sets i c) ∙ eqb-true _ _ h))))

-- the highest number that passes
pub data Highest (p : ℕ → Bool) (n : ℕ) (h : ℕ) : Type 0 where
  found : h < n → p h ≡ true → Highest p n h
  nowhere : h ≡ none → ((x : ℕ) → x < n → p x ≡ false) → Highest p n h

pub highest_is : (p : ℕ → Bool) (n : ℕ) → Highest p n (highest p n)
unfolding highest
highest_is p zero = nowhere refl (λ x b. absurd (omega arith))
highest_is p (suc n) = go (p n) refl (highest_is p n)
  where
    go : (t : Bool) → p n ≡ t → Highest p n (highest p n) → Highest p (suc n) (cond t n (highest p n))
    go true q h = found (omega arith) q
    go false q (found b h) = found (omega arith) h
    go false q (nowhere e f) = nowhere e (λ x b. pick x b (ℕ_discrete x n))
      where
        pick : (x : ℕ) → x < suc n → Dec (x ≡ n) → p x ≡ false
        pick x b (yes z) = ap p z ∙ q
        pick x b (no z) = f x (omega arith)

pub highest-none : (p : ℕ → Bool) → highest p 0 ≡ none
unfolding highest
highest-none p = refl

pub highest-more : (p : ℕ → Bool) (n : ℕ) → highest p (n + 1) ≡ cond (p n) n (highest p n)
unfolding highest
highest-more p n = rw add-one refl

pub highest_ext : (p q : ℕ → Bool) (n : ℕ) → ((x : ℕ) → x < n → p x ≡ q x) → highest p n ≡ highest q n
unfolding highest
highest_ext p q zero h = refl
highest_ext p q (suc n) h = rw (h n (omega arith), highest_ext p q n (λ x z. h x (omega arith))) refl

-- what a slot of a facade edge holds
pub data Facing (load : Load) (nodes sets : List ℕ) (e : ℕ) (s t : ℕ) : Type 0 where
  facing : s < length sets → at sets s ≡ 2 ^ e → occupied load nodes s ≡ true → (at load.hosts e ≡ none → ⊥) → t ≡ at nodes (at load.hosts e) → Facing load nodes sets e s t
  blank : s ≡ 0 → t ≡ 0 → (at load.hosts e ≡ none → ⊥) → ((x : ℕ) → x < length sets → fronts load nodes sets e x ≡ false) → Facing load nodes sets e s t
  hostless : s ≡ 0 → t ≡ 0 → at load.hosts e ≡ none → Facing load nodes sets e s t

module _ (load : Load) (nodes sets : List ℕ) where
  pub sources-length : length (sources load nodes sets) ≡ load.D + load.E
  unfolding sources
  sources-length = tab-length (source load nodes sets) (load.D + load.E)

  pub targets-length : length (targets load nodes sets) ≡ load.D + load.E
  unfolding targets
  targets-length = tab-length (target load nodes sets) (load.D + load.E)

  -- slots of dependency entries
  pub source-entry : (k : ℕ) → k < load.D → get_or (sources load nodes sets) k 0 ≡ at nodes (owner load k)
  unfolding sources source
  source-entry k l = tab-at (source load nodes sets) (load.D + load.E) k (omega arith) ∙ rw (lt-ltb k load.D l) refl

  pub target-entry : (k : ℕ) → k < load.D → get_or (targets load nodes sets) k 0 ≡ at nodes (at load.dependencies k)
  unfolding targets target
  target-entry k l = tab-at (target load nodes sets) (load.D + load.E) k (omega arith) ∙ rw (lt-ltb k load.D l) refl

  -- slots of facade edges
  pub source_face : (e : ℕ) → e < load.E → get_or (sources load nodes sets) (load.D + e) 0 ≡ face_source (front load nodes sets e) (at load.hosts e)
  unfolding sources source
  source_face e l =
      let z : load.D + e - load.D ≡ e = omega arith in
      tab-at (source load nodes sets) (load.D + load.E) (load.D + e) (omega arith) ∙ rw (le-ltb (load.D + e) load.D (omega arith), z) refl

  pub target_face : (e : ℕ) → e < load.E → get_or (targets load nodes sets) (load.D + e) 0 ≡ face_target nodes (front load nodes sets e) (at load.hosts e)
  unfolding targets target
  target_face e l =
      let z : load.D + e - load.D ≡ e = omega arith in
      tab-at (target load nodes sets) (load.D + load.E) (load.D + e) (omega arith) ∙ rw (le-ltb (load.D + e) load.D (omega arith), z) refl

  facing_of : (e : ℕ) → length sets ≤ none → Facing load nodes sets e (face_source (front load nodes sets e) (at load.hosts e)) (face_target nodes (front load nodes sets e) (at load.hosts e))
  unfolding front face_source face_target
  facing_of e few = go (ℕ_discrete (at load.hosts e) none) (highest_is (fronts load nodes sets e) (length sets))
    where
      h : ℕ
      h = at load.hosts e

      f : ℕ
      f = highest (fronts load nodes sets e) (length sets)

      go : Dec (h ≡ none) → Highest (fronts load nodes sets e) (length sets) f → Facing load nodes sets e (cond (faced f h) f 0) (cond (faced f h) (at nodes h) 0)
      go (yes q) r = let z : faced f h ≡ false = fails _ (λ u. absurd (eqb-false _ _ (not-true _ (and_right (not (eqb f none)) _ u)) q)) in rw z (hostless refl refl q)
      go (no q) (found b r) =
          let z : faced f h ≡ true = and_both (not (eqb f none)) _ (ap not (ne_eqb f none (omega arith))) (ap not (ne_eqb h none q)) in
          rw z (facing b (eqb-true _ _ (and_left (eqb (at sets f) (2 ^ e)) _ r)) (and_right (eqb (at sets f) (2 ^ e)) _ r) q refl)
      go (no q) (nowhere r g) =
          let z : faced f h ≡ false = ap (λ t. not t && not (eqb h none)) (eq-eqb f none r) in rw z (blank refl refl q g)

  pub slot_facing : (e : ℕ) → e < load.E → length sets ≤ none → Facing load nodes sets e (get_or (sources load nodes sets) (load.D + e) 0) (get_or (targets load nodes sets) (load.D + e) 0)
  slot_facing e l few = rw (source_face e l, target_face e l) (facing_of e few)
