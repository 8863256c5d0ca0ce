-- The graph that the area holds after the pass. Assumes nothing.
use Prim.Native.Nat.{ℕ, zero, suc, ◌+◌, ◌*◌, ◌<◌, ◌≤◌}
use Rattle.std.proofs.Common.{arith, sym, ap, subst, ◌∙◌}
use Rattle.std.specs.Prelude.{◌≡◌, Bool, not, cond, ◌&&◌, List, [], ◌∷◌, ◌++◌, eqb}
use Rattle.std.proofs.Math.Path.{refl}
use Rattle.std.proofs.Math.Bool.{true, false}
use Rattle.std.proofs.Math.ListN.{get_or, length}
use Rattle.std.proofs.lemmas.Bool.{eqb-false, not-true}
use Rattle.graphs.specs.Bools.{and_left}
use Rattle.graphs.specs.Count.{count, count_yes, count_mono}
use Rattle.merge_state.specs.declared.Sizes.{Sizes}
use Rattle.merge_state.specs.State.{None, Graph}
use Rattle.merge_state.specs.Merges.{waits}
use Rattle.merge_state.specs.Methods.{Passed, merged, created_chunk, merges, candidate, passed}
use Rattle.merge_state.specs.Table.{any_misfit, any_gone}
use Rattle.merge_state.specs.Ordered.{Ordered, never}
use Rattle.merge_state.specs.Kept.{Passing, proposal}
use Rattle.merge_state.proofs.Kept.{passed-kept}
use Rattle.merge_area.specs.Layout.{cell, head}
use Rattle.merge_area.specs.Read.{needs_in, named_set, entry, read}
use Rattle.merge_state.specs.Pairs.{pairs-length}
use Rattle.merge_area.specs.Writes.{merge_area, create_area, candidate_area, pass_area}
use Rattle.merge_laws.specs.Can.{CanMergeArea, CanCreate}
use Rattle.merge_laws.specs.Rows.{Stood}
use Rattle.merge_laws.specs.Ordering.{ordered}
use Rattle.merge_reads.specs.Order.{ordered_consistent}
use Rattle.merge_reads.specs.Cells.{area_length, read-merge}
use Rattle.merge_reads.specs.Reads.{create_length, read_create}

-- area r holds graph g, and is as long as a
pub record Holds (z : Sizes) (a r : List ℕ) (g : Graph) : Type 0 where
  pub graph : read z r ≡ g
  pub same : length r ≡ length a

-- an area as long as a, whose graph is in order, stands too
pub stood_again : (z : Sizes) (a r : List ℕ) (g : Graph) → Stood z a → Holds z a r g → Ordered z g → Stood z r
stood_again z a r g s h o =
    let p : Ordered z (read z r) = subst (Ordered z) (sym h.graph) o in
    record {
      headed = record {
        within = s.headed.within;
        long = omega (arith, h.same, s.headed.long);
        begun = p.begun;
        fits = p.fits;
        named = omega (arith, pairs-length (named_set z r) (cell r (head z 3)), p.room);
        used = omega (arith, pairs-length (entry z r) (cell r (head z 4)), p.used);
      };
      consistent = ordered_consistent z r p;
    }

-- what is merged was proposed
pub proposed : (g : Graph) (x p b : ℕ) → merges g x p b ≡ true → p ≡ None → ⊥
unfolding merges
proposed g x p b h = eqb-false p None (not-true _ (and_left (not (eqb p None)) _ (and_left (not (eqb p None) && eqb b 0) _ h)))

-- chunk x, with proposal p, is a candidate that can be merged or created
pub record CanPlace (z : Sizes) (a : List ℕ) (x p : ℕ) : Type 0 where
  pub stood : Stood z a
  pub source : x < cell a (head z 1)
  pub needs : needs_in z a x ≡ true
  pub target : (p ≡ None → ⊥) → p < cell a (head z 0)
  pub left : cell a (head z 0) + cell a (head z 2) < z.chunks

module _ {z : Sizes} {a : List ℕ} {x p : ℕ} (c : CanPlace z a x p) where
  pub place-merge : (p ≡ None → ⊥) → CanMergeArea z a p x
  place-merge n = let h = c.stood.headed in record {
    within = h.within;
    long = h.long;
    target = omega (arith, c.target n, h.begun, h.fits);
    source = omega (arith, c.source, h.fits);
    differ = λ e. never _ c.needs ((ordered z a c.stood).initial_needs_none x (omega (arith, c.target n)));
  }

  pub place_create : CanCreate z a
  place_create = record { within = c.stood.headed.within; long = c.stood.headed.long; left = c.left }

  pub candidate-length : (b : ℕ) → length (candidate_area z a x p b) ≡ length a
  unfolding candidate_area
  candidate-length b = go (merges (read z a) x p b) refl
    where
      go : (t : Bool) → merges (read z a) x p b ≡ t → length (cond t (merge_area z a p x) (create_area z a x)) ≡ length a
      go true q = area_length z a p x (place-merge (proposed (read z a) x p b q))
      go false q = create_length z a x place_create

  candidate-read : (b : ℕ) (kinds numbers : List ℕ) → read z (candidate_area z a x p b) ≡ (candidate (record { graph = read z a; kinds = kinds; numbers = numbers }) x p b).graph
  unfolding candidate_area candidate
  candidate-read b kinds numbers = go (merges (read z a) x p b) refl
    where
      few : cell a (head z 3) ≤ 2 * z.chunks
      few = omega (arith, c.stood.headed.named, c.stood.headed.fits)

      go : (t : Bool) → merges (read z a) x p b ≡ t
          → read z (cond t (merge_area z a p x) (create_area z a x)) ≡ (cond {A = Passed} t
          (record { graph = merged (read z a) p x; kinds = kinds ++ (0 ∷ []); numbers = numbers ++ (p ∷ []) })
          (record { graph = created_chunk (read z a) x; kinds = kinds ++ (1 ∷ []); numbers = numbers ++ ((cell a (head z 0) + cell a (head z 2)) ∷ []) })).graph
      go true q = read-merge z a p x (place-merge (proposed (read z a) x p b q)) few
      go false q = read_create z a x place_create few

module _ (z : Sizes) (a : List ℕ) (s : Stood z a) (left : cell a (head z 0) + cell a (head z 2) + count (waits (read z a)) (cell a (head z 1)) ≤ z.chunks) where
  -- the area so far, before candidate k
  module _ (r : List ℕ) (R : Passed) (h : Holds z a r R.graph) (k : ℕ) (v : Passing z (read z a) k R) (l : k < cell a (head z 1)) (n : waits (read z a) k ≡ true) where
    pub can_place : (p : ℕ) → ((p ≡ None → ⊥) → p < cell a (head z 0)) → CanPlace z r k p
    can_place p f = record {
      stood = stood_again z a r R.graph s h v.ordered;
      source = omega (arith, ap (λ g. g.made) h.graph, v.made);
      needs = ap (λ g. g.needs k) h.graph ∙ ap (λ g. g k) v.needs ∙ and_left (needs_in z a k) _ n;
      target = λ q. omega (arith, f q, ap (λ g. g.initial) h.graph, v.initial);
      left = omega (
        arith,
        ap (λ g. g.initial) h.graph,
        ap (λ g. g.created) h.graph,
        v.initial,
        v.created,
        count_yes (waits (read z a)) k n,
        count_mono (waits (read z a)) (k + 1) (cell a (head z 1)) (omega arith),
      );
    }

    candidate-holds : (p b : ℕ) → ((p ≡ None → ⊥) → p < cell a (head z 0)) → Holds z a (candidate_area z r k p b) (candidate R k p b).graph
    candidate-holds p b f =
        let c = can_place p f in record { graph = candidate-read c b R.kinds R.numbers ∙ ap (λ g. (candidate (record { graph = g; kinds = R.kinds; numbers = R.numbers }) k p b).graph) h.graph; same = candidate-length c b ∙ h.same }

  -- after the chunks below k
  pub pass_holds : (props bars : List ℕ) → any_misfit (cell a (head z 0)) true props ≡ false → any_gone (read z a) props ≡ false → (k : ℕ) → k ≤ cell a (head z 1)
      → Holds z a (pass_area z a props bars k) (passed (read z a) props bars k).graph
  unfolding pass_area passed
  pass_holds props bars f u zero h = record { graph = refl; same = refl }
  pass_holds props bars f u (suc k) h = go (waits (read z a) k) refl (pass_holds props bars f u k (omega arith)) (passed-kept (ordered z a s) left props bars f u k (omega arith))
    where
      p : ℕ
      p = get_or props (count (waits (read z a)) k) None

      b : ℕ
      b = get_or bars (count (waits (read z a)) k) 0

      go : (t : Bool) → waits (read z a) k ≡ t → Holds z a (pass_area z a props bars k) (passed (read z a) props bars k).graph → Passing z (read z a) k (passed (read z a) props bars k)
          → Holds z a (cond t (candidate_area z (pass_area z a props bars k) k p b) (pass_area z a props bars k)) (cond {A = Passed} t (candidate (passed (read z a) props bars k) k p b) (passed (read z a) props bars k)).graph
      go true q r v = candidate-holds (pass_area z a props bars k) (passed (read z a) props bars k) r k v (omega arith) q p b (proposal (read z a) props f (count (waits (read z a)) k))
      go false q r v = r
