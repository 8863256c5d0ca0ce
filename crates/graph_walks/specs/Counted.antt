-- Nodes that stand for the end of theirs: the edges that count between ends. Assumes nothing.
use Rattle.std.specs.Prelude.{ℕ, ◌<◌, ◌≡◌, refl, Bool, true, ◌&&◌}
use Rattle.std.proofs.Common.{ap}
use Rattle.std.proofs.Math.Bool.{not}
use Rattle.std.proofs.Math.Dec.{eqb}
use borrow.Author.Tests.{eqb-true, eqb-false, eq-eqb, ne_eqb, not-true}
use Rattle.graphs.specs.Bools.{and_left, and_right, and_both}
use Rattle.graphs.specs.Lists.{some_below, some_give, some_take}

-- an edge d of or on a node counts as one of or on its end, of the nodes below n; edges of an end on itself are dropped
unfoldable pub counted : (ℕ → ℕ → Bool) → (ℕ → ℕ) → ℕ → ℕ → ℕ → Bool
counted d end n x y = not (eqb x y) && some_below (λ i. eqb (end i) x && some_below (λ j. eqb (end j) y && d i j) n) n

-- all edges but the one of s on t
unfoldable pub without : (ℕ → ℕ → Bool) → ℕ → ℕ → ℕ → ℕ → Bool
without d s t x y = d x y && not (eqb x s && eqb y t)

module _ (d : ℕ → ℕ → Bool) (end : ℕ → ℕ) (n : ℕ) where
  pub counted_give : (i j : ℕ) → i < n → j < n → d i j ≡ true → (end i ≡ end j → ⊥) → counted d end n (end i) (end j) ≡ true
  unfolding counted
  counted_give i j a b h ne =
      and_both _ _ (ap not (ne_eqb (end i) (end j) ne))
      (some_give (λ i'. eqb (end i') (end i) && some_below (λ j'. eqb (end j') (end j) && d i' j') n) n i a
      (and_both _ _ (eq-eqb (end i) (end i) refl) (some_give (λ j'. eqb (end j') (end j) && d i j') n j b (and_both _ _ (eq-eqb (end j) (end j) refl) h))))

  pub record Stored (x y : ℕ) : Type 0 where
    pub source : ℕ
    pub target : ℕ
    pub source_in : source < n
    pub target_in : target < n
    pub from : end source ≡ x
    pub to : end target ≡ y
    pub edge : d source target ≡ true
    pub differ : x ≡ y → ⊥

  pub counted-take : (x y : ℕ) → counted d end n x y ≡ true → Stored x y
  unfolding counted
  counted-take x y h =
      let r = some_take (λ i. eqb (end i) x && some_below (λ j. eqb (end j) y && d i j) n) n (and_right (not (eqb x y)) _ h) in
      let q = some_take (λ j. eqb (end j) y && d r.0 j) n (and_right (eqb (end r.0) x) _ r.2) in
      record {
        source = r.0;
        target = q.0;
        source_in = r.1;
        target_in = q.1;
        from = eqb-true _ _ (and_left (eqb (end r.0) x) _ r.2);
        to = eqb-true _ _ (and_left (eqb (end q.0) y) _ q.2);
        edge = and_right (eqb (end q.0) y) _ q.2;
        differ = eqb-false x y (not-true _ (and_left (not (eqb x y)) _ h));
      }
