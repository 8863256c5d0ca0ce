-- In a graph without a cycle something is ready while something wanted is left, so all that is wanted is listed. Assumes nothing.
use Prim.Native.Nat.{ℕ, zero, suc, ◌+◌, ◌≤◌, ◌<◌}
use Rattle.std.proofs.Common.{arith, sym, ap, ◌∙◌, true≢false}
use Rattle.std.proofs.Math.Decide.{ℕ_discrete}
use Rattle.std.specs.Prelude.{◌≡◌, cond, ◌&&◌, ◌||◌, eqb, length}
use Rattle.std.proofs.Math.Path.{refl}
use Rattle.std.proofs.Math.Bool.{Bool, true, false, not, and-false, or-true}
use mathlib.Core.List.{List, [], ◌∷◌, ◌++◌}
use borrow.Author.Tests.{eq-eqb, not-true}
use Rattle.graphs.specs.Bools.{or_false_left, and_left, and_right, and_both, fails}
use Rattle.graphs.specs.Count.{ind, count, count_pos}
use Rattle.graphs.specs.Lists.{any, has, any_give, any-take, all_give, has-place}
use Rattle.graphs.specs.Walk.{one, more, via, cyclic}
use Rattle.graphs.specs.Walks.{via_walk, acyclic_walk}
use Rattle.move_ledger.specs.Graph.{at}
use Rattle.move_order.specs.Order.{ready, first, listing}
use Rattle.move_order.specs.Listing.{has_snoc, first_is}

-- a test that passes less often
count_less : (p q : ℕ → Bool) (k : ℕ) → ((j : ℕ) → j < k → p j ≡ true → q j ≡ true) → count p k ≤ count q k
unfolding count
count_less p q zero h = omega arith
count_less p q (suc k) h = go (p k) refl (q k) refl (count_less p q k (λ j b. h j (omega arith)))
  where
    go : (t : Bool) → p k ≡ t → (u : Bool) → q k ≡ u → count p k ≤ count q k → count p k + ind t ≤ count q k + ind u
    go true a true b c = omega arith
    go true a false b c = absurd (true≢false (sym (h k (omega arith) a) ∙ b))
    go false a u b c = omega arith

count-fewer : (p q : ℕ → Bool) (k : ℕ) → ((j : ℕ) → j < k → p j ≡ true → q j ≡ true) → (i : ℕ) → i < k → p i ≡ false → q i ≡ true → count p k < count q k
unfolding count
count-fewer p q zero h i b x y = absurd (omega arith)
count-fewer p q (suc k) h i b x y = go (ℕ_discrete i k) (count_less p q k (λ j c. h j (omega arith))) (λ c. count-fewer p q k (λ j d. h j (omega arith)) i c x y) (p k) refl (q k) refl
  where
    go : Dec (i ≡ k) → count p k ≤ count q k → (i < k → count p k < count q k) → (t : Bool) → p k ≡ t → (u : Bool) → q k ≡ u → suc (count p k + ind t) ≤ count q k + ind u
    go (yes e) c f true r u s = absurd (true≢false (sym r ∙ ap p (sym e) ∙ x))
    go (yes e) c f false r true s = omega arith
    go (yes e) c f false r false s = absurd (true≢false (sym y ∙ ap q e ∙ s))
    go (no d) c f true r true s = omega (arith, f (omega arith))
    go (no d) c f true r false s = absurd (true≢false (sym (h k (omega arith) r) ∙ s))
    go (no d) c f false r u s = omega (arith, f (omega arith))

-- in a graph without a cycle, of any nodes that pass there is one without an edge to another that passes
module _ (e : ℕ → ℕ → Bool) (ks : List ℕ) (f : (x y : ℕ) → e x y ≡ true → has x ks ≡ true) (free : cyclic e ks ≡ false) (u : ℕ → Bool) where
  abbrev reached : ℕ → ℕ
  reached x = count (λ j. via e ks x (at ks j)) (length ks)

  pub record Last (x : ℕ) : Type 0 where
    pub passes : u x ≡ true
    pub last : (y : ℕ) → has y ks ≡ true → e x y ≡ true → u y ≡ false

  fall : (x y : ℕ) → has y ks ≡ true → e x y ≡ true → reached y < reached x
  fall x y m h =
      let r = has-place y ks m in
      count-fewer (λ j. via e ks y (at ks j)) (λ j. via e ks x (at ks j)) (length ks)
      (λ j b q. (via_walk e ks f x _).1 (more h ((via_walk e ks f y _).0 q))) r.0 r.1
      (ap (via e ks y) r.2 ∙ fails _ (λ q. (acyclic_walk e ks f).0 free y ((via_walk e ks f y y).0 q)))
      (ap (via e ks x) r.2 ∙ (via_walk e ks f x y).1 (one h))

  pub some_last : (k x : ℕ) → reached x < k → u x ≡ true → (z : ℕ) × Last z
  some_last zero x b h = absurd (omega arith)
  some_last (suc k) x b h = go (any (λ y. e x y && u y) ks) refl (λ y c q. some_last k y c q)
    where
      go : (t : Bool) → any (λ y. e x y && u y) ks ≡ t → ((y : ℕ) → reached y < k → u y ≡ true → (z : ℕ) × Last z) → (z : ℕ) × Last z
      go true q g =
          let r = any-take (λ y. e x y && u y) ks q in
          g r.0 (omega (arith, fall x r.0 r.1 (and_left (e x r.0) _ r.2))) (and_right (e x r.0) _ r.2)
      go false q g = (
        x,
        record {
          passes = h;
          last = λ y m i. fails (u y) (λ p. true≢false (sym (any_give (λ y. e x y && u y) ks y m (and_both (e x y) _ i p)) ∙ q));
        },
      )

-- so while something is to list, something is ready
module _ (e : ℕ → ℕ → Bool) (ks : List ℕ) (f : (x y : ℕ) → e x y ≡ true → has x ks ≡ true) (free : cyclic e ks ≡ false)
    (w : ℕ → Bool) (inside : (x : ℕ) → w x ≡ true → has x ks ≡ true) (shut : (x y : ℕ) → w x ≡ true → e x y ≡ true → w y ≡ true) where
  pub goes_on : (listed : List ℕ) (x : ℕ) → w x ≡ true → has x listed ≡ false → any (ready e w ks listed) ks ≡ true
  unfolding ready
  goes_on listed x h d =
      let u : ℕ → Bool = λ z. w z && not (has z listed) in
      let r = some_last e ks f free u (suc (reached e ks f free u x)) x (omega arith) (and_both (w x) _ h (ap not d)) in
      let z : ℕ = r.0 in
      let wz : w z ≡ true = and_left (w z) _ r.1.passes in
      any_give (ready e w ks listed) ks z (inside z wz)
      (and_both (w z) _ wz (and_both (not (has z listed)) _ (and_right (w z) _ r.1.passes)
      (all_give (λ Y. not (e z Y) || has Y listed) ks (λ Y m. step z wz Y (r.1.last Y m) (e z Y) refl (has Y listed) refl))))
    where
      step : (z : ℕ) → w z ≡ true → (Y : ℕ) → (e z Y ≡ true → (w Y && not (has Y listed)) ≡ false) → (t : Bool) → e z Y ≡ t → (v : Bool) → has Y listed ≡ v → (not t || v) ≡ true
      step z wz Y g true a true b = refl
      step z wz Y g true a false b = absurd (true≢false (sym (and_both (w Y) _ (shut z Y wz a) (ap not b)) ∙ g a))
      step z wz Y g false a v b = refl

  abbrev left : List ℕ → ℕ
  left listed = count (λ j. w (at ks j) && not (has (at ks j) listed)) (length ks)

  -- what is listed next was left
  fewer : (listed : List ℕ) → any (ready e w ks listed) ks ≡ true → left (listed ++ first (ready e w ks listed) ks ∷ []) < left listed
  unfolding ready
  fewer listed q =
      let z : ℕ = first (ready e w ks listed) ks in
      let r = first_is (ready e w ks listed) ks q in
      let i = has-place z ks r.0 in
      let wz : w z ≡ true = and_left (w z) _ r.1 in
      let nz : not (has z listed) ≡ true = and_left (not (has z listed)) _ (and_right (w z) _ r.1) in
      count-fewer (λ j. w (at ks j) && not (has (at ks j) (listed ++ z ∷ []))) (λ j. w (at ks j) && not (has (at ks j) listed)) (length ks)
      (λ j b m. and_both (w (at ks j)) _ (and_left (w (at ks j)) _ m) (ap not (or_false_left (has (at ks j) listed) (eqb (at ks j) z) (sym (has_snoc (at ks j) z listed) ∙ not-true _ (and_right (w (at ks j)) _ m)))))
      i.0 i.1
      (rw (i.2, has_snoc z z listed, eq-eqb z z refl) (ap (λ t. w z && not t) (or-true (has z listed)) ∙ and-false (w z)))
      (rw i.2 (and_both (w z) _ wz nz))

  -- all that is wanted is listed
  pub all_listed : (k : ℕ) (listed : List ℕ) → left listed ≤ k → (x : ℕ) → w x ≡ true → has x (listing e w ks k listed) ≡ true
  unfolding listing
  all_listed zero listed b x h = go (has x listed) refl
    where
      go : (t : Bool) → has x listed ≡ t → has x listed ≡ true
      go true q = q
      go false q =
          let r = has-place x ks (inside x h) in
          absurd (omega (arith, count_pos (λ j. w (at ks j) && not (has (at ks j) listed)) (length ks) r.0 r.1 (rw (r.2, h, q) refl)))
  all_listed (suc k) listed b x h = go (any (ready e w ks listed) ks) refl (λ l c. all_listed k l c x h)
    where
      go : (t : Bool) → any (ready e w ks listed) ks ≡ t → ((l : List ℕ) → left l ≤ k → has x (listing e w ks k l) ≡ true)
          → has x (cond t (listing e w ks k (listed ++ first (ready e w ks listed) ks ∷ [])) listed) ≡ true
      go true q g = g (listed ++ first (ready e w ks listed) ks ∷ []) (omega (arith, fewer listed q))
      go false q g = stay (has x listed) refl
        where
          stay : (t : Bool) → has x listed ≡ t → has x listed ≡ true
          stay true s = s
          stay false s = absurd (true≢false (sym (goes_on listed x h s) ∙ q))
