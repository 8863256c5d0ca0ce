-- What code counts of an atom, from the marks of its two walks. Assumes nothing.
use Prim.Native.Nat.{ℕ, zero, suc, ◌+◌, ◌<◌, ◌≤◌}
use Rattle.std.proofs.Common.{arith, sym, ap, subst, ◌∙◌, inl, inr, ⊎_elim, eqb-true, eq-eqb}
use Rattle.std.proofs.Math.Decide.{ℕ_discrete}
use Rattle.std.specs.Prelude.{◌≡◌, refl, ◌⊎◌, Bool, true, false, not, ◌&&◌, ◌||◌, eqb}
use Rattle.std.proofs.Math.Bool.{true≢false}
use Rattle.std.proofs.lemmas.Bool.{not-true}
use Rattle.graphs.specs.Bools.{Decides, or_cases, or_left, or_right, and_left, and_right, and_both, fails}
use Rattle.graphs.specs.Count.{ind, count, count_pos, count-found}
use Rattle.move_free_walks.specs.Joins.{Ahead, Behind, Free}

-- a count is that of one number, or some other passes
only_one : (p : ℕ → Bool) (n X : ℕ) → X < n → ((c : ℕ) → c < n → p c ≡ true → c ≡ X) → count p n ≡ ind (p X)
unfolding count
only_one p zero X b f = absurd (omega arith)
only_one p (suc n) X b f = go (ℕ_discrete X n) (λ l. only_one p n X l (λ c m h. f c (omega arith) h))
  where
    none : (k : ℕ) → ((c : ℕ) → c < k → p c ≡ true → ⊥) → count p k ≡ 0
    none k g = zero_of k (count p k) refl g
      where
        zero_of : (k m : ℕ) → count p k ≡ m → ((c : ℕ) → c < k → p c ≡ true → ⊥) → m ≡ 0
        zero_of k zero e g = refl
        zero_of k (suc m) e g = let r = count-found p k (omega arith) in absurd (g r.0 r.1 r.2)

    last : (t : Bool) → p n ≡ t → (X ≡ n → ⊥) → ind t ≡ 0
    last true e d = absurd (d (sym (f n (omega arith) e)))
    last false e d = refl

    go : Dec (X ≡ n) → (X < n → count p n ≡ ind (p X)) → count p n + ind (p n) ≡ ind (p X)
    go (yes e) g = let z = none n (λ c l h. omega (arith, f c (omega arith) h)) in omega (arith, ap (λ k. ind (p k)) e)
    go (no d) g = omega (arith, g (omega arith), last (p n) refl d)

some_of : (p : ℕ → Bool) (t : Bool) (k j : ℕ) → p j ≡ t → j < k → ind t ≤ count p k
some_of p true k j e m = count_pos p k j m e
some_of p false k j e m = omega arith

two : (p : ℕ → Bool) (n c X : ℕ) → c < n → X < n → (c ≡ X → ⊥) → p c ≡ true → ind (p X) + 1 ≤ count p n
unfolding count
two p zero c X l b d h = absurd (omega arith)
two p (suc n) c X l b d h = pick (ℕ_discrete c n) (ℕ_discrete X n) (λ l b. two p n c X l b d h)
  where
    pick : Dec (c ≡ n) → Dec (X ≡ n) → (c < n → X < n → ind (p X) + 1 ≤ count p n) → ind (p X) + 1 ≤ count p n + ind (p n)
    pick (yes e) (yes f) g = absurd (d (e ∙ sym f))
    pick (yes e) (no f) g = omega (arith, some_of p (p X) n X refl (omega arith), ap ind (subst (λ k. p k ≡ true) e h))
    pick (no e) (yes f) g = omega (arith, count_pos p n c (omega arith) h, ap (λ k. ind (p k)) f)
    pick (no e) (no f) g = omega (arith, g (omega arith) (omega arith))

one_only : (p : ℕ → Bool) (n X : ℕ) → X < n → count p n ≡ ind (p X) → (c : ℕ) → c < n → p c ≡ true → c ≡ X
one_only p n X b e c l h = go (ℕ_discrete c X)
  where
    go : Dec (c ≡ X) → c ≡ X
    go (yes d) = d
    go (no d) = absurd (omega (arith, two p n c X l b d h))

-- a node of `out` that is in `into`, or is marked as reaching it
abbrev pub meets : (ℕ → Bool) → (ℕ → Bool) → (ℕ → Bool) → ℕ → Bool
meets out into b c = out c && (into c || b c)

-- f marks what is reached from `out`, b what reaches `into`, k is the number of nodes that meet: whether X is free
unfoldable pub is_free : (ℕ → Bool) → (ℕ → Bool) → (ℕ → Bool) → (ℕ → Bool) → ℕ → ℕ → Bool
is_free out into f b k X = not (f X) && (not (b X) && eqb k (ind (meets out into b X)))

module _ (h : ℕ → ℕ → Bool) (out into : ℕ → Bool) (n : ℕ) (inside : (c : ℕ) → out c ≡ true → c < n) (f b : ℕ → Bool)
    (fore : (X : ℕ) → X < n → Decides (Ahead h out X) (f X)) (aft : (X : ℕ) → X < n → Decides (Behind h into X) (b X)) where
  pub free_decides : (X : ℕ) → X < n → Decides (Free h out into X) (is_free out into f b (count (meets out into b) n) X)
  unfolding is_free
  free_decides X l = record { right = there; wrong = λ z g. true≢false (sym (back g) ∙ z) }
    where
      k : ℕ
      k = count (meets out into b) n

      there : (not (f X) && (not (b X) && eqb (count (meets out into b) n) (ind (meets out into b X)))) ≡ true → Free h out into X
      there z =
          let y = and_right (not (f X)) _ z in
          let e = eqb-true _ _ (and_right (not (b X)) _ y) in
          record {
            not_ahead = (fore X l).wrong (not-true _ (and_left (not (f X)) _ z));
            not_behind = (aft X l).wrong (not-true _ (and_left (not (b X)) _ y));
            only_here = λ c o r. one_only (meets out into b) n X l e c (inside c o) (and_both (out c) _ o (met c o r));
          }
        where
          marked : (t : Bool) (c : ℕ) → c < n → b c ≡ t → Behind h into c → t ≡ true
          marked true c m e w = refl
          marked false c m e w = absurd ((aft c m).wrong e w)

          met : (c : ℕ) → out c ≡ true → (into c ≡ true) ⊎ Behind h into c → (into c || b c) ≡ true
          met c o (inl i) = or_left (into c) _ i
          met c o (inr w) = or_right (into c) _ (marked (b c) c (inside c o) refl w)

      back : Free h out into X → (not (f X) && (not (b X) && eqb (count (meets out into b) n) (ind (meets out into b X)))) ≡ true
      back g =
          and_both (not (f X)) _ (ap not (fails _ (λ z. g.not_ahead ((fore X l).right z))))
          (and_both (not (b X)) _ (ap not (fails _ (λ z. g.not_behind ((aft X l).right z))))
          (eq-eqb _ _ (only_one (meets out into b) n X l here)))
        where
          here : (c : ℕ) → c < n → meets out into b c ≡ true → c ≡ X
          here c m z = g.only_here c (and_left (out c) _ z) (⊎_elim (λ i. inl i) (λ w. inr ((aft c m).right w)) (or_cases (into c) _ (and_right (out c) _ z)))
