-- For the code: what it finds of the graph e in which the atom stands alone at node z, the last of n. Assumes nothing.
use Rattle.std.specs.Prelude.{ℕ, ◌<◌, ◌≡◌, refl, Bool, false, ◌&&◌, ◌||◌}
use Rattle.std.proofs.Common.{sym, subst, ◌∙◌, inl, inr, ⊎_elim}
use Rattle.std.proofs.Math.Path.{ap}
use Rattle.std.proofs.Math.Bool.{true, not, true≢false}
use Rattle.std.proofs.Math.Dec.{eqb}
use Rattle.graphs.specs.Bools.{Decides, or_cases, or_left, or_right, and_left, and_right, and_both, alike}
use Rattle.graphs.specs.Count.{ind, count, count_ext}
use Rattle.graphs.specs.Lists.{below, some_below, some_give, some_take}
use Rattle.graphs.specs.Walk.{Walk, via}
use Rattle.graphs.specs.Walks.{sound, complete, sources-below}
use Rattle.move_free_walks.specs.Joins.{cut, cut_edge, Ahead, Behind}
use Rattle.move_free_walks.specs.Seeds.{turned}
use Rattle.move_free_walks.specs.Beside.{ahead-by, behind_by, met_by}
use Rattle.move_free_walks.specs.Counted.{is_free, meets}

abbrev pub turn : (ℕ → ℕ → Bool) → ℕ → ℕ → Bool
turn e x y = e y x

-- z reaches y; y reaches z
unfoldable pub forth : (ℕ → ℕ → Bool) → ℕ → ℕ → ℕ → Bool
forth e z n y = via e (below n) z y

unfoldable pub back : (ℕ → ℕ → Bool) → ℕ → ℕ → ℕ → Bool
back e z n y = via (turn e) (below n) z y

-- X comes a step, between nodes other than z, after a node that z reaches; before one that reaches z
unfoldable pub after : (ℕ → ℕ → Bool) → ℕ → ℕ → ℕ → Bool
after e z n X = some_below (λ y. cut e z y X && forth e z n y) n

unfoldable pub before : (ℕ → ℕ → Bool) → ℕ → ℕ → ℕ → Bool
before e z n X = some_below (λ y. cut e z X y && back e z n y) n

-- z leads to c and c reaches z
abbrev pub around : (ℕ → ℕ → Bool) → ℕ → ℕ → ℕ → Bool
around e z n c = e z c && back e z n c

-- whether the atom closes no cycle at X, where there is none without it
unfoldable pub free_by : (ℕ → ℕ → Bool) → ℕ → ℕ → ℕ → Bool
free_by e z n X = not (after e z n X) && (not (before e z n X) && eqb (count (around e z n) n) (ind (around e z n X)))

module _ (e : ℕ → ℕ → Bool) (z n : ℕ) (from : (x y : ℕ) → e x y ≡ true → x < n) (to : (x y : ℕ) → e x y ≡ true → y < n) (loose : e z z ≡ false) where
  forth_walk : (y : ℕ) → forth e z n y ≡ true → Walk e z y
  unfolding forth
  forth_walk y h = sound e (below n) z y h

  walk_forth : (y : ℕ) → Walk e z y → forth e z n y ≡ true
  unfolding forth
  walk_forth y w = complete e (below n) (sources-below from) z y w

  back_walk : (y : ℕ) → back e z n y ≡ true → Walk e y z
  unfolding back
  back_walk y h = turned (sound (turn e) (below n) z y h)

  walk_back : (y : ℕ) → Walk e y z → back e z n y ≡ true
  unfolding back
  walk_back y w = complete (turn e) (below n) (sources-below (λ x y h. to y x h)) z y (turned w)

  pub after_decides : (X : ℕ) → Decides (Ahead (cut e z) (e z) X) (after e z n X)
  unfolding after
  after_decides X = record { right = right; wrong = λ h a. true≢false (sym (yes_of a) ∙ h) }
    where
      right : some_below (λ y. cut e z y X && forth e z n y) n ≡ true → Ahead (cut e z) (e z) X
      right h =
          let r = some_take (λ y. cut e z y X && forth e z n y) n h in
          (ahead-by e z X).1 (r.0, and_left (cut e z r.0 X) _ r.2, forth_walk r.0 (and_right (cut e z r.0 X) _ r.2))

      yes_of : Ahead (cut e z) (e z) X → some_below (λ y. cut e z y X && forth e z n y) n ≡ true
      yes_of a =
          let r = (ahead-by e z X).0 a in
          some_give (λ y. cut e z y X && forth e z n y) n r.0 (from r.0 X (cut_edge e z r.0 X r.1).0) (and_both (cut e z r.0 X) _ r.1 (walk_forth r.0 r.2))

  pub before_decides : (X : ℕ) → Decides (Behind (cut e z) (λ x. e x z) X) (before e z n X)
  unfolding before
  before_decides X = record { right = right; wrong = λ h a. true≢false (sym (yes_of a) ∙ h) }
    where
      right : some_below (λ y. cut e z X y && back e z n y) n ≡ true → Behind (cut e z) (λ x. e x z) X
      right h =
          let r = some_take (λ y. cut e z X y && back e z n y) n h in
          (behind_by e z X).1 (r.0, and_left (cut e z X r.0) _ r.2, back_walk r.0 (and_right (cut e z X r.0) _ r.2))

      yes_of : Behind (cut e z) (λ x. e x z) X → some_below (λ y. cut e z X y && back e z n y) n ≡ true
      yes_of a =
          let r = (behind_by e z X).0 a in
          some_give (λ y. cut e z X y && back e z n y) n r.0 (to X r.0 (cut_edge e z X r.0 r.1).0) (and_both (cut e z X r.0) _ r.1 (walk_back r.0 r.2))

  -- what z leads to and what leads to z or reaches it without z
  meets-around : (c : ℕ) → meets (e z) (λ x. e x z) (before e z n) c ≡ around e z n c
  meets-around c = alike _ _ there here
    where
      other : e z c ≡ true → c ≡ z → ⊥
      other h q = true≢false (sym (subst (λ k. e z k ≡ true) q h) ∙ loose)

      there : (e z c && (e c z || before e z n c)) ≡ true → (e z c && back e z n c) ≡ true
      there h =
          let o = and_left (e z c) _ h in
          and_both (e z c) _ o (walk_back c ((met_by e z c (other o)).0 (⊎_elim (λ k. inl k) (λ k. inr ((before_decides c).right k)) (or_cases (e c z) _ (and_right (e z c) _ h)))))

      found : (t : Bool) → before e z n c ≡ t → Behind (cut e z) (λ x. e x z) c → t ≡ true
      found true q w = refl
      found false q w = absurd ((before_decides c).wrong q w)

      here : (e z c && back e z n c) ≡ true → (e z c && (e c z || before e z n c)) ≡ true
      here h =
          let o = and_left (e z c) _ h in
          and_both (e z c) _ o (⊎_elim (λ k. or_left (e c z) _ k) (λ k. or_right (e c z) _ (found (before e z n c) refl k)) ((met_by e z c (other o)).1 (back_walk c (and_right (e z c) _ h))))

  pub free_is : (X : ℕ) → is_free (e z) (λ x. e x z) (after e z n) (before e z n) (count (meets (e z) (λ x. e x z) (before e z n)) n) X ≡ free_by e z n X
  unfolding is_free free_by
  free_is X =
      ap (λ k. not (after e z n X) && (not (before e z n X) && eqb k (ind (meets (e z) (λ x. e x z) (before e z n) X)))) (count_ext _ _ n (λ c l. meets-around c))
      ∙ ap (λ t. not (after e z n X) && (not (before e z n X) && eqb (count (around e z n) n) (ind t))) (meets-around X)
