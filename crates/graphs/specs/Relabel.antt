-- A naming f of the nodes below n that carries edges over carries walks, `cyclic` and `only` over. Assumes nothing.
use Rattle.std.specs.Prelude.{ℕ, ◌<◌, ◌≡◌, refl, ◌↔◌, Bool, true, List}
use Rattle.std.proofs.Common.{sym, subst}
use Rattle.graphs.specs.Bools.{alike}
use Rattle.graphs.specs.Lists.{has, below}
use Rattle.graphs.specs.Walk.{Walk, one, more, via, cyclic, only}
use Rattle.graphs.specs.Walks.{sources-below, walk_from, via_walk, cyclic_walk, only_walk}

-- e is the edges between nodes below n, and e' the edges between their names; different nodes have different names
pub record Named (e e' : ℕ → ℕ → Bool) (n : ℕ) (f : ℕ → ℕ) : Type 0 where
  pub injective : (x y : ℕ) → x < n → y < n → f x ≡ f y → x ≡ y
  pub source : (x y : ℕ) → e x y ≡ true → x < n
  pub over : (x y : ℕ) → e x y ≡ true → e' (f x) (f y) ≡ true
  -- an edge of the names starts at a name, and leads from a node's name to a node's name
  pub named : (X Y : ℕ) → e' X Y ≡ true → (x : ℕ) × (x < n) × (f x ≡ X)
  pub back : (x Y : ℕ) → x < n → e' (f x) Y ≡ true → (y : ℕ) × (y < n) × (f y ≡ Y) × (e x y ≡ true)

module _ {e e' : ℕ → ℕ → Bool} {n : ℕ} {f : ℕ → ℕ} (r : Named e e' n f) where
  carried : {x y : ℕ} → Walk e x y → Walk e' (f x) (f y)
  carried (one a) = one (r.over _ _ a)
  carried (more a p) = more (r.over _ _ a) (carried p)

  returned : {X Y : ℕ} → Walk e' X Y → (x : ℕ) → x < n → f x ≡ X → (y : ℕ) × (y < n) × (f y ≡ Y) × Walk e x y
  returned (one {x = X} {y = Y} a) x b q = let s = r.back x Y b (subst (λ z. e' z Y ≡ true) (sym q) a) in (s.0, s.1, s.2, one s.3)
  returned (more {x = X} {y = Y} {z = Z} a p) x b q =
      let s : (y : ℕ) × (y < n) × (f y ≡ Y) × (e x y ≡ true) = r.back x Y b (subst (λ z. e' z Y ≡ true) (sym q) a) in
      let t : (z : ℕ) × (z < n) × (f z ≡ Z) × Walk e s.0 z = returned p s.0 s.1 s.2 in
      (t.0, t.1, t.2, more s.3 t.3)

  first : {X Y : ℕ} → Walk e' X Y → (x : ℕ) × (x < n) × (f x ≡ X)
  first (one h) = r.named _ _ h
  first (more h w) = r.named _ _ h

  -- walks
  pub walks_named : (x y : ℕ) → x < n → y < n → Walk e x y ↔ Walk e' (f x) (f y)
  walks_named x y bx by = (
    λ w. carried w,
    λ w. let s = returned w x bx refl in subst (λ z. Walk e x z) (r.injective _ _ s.1 by s.2) s.3,
  )

  -- the tests, over any list of names that holds the source of every edge
  module _ (ks : List ℕ) (h : (X Y : ℕ) → e' X Y ≡ true → has X ks ≡ true) where
    low : (x y : ℕ) → e x y ≡ true → has x (below n) ≡ true
    low = sources-below r.source

    pub via-named : (x y : ℕ) → x < n → y < n → via e (below n) x y ≡ via e' ks (f x) (f y)
    via-named x y bx by =
        alike _ _
        (λ p. (via_walk e' ks h _ _).1 ((walks_named x y bx by).0 ((via_walk e (below n) low x y).0 p)))
        (λ p. (via_walk e (below n) low x y).1 ((walks_named x y bx by).1 ((via_walk e' ks h _ _).0 p)))

    pub cyclic-named : cyclic e (below n) ≡ cyclic e' ks
    cyclic-named =
        alike _ _
        (λ p. let w = (cyclic_walk e (below n) low).0 p in (cyclic_walk e' ks h).1 (f w.0, carried w.1))
        (λ p. let w = (cyclic_walk e' ks h).0 p in start w.0 w.1)
      where
        start : (X : ℕ) → Walk e' X X → cyclic e (below n) ≡ true
        start X w =
            let s = first w in
            (cyclic_walk e (below n) low).1 (s.0, (walks_named s.0 s.0 s.1 s.1).1 (subst (λ z. Walk e' z z) (sym s.2) w))

    pub only-named : (x : ℕ) → x < n → only e (below n) x ≡ only e' ks (f x)
    only-named x b = alike _ _ (λ p. (only_walk e' ks h (f x)).1 (there ((only_walk e (below n) low x).0 p))) (λ p. (only_walk e (below n) low x).1 (back ((only_walk e' ks h (f x)).0 p)))
      where
        there : Walk e x x × ((y : ℕ) → Walk e y y → Walk e x y × Walk e y x) → Walk e' (f x) (f x) × ((Y : ℕ) → Walk e' Y Y → Walk e' (f x) Y × Walk e' Y (f x))
        there p = (
          carried p.0,
          λ Y w.
              let s = first w in
              let q = p.1 s.0 ((walks_named s.0 s.0 s.1 s.1).1 (subst (λ z. Walk e' z z) (sym s.2) w)) in
              (subst (λ z. Walk e' (f x) z) s.2 (carried q.0), subst (λ z. Walk e' z (f x)) s.2 (carried q.1)),
        )

        back : Walk e' (f x) (f x) × ((Y : ℕ) → Walk e' Y Y → Walk e' (f x) Y × Walk e' Y (f x)) → Walk e x x × ((y : ℕ) → Walk e y y → Walk e x y × Walk e y x)
        back p = (
          (walks_named x x b b).1 p.0,
          λ y w.
              let c = walk_from r.source w in
              let q = p.1 (f y) (carried w) in
              ((walks_named x y b c).1 q.0, (walks_named y x c b).1 q.1),
        )
