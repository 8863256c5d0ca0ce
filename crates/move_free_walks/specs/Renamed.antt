-- The two walks of a graph whose nodes have other names are the same walks. Assumes nothing.
use Rattle.std.specs.Prelude.{ℕ, ◌<◌, ◌≡◌, ◌⊎◌, ◌↔◌, Bool, true}
use Rattle.std.proofs.Common.{sym, ap, subst, ◌∙◌, inl, inr}
use Rattle.graphs.specs.Walk.{Walk, one, more}
use Rattle.graphs.specs.Relabel.{Named, walks_named}
use Rattle.move_free_walks.specs.Joins.{cut, cut_edge, edge-cut, Upto, Ahead, Behind, Fore, Aft, Free, Acyclic}

first_edge : {e : ℕ → ℕ → Bool} {x y : ℕ} → Walk e x y → (z : ℕ) × (e x z ≡ true)
first_edge (one {x} {y} h) = (y, h)
first_edge (more {x} {y} {z} h p) = (y, h)

-- node x of e, below m, is called f x in e'; the node z is left out
module _ {e e' : ℕ → ℕ → Bool} {m : ℕ} {f : ℕ → ℕ} (v : Named e e' m f) (target : (x y : ℕ) → e x y ≡ true → y < m) (z : ℕ) (b : z < m) where
  pub cut-named : Named (cut e z) (cut e' (f z)) m f
  cut-named = record {
    injective = v.injective;
    source = λ x y h. v.source x y (cut_edge e z x y h).0;
    over = λ x y h.
        let r = cut_edge e z x y h in
        edge-cut e' (f z) (f x) (f y) (v.over x y r.0) (λ q. r.1 (v.injective x z (v.source x y r.0) b q)) (λ q. r.2 (v.injective y z (target x y r.0) b q));
    named = λ X Y h. v.named X Y (cut_edge e' (f z) X Y h).0;
    back = λ x Y c h.
        let r = cut_edge e' (f z) (f x) Y h in
        let s = v.back x Y c r.0 in
        (s.0, s.1, s.2, edge-cut e z x s.0 s.3 (λ q. r.1 (ap f q)) (λ q. r.2 (sym s.2 ∙ ap f q)));
  }

  -- what z leads to, and what leads to z
  name_out : (C : ℕ) → e' (f z) C ≡ true → (c : ℕ) × (c < m) × (f c ≡ C) × (e z c ≡ true)
  name_out C h = v.back z C b h

  name_in : (D : ℕ) → e' D (f z) ≡ true → (d : ℕ) × (d < m) × (f d ≡ D) × (e d z ≡ true)
  name_in D h =
      let r = v.named D (f z) h in
      let s = v.back r.0 (f z) r.1 (subst (λ k. e' k (f z) ≡ true) (sym r.2) h) in
      (r.0, r.1, r.2, subst (λ k. e r.0 k ≡ true) (v.injective s.0 z s.1 b s.2) s.3)

  module _ (X : ℕ) (c : X < m) where
    pub ahead-named : Ahead (cut e z) (e z) X ↔ Ahead (cut e' (f z)) (e' (f z)) (f X)
    ahead-named = (there, back)
      where
        there : Ahead (cut e z) (e z) X → Ahead (cut e' (f z)) (e' (f z)) (f X)
        there (k, o, w) = (f k, v.over z k o, (walks_named cut-named k X (target z k o) c).0 w)

        back : Ahead (cut e' (f z)) (e' (f z)) (f X) → Ahead (cut e z) (e z) X
        back (K, o, w) =
            let r = name_out K o in
            (r.0, r.3, (walks_named cut-named r.0 X r.1 c).1 (subst (λ k. Walk (cut e' (f z)) k (f X)) (sym r.2) w))

    pub behind_named : Behind (cut e z) (λ x. e x z) X ↔ Behind (cut e' (f z)) (λ x. e' x (f z)) (f X)
    behind_named = (there, back)
      where
        there : Behind (cut e z) (λ x. e x z) X → Behind (cut e' (f z)) (λ x. e' x (f z)) (f X)
        there (k, o, w) = (f k, v.over k z o, (walks_named cut-named X k c (v.source k z o)).0 w)

        back : Behind (cut e' (f z)) (λ x. e' x (f z)) (f X) → Behind (cut e z) (λ x. e x z) X
        back (K, o, w) =
            let r = name_in K o in
            (r.0, r.3, (walks_named cut-named X r.0 c r.1).1 (subst (λ k. Walk (cut e' (f z)) (f X) k) (sym r.2) w))

    pub out-named : (e z X ≡ true) ↔ (e' (f z) (f X) ≡ true)
    out-named = (λ h. v.over z X h, λ h. let r = name_out (f X) h in subst (λ k. e z k ≡ true) (v.injective r.0 X r.1 c r.2) r.3)

    pub in_named : (e X z ≡ true) ↔ (e' (f X) (f z) ≡ true)
    in_named = (λ h. v.over X z h, λ h. let r = name_in (f X) h in subst (λ k. e k z ≡ true) (v.injective r.0 X r.1 c r.2) r.3)

  pub acyclic_named : Acyclic (cut e z) ↔ Acyclic (cut e' (f z))
  acyclic_named = (there, back)
    where
      there : Acyclic (cut e z) → Acyclic (cut e' (f z))
      there g K w =
          let s = first_edge w in
          let r = cut-named.named K s.0 s.1 in
          g r.0 ((walks_named cut-named r.0 r.0 r.1 r.1).1 (subst (λ k. Walk (cut e' (f z)) k k) (sym r.2) w))

      back : Acyclic (cut e' (f z)) → Acyclic (cut e z)
      back g k w = let s = first_edge w in let l = cut-named.source k s.0 s.1 in g (f k) ((walks_named cut-named k k l l).0 w)

  pub free-named : (X : ℕ) → X < m → Free (cut e z) (e z) (λ x. e x z) X ↔ Free (cut e' (f z)) (e' (f z)) (λ x. e' x (f z)) (f X)
  free-named X c = (there, back)
    where
      there : Free (cut e z) (e z) (λ x. e x z) X → Free (cut e' (f z)) (e' (f z)) (λ x. e' x (f z)) (f X)
      there g = record {
        not_ahead = λ a. g.not_ahead ((ahead-named X c).1 a);
        not_behind = λ a. g.not_behind ((behind_named X c).1 a);
        only_here = λ K o r. let s = name_out K o in sym s.2 ∙ ap f (g.only_here s.0 s.3 (turn s.0 s.1 (pull K s.0 s.2 r)));
      }
        where
          pull : (K k : ℕ) → f k ≡ K → (e' K (f z) ≡ true) ⊎ Behind (cut e' (f z)) (λ x. e' x (f z)) K → (e' (f k) (f z) ≡ true) ⊎ Behind (cut e' (f z)) (λ x. e' x (f z)) (f k)
          pull K k q r = subst (λ j. (e' j (f z) ≡ true) ⊎ Behind (cut e' (f z)) (λ x. e' x (f z)) j) (sym q) r

          turn : (k : ℕ) → k < m → (e' (f k) (f z) ≡ true) ⊎ Behind (cut e' (f z)) (λ x. e' x (f z)) (f k) → (e k z ≡ true) ⊎ Behind (cut e z) (λ x. e x z) k
          turn k l (inl h) = inl ((in_named k l).1 h)
          turn k l (inr h) = inr ((behind_named k l).1 h)

      back : Free (cut e' (f z)) (e' (f z)) (λ x. e' x (f z)) (f X) → Free (cut e z) (e z) (λ x. e x z) X
      back g = record {
        not_ahead = λ a. g.not_ahead ((ahead-named X c).0 a);
        not_behind = λ a. g.not_behind ((behind_named X c).0 a);
        only_here = λ k o r. v.injective k X (target z k o) c (g.only_here (f k) (v.over z k o) (turn k (target z k o) r));
      }
        where
          turn : (k : ℕ) → k < m → (e k z ≡ true) ⊎ Behind (cut e z) (λ x. e x z) k → (e' (f k) (f z) ≡ true) ⊎ Behind (cut e' (f z)) (λ x. e' x (f z)) (f k)
          turn k l (inl h) = inl ((in_named k l).0 h)
          turn k l (inr h) = inr ((behind_named k l).0 h)

  -- with the later steps along another graph of the same names
  module _ {g g' : ℕ → ℕ → Bool} (r : Named g g' m f) (X : ℕ) (c : X < m) where
    upto_there : (x y : ℕ) → x < m → y < m → Upto g x y → Upto g' (f x) (f y)
    upto_there x y l k (inl q) = inl (ap f q)
    upto_there x y l k (inr w) = inr ((walks_named r x y l k).0 w)

    upto_back : (x y : ℕ) → x < m → y < m → Upto g' (f x) (f y) → Upto g x y
    upto_back x y l k (inl q) = inl (v.injective x y l k q)
    upto_back x y l k (inr w) = inr ((walks_named r x y l k).1 w)

    pub fore_named : Fore g (cut e z) (e z) X ↔ Fore g' (cut e' (f z)) (e' (f z)) (f X)
    fore_named = (there, back)
      where
        there : Fore g (cut e z) (e z) X → Fore g' (cut e' (f z)) (e' (f z)) (f X)
        there (k, y, o, h, u) = (f k, f y, v.over z k o, cut-named.over k y h, upto_there y X (target k y (cut_edge e z k y h).0) c u)

        back : Fore g' (cut e' (f z)) (e' (f z)) (f X) → Fore g (cut e z) (e z) X
        back (K, Y, o, h, u) =
            let s = name_out K o in
            let t = cut-named.back s.0 Y s.1 (subst (λ j. cut e' (f z) j Y ≡ true) (sym s.2) h) in
            (s.0, t.0, s.3, t.3, upto_back t.0 X t.1 c (subst (λ j. Upto g' j (f X)) (sym t.2) u))

    pub aft_named : Aft g (cut e z) (λ x. e x z) X ↔ Aft g' (cut e' (f z)) (λ x. e' x (f z)) (f X)
    aft_named = (there, back)
      where
        there : Aft g (cut e z) (λ x. e x z) X → Aft g' (cut e' (f z)) (λ x. e' x (f z)) (f X)
        there (k, y, o, h, u) = (f k, f y, v.over k z o, cut-named.over y k h, upto_there X y c (cut-named.source y k h) u)

        back : Aft g' (cut e' (f z)) (λ x. e' x (f z)) (f X) → Aft g (cut e z) (λ x. e x z) X
        back (K, Y, o, h, u) =
            let s = cut-named.named Y K h in
            let t = cut-named.back s.0 K s.1 (subst (λ j. cut e' (f z) j K ≡ true) (sym s.2) h) in
            (t.0, s.0, (in_named t.0 t.1).1 (subst (λ j. e' j (f z) ≡ true) (sym t.2) o), t.3, upto_back X s.0 c s.1 (subst (λ j. Upto g' (f X) j) (sym s.2) u))
