-- The turns in which the chunks are listed, by nodes: what each finds, and what it leaves. Assumes nothing.
use Prim.Native.Nat.{ℕ, zero, suc, ◌+◌, ◌-◌, ◌≤◌, ◌<◌}
use native.Mathlib.Omega.{arith}
use Rattle.std.specs.Prelude.{◌≡◌, refl, Bool, ◌&&◌, ◌||◌, List, [], ◌∷◌, ◌++◌, map, eqb, length}
use Rattle.std.proofs.Common.{sym, subst, ◌∙◌, ⊎_elim, eqb-true, eq-eqb, ne_eqb}
use Rattle.std.proofs.Math.Path.{ap}
use Rattle.std.proofs.Math.Bool.{true, false, not, cond, true≢false}
use Rattle.graphs.specs.Bools.{or_cases, or_left, or_right, and_left, and_right, and_both, fails}
use Rattle.graphs.specs.Count.{ind, count, count_pos, count-all_no}
use Rattle.graphs.specs.Total.{total_change, count-total}
use Rattle.graphs.specs.Lists.{any, has, any-take, all_give}
use Rattle.move_ledger.specs.Graph.{at}
use Rattle.move_ledger.specs.Listing.{Rising}
use Rattle.move_order.specs.Order.{ready, listing}
use Rattle.move_order.specs.Listing.{has_snoc, Fit, ready_fit}

-- A graph of sets and the nodes below r that have them: between sets there are the edges `over`, wanted are the sets that pass, `chunks` rises; the set
-- of a node, and the edges between nodes.
pub record Setting : Type 0 where
  pub over : ℕ → ℕ → Bool
  pub wanted : ℕ → Bool
  pub chunks : List ℕ
  pub set : ℕ → ℕ
  pub edge : ℕ → ℕ → Bool

-- they belong together
pub record Fits (s : Setting) (r : ℕ) : Type 0 where
  pub rises : Rising 0 s.chunks
  pub node : (X : ℕ) → has X s.chunks ≡ true → (x : ℕ) × (x < r) × (s.set x ≡ X)
  pub member : (x : ℕ) → s.wanted (s.set x) ≡ true → has (s.set x) s.chunks ≡ true
  pub apart : (x y : ℕ) → x < r → y < r → s.set x ≡ s.set y → x ≡ y
  pub same : (x y : ℕ) → x < r → y < r → s.over (s.set x) (s.set y) ≡ s.edge x y
  pub inside : (x y : ℕ) → s.edge x y ≡ true → y < r
  pub target : (x y : ℕ) → s.edge x y ≡ true → has (s.set y) s.chunks ≡ true

-- all chunks to fetch, in their order
abbrev pub whole : Setting → ℕ → List ℕ
whole s a = listing s.over s.wanted s.chunks a []

-- the nodes by rising sets
pub record Row (s : Setting) (r : ℕ) (order : List ℕ) : Type 0 where
  pub node : (i : ℕ) → i < r → at order i < r
  pub place : (x : ℕ) → x < r → (i : ℕ) × (i < r) × (at order i ≡ x)
  pub rise : (i j : ℕ) → i < j → j < r → s.set (at order i) ≤ s.set (at order j)

-- node x can be listed: it is marked 1, and it has no edge left
abbrev pub is_ready : List ℕ → List ℕ → ℕ → Bool
is_ready marks degrees x = eqb (at marks x) 1 && eqb (at degrees x) 0

-- after k turns the nodes `listed` are: marked 2, where a wanted one that isn't has 1; of each node's edges those are left that don't lead to a listed one
pub record Turn (s : Setting) (n r a k : ℕ) (listed marks degrees : List ℕ) : Type 0 where
  pub most : k ≤ a
  pub many : length listed ≡ k
  pub inside : (x : ℕ) → has x listed ≡ true → x < r
  pub wanted : (x : ℕ) → has x listed ≡ true → s.wanted (s.set x) ≡ true
  pub goes : whole s a ≡ listing s.over s.wanted s.chunks (a - k) (map s.set listed)
  pub mark_at : (x : ℕ) → x < r → at marks x ≡ cond (has x listed) 2 (ind (s.wanted (s.set x)))
  pub degree_at : (x : ℕ) → x < r → at degrees x ≡ count (λ y. s.edge x y && not (has y listed)) n

map-has : (f : ℕ → ℕ) (x : ℕ) (l : List ℕ) → has x l ≡ true → has (f x) (map f l) ≡ true
unfolding has any
map-has f x [] h = h
map-has f x (y ∷ l) h = ⊎_elim (λ a. or_left (eqb (f x) (f y)) _ (eq-eqb _ _ (ap f (eqb-true x y a)))) (λ b. or_right (eqb (f x) (f y)) _ (map-has f x l b)) (or_cases (eqb x y) _ h)

has-map : (f : ℕ → ℕ) (Y : ℕ) (l : List ℕ) → has Y (map f l) ≡ true → (y : ℕ) × (has y l ≡ true) × (f y ≡ Y)
unfolding has any
has-map f Y [] h = absurd (true≢false (sym h))
has-map f Y (y ∷ l) h =
    ⊎_elim (λ a. (y, or_left (eqb y y) _ (eq-eqb y y refl), sym (eqb-true Y (f y) a)))
    (λ b. let r = has-map f Y l b in (r.0, or_right (eqb r.0 y) _ r.1, r.2)) (or_cases (eqb Y (f y)) _ h)

-- one edge fewer is left where there is one to z
pub one_less : (e : ℕ → Bool) (l : List ℕ) (n z : ℕ) → z < n → has z l ≡ false
    → count (λ y. e y && not (has y (l ++ z ∷ []))) n + ind (e z) ≡ count (λ y. e y && not (has y l)) n
one_less e l n z b h =
    omega (arith, total_change f g n z b other, count-total (λ y. e y && not (has y l)) n, count-total (λ y. e y && not (has y (l ++ z ∷ []))) n, here, gone)
  where
    f : ℕ → ℕ
    f y = ind (e y && not (has y l))

    g : ℕ → ℕ
    g y = ind (e y && not (has y (l ++ z ∷ [])))

    keep : (a c : Bool) → c ≡ false → (a || c) ≡ a
    keep true c q = refl
    keep false c q = q

    other : (y : ℕ) → y < n → (y ≡ z → ⊥) → ind (e y && not (has y (l ++ z ∷ []))) ≡ ind (e y && not (has y l))
    other y c d = ap (λ t. ind (e y && not t)) (has_snoc y z l ∙ keep (has y l) (eqb y z) (ne_eqb y z d))

    last : (a : Bool) → ind (a && true) ≡ ind a
    last true = refl
    last false = refl

    none : (a : Bool) → ind (a && false) ≡ 0
    none true = refl
    none false = refl

    here : ind (e z && not (has z l)) ≡ ind (e z)
    here = ap (λ t. ind (e z && not t)) h ∙ last (e z)

    gone : ind (e z && not (has z (l ++ z ∷ []))) ≡ 0
    gone = ap (λ t. ind (e z && not t)) (has_snoc z z l ∙ or_right (has z l) (eqb z z) (eq-eqb z z refl)) ∙ none (e z)

module _ {s : Setting} {n r a k : ℕ} {listed marks degrees : List ℕ} (fits : Fits s r) (few : r ≤ n) (t : Turn s n r a k listed marks degrees) where
  abbrev pub sets : List ℕ
  sets = map s.set listed

  abbrev pub test : ℕ → Bool
  test = ready s.over s.wanted s.chunks sets

  -- a node is listed where its set is
  back : (x : ℕ) → x < r → has (s.set x) sets ≡ true → has x listed ≡ true
  back x b h =
      let q = has-map s.set (s.set x) listed h in
      subst (λ u. has u listed ≡ true) (fits.apart q.0 x (t.inside q.0 q.1) b q.2) q.1

  -- a set is ready exactly where its node can be listed
  pub to_node : (x : ℕ) → x < r → test (s.set x) ≡ true → is_ready marks degrees x ≡ true
  to_node x b h = and_both (eqb (at marks x) 1) _ (eq-eqb _ _ (t.mark_at x b ∙ unlisted (has x listed) refl)) (eq-eqb _ _ (t.degree_at x b ∙ count-all_no _ n none))
    where
      f : Fit s.over s.wanted s.chunks sets (s.set x)
      f = ready_fit s.over s.wanted s.chunks sets (s.set x) h

      unlisted : (u : Bool) → has x listed ≡ u → cond u 2 (ind (s.wanted (s.set x))) ≡ 1
      unlisted true q = absurd (true≢false (sym (map-has s.set x listed q) ∙ f.new))
      unlisted false q = ap ind f.want

      none : (y : ℕ) → y < n → (s.edge x y && not (has y listed)) ≡ false
      none y c = fails _ (λ q.
          let i = and_left (s.edge x y) _ q in
          let m = back y (fits.inside x y i) (f.led (s.set y) (fits.target x y i) (fits.same x y b (fits.inside x y i) ∙ i)) in
          true≢false (sym (and_right (s.edge x y) _ q) ∙ ap not m))

  to_set : (x : ℕ) → x < r → is_ready marks degrees x ≡ true → test (s.set x) ≡ true
  unfolding ready
  to_set x b h = and_both (s.wanted (s.set x)) _ marked.0 (and_both (not (has (s.set x) sets)) _ (ap not (fails _ (λ q. true≢false (sym (back x b q) ∙ marked.1)))) (all_give (λ Y. not (s.over (s.set x) Y) || has Y sets) s.chunks led))
    where
      split : (u w : Bool) → cond u 2 (ind w) ≡ 1 → (w ≡ true) × (u ≡ false)
      split true w q = absurd (omega arith)
      split false true q = (refl, refl)
      split false false q = absurd (omega arith)

      marked : (s.wanted (s.set x) ≡ true) × (has x listed ≡ false)
      marked = split (has x listed) (s.wanted (s.set x)) (sym (t.mark_at x b) ∙ eqb-true _ _ (and_left (eqb (at marks x) 1) _ h))

      empty : count (λ y. s.edge x y && not (has y listed)) n ≡ 0
      empty = sym (t.degree_at x b) ∙ eqb-true _ _ (and_right (eqb (at marks x) 1) _ h)

      led : (Y : ℕ) → has Y s.chunks ≡ true → (not (s.over (s.set x) Y) || has Y sets) ≡ true
      led Y m = go (s.over (s.set x) Y) refl
        where
          go : (u : Bool) → s.over (s.set x) Y ≡ u → (not u || has Y sets) ≡ true
          go false q = refl
          go true q =
              let y = fits.node Y m in
              let i : s.edge x y.0 ≡ true = sym (fits.same x y.0 b y.1) ∙ ap (s.over (s.set x)) y.2 ∙ q in
              subst (λ Z. has Z sets ≡ true) y.2 (map-has s.set y.0 listed (there y.0 y.1 i (has y.0 listed) refl))
            where
              there : (y : ℕ) → y < r → s.edge x y ≡ true → (v : Bool) → has y listed ≡ v → has y listed ≡ true
              there y c i true p = p
              there y c i false p = absurd (omega (arith, empty, count_pos (λ y. s.edge x y && not (has y listed)) n y (omega arith) (and_both (s.edge x y) _ i (ap not p))))

  -- no node can be listed: it is the whole list
  pub turns_end : ((x : ℕ) → x < r → is_ready marks degrees x ≡ false) → whole s a ≡ sets
  unfolding listing
  turns_end h = t.goes ∙ stop (a - k)
    where
      idle : any test s.chunks ≡ false
      idle = fails _ (λ q.
          let y = any-take test s.chunks q in
          let x = fits.node y.0 y.1 in
          true≢false (sym (to_node x.0 x.1 (ap test x.2 ∙ y.2)) ∙ h x.0 x.1))

      stop : (j : ℕ) → listing s.over s.wanted s.chunks j sets ≡ sets
      stop zero = refl
      stop (suc j) = rw idle refl

  -- as many turns as can be
  pub turns_full : k ≡ a → whole s a ≡ sets
  unfolding listing
  turns_full e = let z : a - k ≡ 0 = omega arith in t.goes ∙ ap (λ j. listing s.over s.wanted s.chunks j sets) z

  -- the first node that can be listed is listed
  module _ {order : List ℕ} (row : Row s r order) {i : ℕ} (here : i < r) (can : is_ready marks degrees (at order i) ≡ true)
      (before : (j : ℕ) → j < i → is_ready marks degrees (at order j) ≡ false) (less : k < a) where
    abbrev pub z : ℕ
    z = at order i

    pub zr : z < r
    zr = row.node i here

    pub test-z : test (s.set z) ≡ true
    test-z = to_set z zr can

    pub fit_z : Fit s.over s.wanted s.chunks sets (s.set z)
    fit_z = ready_fit s.over s.wanted s.chunks sets (s.set z) test-z

    pub turn-new : has z listed ≡ false
    turn-new = fails _ (λ q. true≢false (sym (map-has s.set z listed q) ∙ fit_z.new))

    -- each node's edges that are left, of which one leads to z or none
    pub left_over : (x : ℕ) → x < r → count (λ y. s.edge x y && not (has y (listed ++ z ∷ []))) n + ind (s.edge x z) ≡ at degrees x
    left_over x b = one_less (s.edge x) listed n z (omega (arith, zr)) turn-new ∙ sym (t.degree_at x b)
