-- What opening a node and going through its edges does to the colours. Assumes nothing.
use Prim.Native.Nat.{ℕ, ◌+◌, ◌<◌, ◌≤◌}
use native.Mathlib.Omega.{arith}
use native.Mathlib.Decide.{ℕ_discrete}
use mathlib.Core.Path.{◌≡◌, refl, sym, ap, ◌∙◌}
use mathlib.Core.Logic.{inl, inr, ⊎_elim}
use mathlib.Core.Bool.{Bool, true, false, true≢false}
use mathlib.Core.List.{List}
use lib.ListN.{length, set, length-set}
use lib.Seq.{get_or-set_same, get_or-set_other}
use borrow.Author.Count.{below_more}
use Rattle.graphs.specs.Lists.{below}
use Rattle.graphs.specs.Walk.{Walk, one, more, cyclic}
use Rattle.graphs.specs.Walks.{join, sources-below, cyclic_walk}
use Rattle.graphs.specs.Total.{whites, whites_push}
use Rattle.graph_colours.specs.declared.State.{State}
use Rattle.graph_colours.specs.declared.State.TheVariants.{White, Gray, Black}
use Rattle.graph_colours.specs.States.{code}
use Rattle.graph_neighbours.specs.Lists.{deg, nb, edge, Graph, listed}
use Rattle.graph_book_walk.proofs.Falling.{falling, falls_open, falls_edges, grown_whites, deg_le}
use Rattle.graph_book_walk.specs.Book.{at, Clean, Grown, CanOpen, Opened, CanGo, Gone}

pub grown_refl : (n : ℕ) (c : ℕ → ℕ) → Grown n c c
grown_refl n c = record { known = λ x b h. refl; fresh = λ x b h k. omega arith }

pub grown_trans : {n : ℕ} {a b c : ℕ → ℕ} → Grown n a b → Grown n b c → Grown n a c
grown_trans {n} {a} {b} {c} p q = record {
  known = λ x h k. let r = p.known x h k in q.known x h (λ z. k (sym r ∙ z)) ∙ r;
  fresh = λ x h k z. elim (ℕ_discrete (b x) 0) [
    | yes w ↦ q.fresh x h w z
    | no w ↦ p.fresh x h k (sym (q.known x h w) ∙ z)
  ];
}

-- a closed walk in the graph
pub closes : {g l : List ℕ} {n : ℕ} → Graph g l n → (x : ℕ) → Walk (edge g l n) x x → cyclic (edge g l n) (below n) ≡ true
closes {g} {l} {n} v x w = (cyclic_walk (edge g l n) (below n) (sources-below (listed v).from)).1 (x, w)

-- from a black node a walk leads to black nodes only
stays : {g l : List ℕ} {n : ℕ} {c : ℕ → ℕ} → Graph g l n → Clean (edge g l n) n c → {x y : ℕ} → Walk (edge g l n) x y → 2 ≤ c x → 2 ≤ c y
stays v k (one {x} {y} h) b = k.out x y ((listed v).from x y h) b h
stays v k (more {x} {y} h w) b = stays v k w (k.out x y ((listed v).from x y h) b h)

-- x is opened
module _ {g l : List ℕ} {n : ℕ} {colour : List State} {x : ℕ} (v : CanOpen g l n colour x) where
  abbrev e : ℕ → ℕ → Bool
  e = edge g l n

  abbrev gray : List State
  gray = set colour x Gray

  gray-x : at gray x ≡ 1
  gray-x = ap code (get_or-set_same colour x Gray White (omega (arith, v.long, v.node)))

  gray_y : (y : ℕ) → (y ≡ x → ⊥) → at gray y ≡ at colour y
  gray_y y h = ap code (get_or-set_other colour x y Gray White h)

  pub open_whites : whites n (at gray) + 1 ≡ whites n (at colour)
  open_whites = whites_push n (at colour) (at gray) x v.node v.white gray-x (λ y b h. gray_y y h)

  black-before : (y : ℕ) → 2 ≤ at gray y → 2 ≤ at colour y
  black-before y h = elim (ℕ_discrete y x) [ yes q ↦ absurd (omega (arith, ap (at gray) q, gray-x)) | no q ↦ omega (arith, gray_y y q) ]

  black-after : (y : ℕ) → 2 ≤ at colour y → 2 ≤ at gray y
  black-after y h = elim (ℕ_discrete y x) [ yes q ↦ absurd (omega (arith, ap (at colour) q, v.white)) | no q ↦ omega (arith, gray_y y q) ]

  pub open_go : CanGo g l n gray x
  open_go = record {
    graph = v.graph;
    long = rw length-set v.long;
    node = v.node;
    gray = gray-x;
    clean = record {
      out = λ a b h k t. black-after b (v.clean.out a b h (black-before a k) t);
      none = λ a h k w. v.clean.none a h (black-before a k) w;
    };
    path = λ y b h. elim (ℕ_discrete y x) [ yes q ↦ inl q | no q ↦ inr (v.path y b (sym (gray_y y q) ∙ h)) ];
  }

  pub open_less : falling (whites (length gray) (at gray)) (length l) (deg g x) < falling (whites (length colour) (at colour)) (length l) 0
  open_less = rw (length-set, v.long) (falls_open (whites n (at colour)) (whites n (at gray)) (length l) (deg g x) open_whites (deg_le v.graph x v.node))

  -- its edges are gone through
  module _ {colour' : List State} {met : Bool} (long : length colour' ≡ n) (k : Gone g l n gray x colour' met) where
    abbrev black : List State
    black = set colour' x Black

    black-x : at black x ≡ 2
    black-x = ap code (get_or-set_same colour' x Black White (omega (arith, v.node)))

    black_y : (y : ℕ) → (y ≡ x → ⊥) → at black y ≡ at colour' y
    black_y y h = ap code (get_or-set_other colour' x y Black White h)

    still : (y : ℕ) → 2 ≤ at colour' y → 2 ≤ at black y
    still y h = elim (ℕ_discrete y x) [ yes q ↦ omega (arith, ap (at black) q, black-x) | no q ↦ omega (arith, black_y y q) ]

    module _ (h : met ≡ false) where
      -- while its edges were gone through, x was gray
      was-gray : at colour' x ≡ 1
      was-gray = (k.grown h).known x v.node (λ z. omega (arith, gray-x)) ∙ gray-x

      next-black : (y : ℕ) → e x y ≡ true → 2 ≤ at colour' y
      next-black y t = let r = (listed v.graph).find x y t in rw r.2 at (k.all h r.0 r.1)

      -- a walk from x stays with black nodes, and x was none
      no_return : {y : ℕ} → Walk e x y → y ≡ x → ⊥
      no_return (one {x} {y} t) q = omega (arith, next-black y t, ap (at colour') q, was-gray)
      no_return (more {x} {y} {z} t w) q = omega (arith, stays v.graph (k.clean h) w (next-black y t), ap (at colour') q, was-gray)

      open_out : (a b : ℕ) → a < n → 2 ≤ at black a → e a b ≡ true → 2 ≤ at black b
      open_out a b i j t = elim (ℕ_discrete a x) [
        | yes q ↦ still b (next-black b (rw q at t))
        | no q ↦ still b ((k.clean h).out a b i (omega (arith, black_y a q)) t)
      ]

      open_none : (a : ℕ) → a < n → 2 ≤ at black a → Walk e a a → ⊥
      open_none a i j w = elim (ℕ_discrete a x) [
        | yes q ↦ no_return (rw q at w) refl
        | no q ↦ (k.clean h).none a i (omega (arith, black_y a q)) w
      ]

      open_known : (a : ℕ) → a < n → (at colour a ≡ 0 → ⊥) → at black a ≡ at colour a
      open_known a i j =
          let q : a ≡ x → ⊥ = λ z. j (ap (at colour) z ∙ v.white) in
          black_y a q ∙ (k.grown h).known a i (λ z. j (sym (gray_y a q) ∙ z)) ∙ gray_y a q

      open_fresh : (a : ℕ) → a < n → at colour a ≡ 0 → at black a ≡ 1 → ⊥
      open_fresh a i j z = elim (ℕ_discrete a x) [
        | yes q ↦ omega (arith, ap (at black) q, black-x)
        | no q ↦ (k.grown h).fresh a i (gray_y a q ∙ j) (sym (black_y a q) ∙ z)
      ]

    pub open_done : Opened g l n colour x black met
    open_done = record {
      closes = k.closes;
      black = λ h. omega (arith, black-x);
      clean = λ h. record { out = open_out h; none = open_none h };
      grown = λ h. record { known = open_known h; fresh = open_fresh h };
    }

-- the first i edges of x are gone through, and no gray node was met
pub record Going (g l : List ℕ) (n : ℕ) (colour : List State) (x i : ℕ) (colour' : List State) : Type 0 where
  pub can : CanGo g l n colour x
  pub long : length colour' ≡ n
  pub within : i ≤ deg g x
  pub past : (j : ℕ) → j < i → 2 ≤ at colour' (nb g l x j)
  pub clean : Clean (edge g l n) n (at colour')
  pub grown : Grown n (at colour) (at colour')

pub going_none : {g l : List ℕ} {n : ℕ} {colour : List State} {x : ℕ} → CanGo g l n colour x → Going g l n colour x 0 colour
going_none {n} {colour} v = record { can = v; long = v.long; within = omega arith; past = λ j b. absurd (omega arith); clean = v.clean; grown = grown_refl n (at colour) }

module _ {g l : List ℕ} {n : ℕ} {colour : List State} {x i : ℕ} {colour' : List State} (v : Going g l n colour x i colour') where
  -- a gray node is one that was gray at first
  old : (y : ℕ) → y < n → at colour' y ≡ 1 → at colour y ≡ 1
  old y b h = elim (ℕ_discrete (at colour y) 0) [ yes q ↦ absurd (v.grown.fresh y b q h) | no q ↦ sym (v.grown.known y b q) ∙ h ]

  -- y is the next neighbour
  module _ (b : i < deg g x) {y : ℕ} (is : y ≡ nb g l x i) where
    pub next_node : y < n
    next_node = rw is (v.can.graph.ends x i v.can.node b)

    edge-next : edge g l n x y ≡ true
    edge-next = rw is ((listed v.can.graph).step x i v.can.node b)

    -- every gray node has a walk to it
    path_next : (z : ℕ) → z < n → at colour' z ≡ 1 → Walk (edge g l n) z y
    path_next z h k = ⊎_elim (λ (q : z ≡ x). rw q (one edge-next)) (λ w. join w (one edge-next)) (v.can.path z h (old z h k))

    -- it is gray
    pub going_gray : at colour' y ≡ 1 → Gone g l n colour x colour' true
    going_gray h = record {
      closes = λ q. closes v.can.graph y (path_next y next_node h);
      all = λ q. absurd (true≢false q);
      clean = λ q. absurd (true≢false q);
      grown = λ q. absurd (true≢false q);
    }

    pub going_less : falling (whites (length colour') (at colour')) (length l) 0 < falling (whites (length colour) (at colour)) (length l) (deg g x)
    going_less = rw (v.long, v.can.long) (falls_edges (whites n (at colour)) (whites n (at colour')) (length l) (deg g x) (grown_whites v.grown) (omega arith))

    -- it is white
    module _ (h : at colour' y ≡ 0) where
      pub going_can : CanOpen g l n colour' y
      going_can = record { graph = v.can.graph; long = v.long; node = next_node; white = h; clean = v.clean; path = path_next }

      pub going_more : {colour'' : List State} {met : Bool} → met ≡ false → length colour'' ≡ length colour' → Opened g l n colour' y colour'' met → Going g l n colour x (i + 1) colour''
      going_more {colour''} f q k = record {
        can = v.can;
        long = q ∙ v.long;
        within = omega arith;
        past = below_more (λ j. 2 ≤ at colour'' (nb g l x j)) i
            (λ j r. omega (arith, v.past j r, (k.grown f).known (nb g l x j) (v.can.graph.ends x j v.can.node (omega arith)) (λ z. omega (arith, v.past j r))))
            (omega (arith, k.black f, ap (at colour'') is));
        clean = k.clean f;
        grown = grown_trans v.grown (k.grown f);
      }

  pub going_done : deg g x ≤ i → Gone g l n colour x colour' false
  going_done h = record { closes = λ q. absurd (true≢false (sym q)); all = λ q j b. v.past j (omega arith); clean = λ q. v.clean; grown = λ q. v.grown }
