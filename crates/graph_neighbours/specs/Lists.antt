-- A graph of n nodes as neighbour lists: node x's neighbours are list[starts[x]..starts[x + 1]]. Assumes nothing.
use Rattle.std.specs.Prelude.{◌≡◌, List, Bool, true, ◌&&◌, ℕ, ◌+◌, ◌-◌, ◌^◌, ◌≤◌, ◌<◌, ltb, length, get_or, drop}
use Rattle.std.proofs.Common.{ap, ◌∙◌, arith, length-drop, length-take-le}
use borrow.Author.Tests.{ltb-true, lt-ltb}
use Rattle.graph_neighbours.specs.Groups.{occ, occ-at, occ-place}
use Rattle.graph_neighbours.specs.Parts.{part_of}
use Rattle.graphs.specs.Bools.{and_left, and_right, and_both}

-- how many neighbours x has, and the i-th of them
abbrev pub deg : List ℕ → ℕ → ℕ
deg starts x = get_or starts (x + 1) 0 - get_or starts x 0

abbrev pub nb : List ℕ → List ℕ → ℕ → ℕ → ℕ
nb starts list x i = get_or (part_of starts list x) i 0

-- y is one of x's neighbours
unfoldable pub edge : List ℕ → List ℕ → ℕ → ℕ → ℕ → Bool
edge starts list n x y = ltb x n && ltb 0 (occ y (part_of starts list x))

-- the lists are in order, and each neighbour is a node
pub record Graph (starts list : List ℕ) (n : ℕ) : Type 0 where
  pub rows : n < length starts
  pub short : length list < 2 ^ 31
  pub rise : (x : ℕ) → x < n → get_or starts x 0 ≤ get_or starts (x + 1) 0
  pub inside : (x : ℕ) → x < n → get_or starts (x + 1) 0 ≤ length list
  pub ends : (x i : ℕ) → x < n → i < deg starts x → nb starts list x i < n

-- node x's bounds are in range
pub record Row (starts : List ℕ) (x : ℕ) : Type 0 where
  pub long : x + 1 < length starts
  pub rise : get_or starts x 0 ≤ get_or starts (x + 1) 0
  pub short : get_or starts (x + 1) 0 < 2 ^ 31

-- node x has an i-th neighbour
pub record Place (starts list : List ℕ) (x i : ℕ) : Type 0 where
  pub long : x + 1 < length starts
  pub rise : get_or starts x 0 ≤ get_or starts (x + 1) 0
  pub inside : get_or starts (x + 1) 0 ≤ length list
  pub short : length list < 2 ^ 31
  pub there : i < deg starts x

pub place_long : {starts list : List ℕ} {x i : ℕ} → Place starts list x i → {part : List ℕ} → part ≡ part_of starts list x → length part ≡ deg starts x
place_long {starts} {list} {x} v is =
    ap length is ∙ length-take-le (deg starts x) (drop (get_or starts x 0) list) (rw length-drop (omega (arith, v.rise, v.inside)))

-- the edges e between nodes below n, told by lists: node x has d x neighbours, the i-th is f x i. All that a walk needs
pub record Listed (e : ℕ → ℕ → Bool) (n : ℕ) (d : ℕ → ℕ) (f : ℕ → ℕ → ℕ) : Type 0 where
  pub ends : (x i : ℕ) → x < n → i < d x → f x i < n
  pub step : (x i : ℕ) → x < n → i < d x → e x (f x i) ≡ true
  pub from : (x y : ℕ) → e x y ≡ true → x < n
  pub find : (x y : ℕ) → e x y ≡ true → (i : ℕ) × (i < d x) × (f x i ≡ y)

pub listed-to : {e : ℕ → ℕ → Bool} {n : ℕ} {d : ℕ → ℕ} {f : ℕ → ℕ → ℕ} → Listed e n d f → (x y : ℕ) → e x y ≡ true → y < n
listed-to g x y h = let r = g.find x y h in let b = g.ends x r.0 (g.from x y h) r.1 in omega (arith, r.2)

module _ {starts list : List ℕ} {n : ℕ} (g : Graph starts list n) where
  pub part_long : (x : ℕ) → x < n → length (part_of starts list x) ≡ deg starts x
  part_long x h = length-take-le (deg starts x) (drop (get_or starts x 0) list) (rw length-drop (omega (arith, g.rise x h, g.inside x h)))

  pub listed : Listed (edge starts list n) n (deg starts) (nb starts list)
  unfolding edge
  listed = record {
    ends = g.ends;
    step = λ x i h b. and_both (ltb x n) _ (lt-ltb x n h) (lt-ltb 0 _ (occ-at (part_of starts list x) i (omega (arith, part_long x h))));
    from = λ x y h. ltb-true x n (and_left (ltb x n) _ h);
    find = λ x y h.
        let b : x < n = ltb-true x n (and_left (ltb x n) _ h) in
        let r = occ-place y (part_of starts list x) (ltb-true 0 _ (and_right (ltb x n) _ h)) in
        (r.0, omega (arith, r.1, part_long x b), r.2);
  }

  pub row_of : (x : ℕ) → x < n → Row starts x
  row_of x h = record { long = omega (arith, g.rows); rise = g.rise x h; short = omega (arith, g.inside x h, g.short) }

  pub place_of : (x i : ℕ) → x < n → i < deg starts x → Place starts list x i
  place_of x i h b = record { long = omega (arith, g.rows); rise = g.rise x h; inside = g.inside x h; short = g.short; there = b }
