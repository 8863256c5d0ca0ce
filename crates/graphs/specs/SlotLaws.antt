-- Laws of edge slots. Assumes nothing.
use Rattle.std.specs.Prelude.{◌≡◌, refl, List, Bool, true, false, not, cond, ◌&&◌, ℕ, ◌+◌, ◌-◌, ◌*◌, ◌≤◌, ◌<◌, eqb, ltb, length, get_or, set}
use Rattle.std.proofs.Common.{sym, ap, ◌∙◌, true≢false, arith, length-set, get_or-set_same, get_or-set_other, eq-eqb, ne_eqb}
use Rattle.std.proofs.Math.Bool.{and-false, and_comm}
use Rattle.std.proofs.Math.Decide.{dec_lt}
use Rattle.graphs.specs.Bools.{Same, it, other, same?}
use Rattle.graphs.specs.Count.{ind, count_ext, count-all_no, count-found}
use Rattle.graphs.specs.Square.{index-row, index_column, index_lt}
use Rattle.graphs.specs.Slots.{same, hits, stands, slot, mult, flat, slot_edge, Ends, more, less}

pub hits-empty : (a b i x : ℕ) → a ≡ b → hits a b i x ≡ false
hits-empty a b i x e = rw (eq-eqb a b e) refl

pub hits-yes : (a b i x : ℕ) → (a ≡ b → ⊥) → i ≡ x → hits a b i x ≡ true
hits-yes a b i x d e = rw (ne_eqb a b d, eq-eqb i x e) refl

pub hits_no : (a b i x : ℕ) → (i ≡ x → ⊥) → hits a b i x ≡ false
hits_no a b i x d = rw (ne_eqb i x d) (and-false (not (eqb a b)))

pub stands_same : (n a b x y : ℕ) → b < n → y < n → stands n a b (x * n + y) ≡ same a b x y
stands_same n a b x y hb hy = ap (λ t. not (eqb a b) && t) (go (same? a x) (same? b y))
  where
    go : Same a x → Same b y → eqb (a * n + b) (x * n + y) ≡ (eqb a x && eqb b y)
    go (it e) (it f) = rw (eq-eqb a x e, eq-eqb b y f, e, f) (eq-eqb (x * n + y) (x * n + y) refl)
    go (it e) (other f) = rw (eq-eqb a x e, ne_eqb b y f) (ne_eqb (a * n + b) (x * n + y) (λ q. f (index_column n a b x y hb hy q)))
    go (other e) f = rw (ne_eqb a x e) (ne_eqb (a * n + b) (x * n + y) (λ q. e (index-row n a b x y hb hy q)))

pub flat-mult : (s t : List ℕ) (n m x y : ℕ) → Ends s t n m → y < n → flat s t n m (x * n + y) ≡ mult s t m x y
unfolding mult
flat-mult s t n m x y h hy = count_ext _ _ m (λ j l. stands_same n (get_or s j 0) (get_or t j 0) x y (h.target j l) hy)

pub flat_beyond : (s t : List ℕ) (n m i : ℕ) → Ends s t n m → n * n ≤ i → flat s t n m i ≡ 0
flat_beyond s t n m i h hi =
    count-all_no _ m (λ j l. hits_no (get_or s j 0) (get_or t j 0) (get_or s j 0 * n + get_or t j 0) i (λ q. omega (arith, index_lt n (get_or s j 0) (get_or t j 0) (h.source j l) (h.target j l))))

pub more-at : (e : List ℕ) (i a b x : ℕ) → i < length e → get_or (more e i a b) x 0 ≡ get_or e x 0 + ind (hits a b i x)
unfolding more
more-at e i a b x h = go (same? a b) (same? x i)
  where
    go : Same a b → Same x i → get_or (cond (eqb a b) e (set e i (get_or e i 0 + 1))) x 0 ≡ get_or e x 0 + ind (hits a b i x)
    go (it q) r = rw (hits-empty a b i x q, eq-eqb a b q) (omega arith)
    go (other q) (it r) = rw (hits-yes a b i x q (sym r), ne_eqb a b q, r) (rw get_or-set_same refl)
    go (other q) (other r) = rw (hits_no a b i x (λ z. r (sym z)), ne_eqb a b q, get_or-set_other e i x _ 0 r) (omega arith)

pub less-at : (e : List ℕ) (i a b x : ℕ) → i < length e → ((a ≡ b → ⊥) → 1 ≤ get_or e i 0) → get_or (less e i a b) x 0 + ind (hits a b i x) ≡ get_or e x 0
unfolding less
less-at e i a b x h k = go (same? a b) (same? x i)
  where
    go : Same a b → Same x i → get_or (cond (eqb a b) e (set e i (get_or e i 0 - 1))) x 0 + ind (hits a b i x) ≡ get_or e x 0
    go (it q) r = rw (hits-empty a b i x q, eq-eqb a b q) (omega arith)
    go (other q) (it r) = rw (hits-yes a b i x q (sym r), ne_eqb a b q, r) (rw get_or-set_same (omega (arith, k q)))
    go (other q) (other r) = rw (hits_no a b i x (λ z. r (sym z)), ne_eqb a b q, get_or-set_other e i x _ 0 r) (omega arith)

pub length-cond : (t : Bool) (e : List ℕ) (i v : ℕ) → length (cond t e (set e i v)) ≡ length e
length-cond true e i v = refl
length-cond false e i v = length-set e i v

pub length_more : (e : List ℕ) (i a b : ℕ) → length (more e i a b) ≡ length e
unfolding more
length_more e i a b = length-cond (eqb a b) e i _

pub length-less : (e : List ℕ) (i a b : ℕ) → length (less e i a b) ≡ length e
unfolding less
length-less e i a b = length-cond (eqb a b) e i _

-- an edge is the one from x to y when its ends are x and y, which differ
pub same-yes : (a b x y : ℕ) → (x ≡ y → ⊥) → a ≡ x → b ≡ y → same a b x y ≡ true
same-yes a b x y d e f = rw (ne_eqb a b (λ q. d (sym e ∙ q ∙ f)), eq-eqb a x e, eq-eqb b y f) refl

pub same_ends : (a b x y : ℕ) → same a b x y ≡ true → (a ≡ x) × (b ≡ y) × (x ≡ y → ⊥)
same_ends a b x y h = go (same? a b) (same? a x) (same? b y)
  where
    no : same a b x y ≡ false → (a ≡ x) × (b ≡ y) × (x ≡ y → ⊥)
    no q = absurd (true≢false (sym h ∙ q))

    go : Same a b → Same a x → Same b y → (a ≡ x) × (b ≡ y) × (x ≡ y → ⊥)
    go (other p) (it e) (it f) = (e, f, λ q. p (e ∙ q ∙ sym f))
    go (it p) e f = no (rw (eq-eqb a b p) refl)
    go (other p) (other e) f = no (rw (ne_eqb a b p, ne_eqb a x e) refl)
    go (other p) (it e) (other f) = no (rw (ne_eqb a b p, eq-eqb a x e, ne_eqb b y f) refl)

-- there is an edge exactly where a slot has its ends
pub edge-slot : (s t : List ℕ) (m x y : ℕ) → 1 ≤ mult s t m x y → (k : ℕ) × (k < m) × (get_or s k 0 ≡ x) × (get_or t k 0 ≡ y) × (x ≡ y → ⊥)
unfolding mult
edge-slot s t m x y h =
    let r = count-found (slot s t x y) m h in
    let q = same_ends (get_or s r.0 0) (get_or t r.0 0) x y r.2 in
    (r.0, r.1, q.0, q.1, q.2)

-- no edge from a node to itself
pub mult_self : (s t : List ℕ) (m x : ℕ) → mult s t m x x ≡ 0
mult_self s t m x = go (dec_lt 0 (mult s t m x x))
  where
    go : Dec (0 < mult s t m x x) → mult s t m x x ≡ 0
    go (yes p) = absurd ((edge-slot s t m x x p).4 refl)
    go (no p) = omega arith

-- an edge the other way round
pub mult-swap : (s t : List ℕ) (m x y : ℕ) → mult t s m y x ≡ mult s t m x y
unfolding mult
mult-swap s t m x y = count_ext _ _ m (λ j z. go (get_or s j 0) (get_or t j 0))
  where
    flip : (a b : ℕ) → Same a b → eqb b a ≡ eqb a b
    flip a b (it q) = eq-eqb b a (sym q) ∙ sym (eq-eqb a b q)
    flip a b (other q) = ne_eqb b a (λ e. q (sym e)) ∙ sym (ne_eqb a b q)

    go : (a b : ℕ) → (not (eqb b a) && (eqb b y && eqb a x)) ≡ (not (eqb a b) && (eqb a x && eqb b y))
    go a b = rw (flip a b (same? a b), and_comm (eqb b y) (eqb a x)) refl

-- the graph with each edge turned round is that of the slots turned round
pub slot-turned : (s t : List ℕ) (m x y : ℕ) → slot_edge t s m y x ≡ slot_edge s t m x y
unfolding slot_edge
slot-turned s t m x y = ap (ltb 0) (mult-swap s t m x y)
