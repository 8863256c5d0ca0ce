-- The lowest atom of each node. Assumes nothing.
use Rattle.std.specs.Prelude.{ℕ, ◌+◌, ◌*◌, ◌≤◌, ◌<◌, ◌≡◌, refl, true, List, [], ◌∷◌, map, eqb, length, get_or, set}
use Rattle.std.proofs.Common.{arith, ap₂, ◌∙◌, get_or-set_same, get_or-set_other, eq-eqb}
use Rattle.std.proofs.Math.Decide.{ℕ_discrete}
use Rattle.std.proofs.Math.Path.{sym, ap}
use Rattle.graphs.specs.Bools.{or_left, or_right}
use Rattle.graphs.specs.Lists.{any, has}
use Rattle.layout.specs.Patch.{part_at}
use Rattle.move_ledger.specs.Graph.{Load, at}
use Rattle.move_ledger.specs.Ledger.{index}
use Rattle.move_area.specs.Bodies.{atom_at}
use Rattle.move_area.specs.Area.{sets_in}
use Rattle.move_area.specs.Checked.{nodes_in}
use Rattle.move_questions.specs.Answers.{place_in, Checked}
use Rattle.move_order.specs.Order.{wanted, start_order, names}
use Rattle.move_order.specs.Names.{index_is}
use Rattle.move_order.specs.Wanted.{wanted-inside}
use Rattle.start_order.specs.Nodes.{long, placing, atoms, place_at, chunk_node}

-- the node of atom i
abbrev pub atom_node : List ℕ → ℕ → ℕ → ℕ
atom_node area n i = get_or area (n * n + 24 + 24 * n + i) 0

pub record CanLower (area : List ℕ) (a n : ℕ) (low : List ℕ) : Type 0 where
  pub few : a ≤ 512
  pub room : n * n + 24 + 24 * n + a ≤ length area
  pub node : (i : ℕ) → i < a → atom_node area n i < length low

-- for each atom from k on, its node's number is the lowest such atom of the node
pub record Lowest (node : ℕ → ℕ) (k a : ℕ) (low : List ℕ) : Type 0 where
  pub from : (i : ℕ) → k ≤ i → i < a → k ≤ at low (node i)
  pub most : (i : ℕ) → k ≤ i → i < a → at low (node i) ≤ i
  pub same : (i : ℕ) → k ≤ i → i < a → node (at low (node i)) ≡ node i

pub lowest_none : (node : ℕ → ℕ) (a : ℕ) (low : List ℕ) → Lowest node a a low
lowest_none node a low = record { from = λ i b c. absurd (omega arith); most = λ i b c. absurd (omega arith); same = λ i b c. absurd (omega arith) }

pub lowest_more : {node : ℕ → ℕ} {k i a : ℕ} {low : List ℕ} → Lowest node k a low → k ≡ i + 1 → node i < length low → Lowest node i a (set low (node i) i)
lowest_more {node} {k} {i} {a} {low} v e b = record {
  from = λ j c d. elim (ℕ_discrete (node j) (node i)) [ yes q ↦ omega (arith, here j q) | no q ↦ omega (arith, far j q, v.from j (above j c q) d) ];
  most = λ j c d. elim (ℕ_discrete (node j) (node i)) [ yes q ↦ omega (arith, here j q) | no q ↦ omega (arith, far j q, v.most j (above j c q) d) ];
  same = λ j c d. elim (ℕ_discrete (node j) (node i)) [ yes q ↦ ap node (here j q) ∙ sym q | no q ↦ ap node (far j q) ∙ v.same j (above j c q) d ];
}
  where
    here : (j : ℕ) → node j ≡ node i → at (set low (node i) i) (node j) ≡ i
    here j q = ap (at (set low (node i) i)) q ∙ get_or-set_same low (node i) i 0 b

    far : (j : ℕ) → (node j ≡ node i → ⊥) → at (set low (node i) i) (node j) ≡ at low (node j)
    far j q = get_or-set_other low (node i) (node j) i 0 q

    above : (j : ℕ) → i ≤ j → (node j ≡ node i → ⊥) → k ≤ j
    above j c q = elim (ℕ_discrete j i) [ yes z ↦ absurd (q (ap node z)) | no z ↦ omega arith ]

map_same : (f g : ℕ → ℕ) (l : List ℕ) → ((x : ℕ) → has x l ≡ true → f x ≡ g x) → map f l ≡ map g l
unfolding has any
map_same f g [] h = refl
map_same f g (x ∷ l) h = ap₂ ◌∷◌ (h x (or_left (eqb x x) _ (eq-eqb x x refl))) (map_same f g l (λ y m. h y (or_right (eqb y x) _ m)))

map-map : (f g : ℕ → ℕ) (l : List ℕ) → map f (map g l) ≡ map (λ x. f (g x)) l
map-map f g [] = refl
map-map f g (x ∷ l) = ap (λ m. f (g x) ∷ m) (map-map f g l)

module _ {load : Load} {n : ℕ} {area : List ℕ} {r : ℕ} (h : Checked load n area r) {low : List ℕ} (v : Lowest (atom_node area n) 0 load.A low) where
  node_is : (i : ℕ) → i < load.A → at (nodes_in load n area) i ≡ atom_node area n i
  node_is i b = part_at (atom_at n) load.A area i b

  -- it is the place of the node's set in the placement
  low_index : (i : ℕ) → i < load.A → at low (atom_node area n i) ≡ index (at (sets_in n area) (atom_node area n i)) (place_in load n area)
  low_index i b =
      let x : ℕ = atom_node area n i in
      let l : at low x < load.A = omega (arith, v.most i (omega arith) b) in
      sym (index_is (at (sets_in n area) x) (place_in load n area) (at low x) (omega (arith, atoms h))
      (place_at h (at low x) l ∙ ap (at (sets_in n area)) (node_is (at low x) l ∙ v.same i (omega arith) b))
      (λ j c e.
      let d : j < load.A = omega arith in
      let q : atom_node area n j ≡ x
      = sym (node_is j d) ∙ (placing h).distinct _ _ ((placing h).inside j d) (rw (← node_is i b) ((placing h).inside i b)) (sym (place_at h j d) ∙ e) in
      omega (arith, v.most j (omega arith) d, ap (at low) q)))

  -- so the names of the chunks are the numbers of their nodes
  pub names_low : (b : ℕ) (listed : List ℕ) → start_order load (place_in load n area) b ≡ map (at (sets_in n area)) listed
      → ((x : ℕ) → has x listed ≡ true → x < r) → ((x : ℕ) → has x listed ≡ true → wanted load (place_in load n area) b (at (sets_in n area) x) ≡ true)
      → names load (place_in load n area) b ≡ map (at low) listed
  unfolding names
  names_low b listed e inside w =
      ap (map (λ X. index X (place_in load n area))) e ∙ map-map (λ X. index X (place_in load n area)) (at (sets_in n area)) listed
      ∙ map_same _ (at low) listed (λ x m.
      let q = chunk_node h (at (sets_in n area) x) (wanted-inside load (place_in load n area) b _ (w x m)) in
      let z : at (nodes_in load n area) q.0 ≡ x = (placing h).distinct _ x (omega (arith, q.2, long h)) (omega (arith, inside x m, long h)) q.3 in
      let y : atom_node area n q.0 ≡ x = sym (node_is q.0 q.1) ∙ z in
      sym (ap (at low) (sym y) ∙ low_index q.0 q.1 ∙ ap (λ k. index (at (sets_in n area) k) (place_in load n area)) y))
