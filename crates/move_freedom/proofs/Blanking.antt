-- Slots without a node, one slot after the other, and their graph. Assumes nothing.
use Rattle.std.specs.Prelude.{ℕ, ◌+◌, ◌<◌, ◌≡◌, refl, Bool, true, false, cond, ◌||◌, List, eqb, length, get_or, set}
use Rattle.std.proofs.Common.{arith, sym, ap, subst, ◌∙◌, length-set, get_or-set_same, get_or-set_other, eq-eqb, ne_eqb}
use Rattle.std.proofs.Math.Decide.{ℕ_discrete}
use Rattle.std.proofs.Math.Path.{fun_ext}
use Rattle.std.proofs.lemmas.Bool.{eqb-false}
use Rattle.graphs.specs.Bools.{or_false_left, or_false_right}
use Rattle.graphs.specs.Slots.{slot_edge, Ends}
use Rattle.graphs.specs.Lists.{below}
use Rattle.graphs.specs.Walk.{cyclic}
use Rattle.graph_neighbours.specs.Grouped.{group_graph, group_edges}
use Rattle.graph_neighbours.specs.Lists.{edge, Graph}
use Rattle.graph_neighbours.specs.Steps.{CanGroup, Grouped}
use Rattle.graph_slots.specs.Asked.{Slots}
use Rattle.graph_slots.specs.Listing.{group_can}
use Rattle.move_free_walks.specs.Joins.{cut}
use Rattle.move_free_walks.specs.Blanked.{blank, blanked_cut}
use Rattle.move_freedom.specs.Rest.{BlankedTo, CanRest}

-- an end of a slot that has the end z, and one of another
pub blank-source : (u v z x : ℕ) → u ≡ z → 0 ≡ blank z u v x
blank-source u v z x h = sym (ap (λ t. cond (t || eqb v z) 0 x) (eq-eqb u z h))

pub blank-target : (u v z x : ℕ) → v ≡ z → 0 ≡ blank z u v x
blank-target u v z x h = go (eqb u z) (eqb v z) (eq-eqb v z h)
  where
    go : (s t : Bool) → t ≡ true → 0 ≡ cond (s || t) 0 x
    go true t e = refl
    go false t e = sym (ap (λ t. cond t 0 x) e)

pub blank-kept : (u v z x : ℕ) → (u ≡ z → ⊥) → (v ≡ z → ⊥) → x ≡ blank z u v x
blank-kept u v z x a b = rw (ne_eqb u z a, ne_eqb v z b) refl

pub blanked_none : (s t : List ℕ) (z : ℕ) (s₀ t₀ : List ℕ) → BlankedTo s t z 0 s₀ t₀ s₀ t₀
blanked_none s t z s₀ t₀ = record { blanks = record { source = λ k b. absurd (omega arith); target = λ k b. absurd (omega arith) }; long = refl; target_long = refl }

pub blanked_more : {s t : List ℕ} {z k : ℕ} {s₀ t₀ s' t' : List ℕ} → BlankedTo s t z k s₀ t₀ s' t' → k < length s₀ → k < length t₀
    → {x y k' : ℕ} → k' ≡ k + 1 → x ≡ blank z (get_or s k 0) (get_or t k 0) (get_or s k 0) → y ≡ blank z (get_or s k 0) (get_or t k 0) (get_or t k 0) → BlankedTo s t z k' s₀ t₀ (set s' k x) (set t' k y)
blanked_more {s} {t} {z} {k} {s₀} {t₀} {s'} {t'} v b c {x} {y} {k'} q e f = record {
  blanks = record { source = λ i l. first i l (ℕ_discrete i k); target = λ i l. second i l (ℕ_discrete i k) };
  long = length-set s' k x ∙ v.long;
  target_long = length-set t' k y ∙ v.target_long;
}
  where
    first : (i : ℕ) → i < k' → Dec (i ≡ k) → get_or (set s' k x) i 0 ≡ blank z (get_or s i 0) (get_or t i 0) (get_or s i 0)
    first i l (yes h) = rw (h, get_or-set_same s' k x 0 (omega (arith, v.long))) e
    first i l (no h) = get_or-set_other s' k i x 0 h ∙ v.blanks.source i (omega arith)

    second : (i : ℕ) → i < k' → Dec (i ≡ k) → get_or (set t' k y) i 0 ≡ blank z (get_or s i 0) (get_or t i 0) (get_or t i 0)
    second i l (yes h) = rw (h, get_or-set_same t' k y 0 (omega (arith, v.target_long))) f
    second i l (no h) = get_or-set_other t' k i y 0 h ∙ v.blanks.target i (omega arith)

pub blanked_upto : {s t : List ℕ} {z k m : ℕ} {s₀ t₀ s' t' : List ℕ} → BlankedTo s t z k s₀ t₀ s' t' → k ≡ m → BlankedTo s t z m s₀ t₀ s' t'
blanked_upto {s} {t} {z} {k} {m} {s₀} {t₀} {s'} {t'} v e = subst (λ j. BlankedTo s t z j s₀ t₀ s' t') e v

module _ {s t : List ℕ} {m z : ℕ} {s₀ t₀ s' t' : List ℕ} (can : CanRest s t m z) (v : BlankedTo s t z m s₀ t₀ s' t') where
  low : (u v r : ℕ) → r < z + 1 → (eqb u z ≡ false → eqb v z ≡ false → eqb r z ≡ false) → blank z u v r < z
  low u v r l f = go (eqb u z || eqb v z) refl
    where
      go : (w : Bool) → (eqb u z || eqb v z) ≡ w → cond w 0 r < z
      go true h = can.some
      go false h = let d = eqb-false r z (f (or_false_left (eqb u z) _ h) (or_false_right (eqb u z) _ h)) in omega arith

  pub rest-ends : Ends s' t' z m
  rest-ends = record {
    source = λ k l. rw (v.blanks.source k l) (low (get_or s k 0) (get_or t k 0) (get_or s k 0) (can.ends.source k l) (λ a b. a));
    target = λ k l. rw (v.blanks.target k l) (low (get_or s k 0) (get_or t k 0) (get_or t k 0) (can.ends.target k l) (λ a b. b));
  }

  pub rest-edges : slot_edge s' t' m ≡ cut (slot_edge s t m) z
  rest-edges = fun_ext (λ x. fun_ext (λ y. blanked_cut v.blanks x y))

  pub rest_slots : length s' ≡ 8448 → length t' ≡ 8448 → Slots s' t' m z
  rest_slots p q = record { slots = can.slots; sources = omega (arith, can.slots); targets = omega (arith, can.slots); ends = rest-ends; nodes = can.nodes }

  pub rest_group : {heads list : List ℕ} → length s' ≡ 8448 → length t' ≡ 8448 → length heads ≡ 1025 → length list ≡ 8448 → CanGroup s' t' m z heads list
  rest_group p q h l = group_can (rest_slots p q) (record { rows = omega (arith, can.nodes); room = omega (arith, can.slots); short = omega arith })

  module _ {heads list heads' list' : List ℕ} (h : length heads ≡ 1025) (l : length list ≡ 8448) (g : Grouped s' t' m z heads heads' list list') where
    pub rest_graph : Graph heads' list' z
    rest_graph = group_graph g rest-ends (omega (arith, can.nodes)) (omega (arith, can.slots)) (omega arith)

    pub rest-done : {r : Bool} → r ≡ cyclic (edge heads' list' z) (below z) → r ≡ cyclic (cut (slot_edge s t m) z) (below z)
    rest-done e = e ∙ ap (λ (f : ℕ → ℕ → Bool). cyclic f (below z)) (group_edges g rest-ends ∙ rest-edges)
