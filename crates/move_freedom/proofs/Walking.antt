-- What the two walks come to: flags of nodes by which the nodes that an atom may go to are counted. Assumes nothing.
use Prim.Native.Nat.{ℕ, ◌+◌, ◌≤◌, ◌<◌}
use Rattle.std.proofs.Common.{arith, sym, subst, ◌∙◌, true≢false, ap₂, length-set, get_or-set_same, get_or-set_other}
use Rattle.std.proofs.Math.Decide.{ℕ_discrete}
use Rattle.std.specs.Prelude.{◌≡◌, refl, Bool, false, cond, ◌&&◌, ◌||◌, List, length, replicate, set}
use Rattle.std.proofs.Math.Path.{ap, fun_ext}
use Rattle.std.proofs.Math.Bool.{true, not}
use Rattle.std.proofs.Math.Dec.{eqb}
use Rattle.std.proofs.Math.ListN.{get_or}
use Rattle.std.proofs.lemmas.List.{get_or-replicate}
use borrow.Author.Tests.{ltb-true, lt-ltb, eqb-true, eqb-false, eq-eqb, ne_eqb, not-true}
use Rattle.graphs.specs.Bools.{and_left, and_right, and_both, alike}
use Rattle.graphs.specs.Count.{ind, count, count_ext, count_pos}
use Rattle.graphs.specs.Lists.{below, some_below, some_give, some_take}
use Rattle.graphs.specs.Slots.{slot, mult, slot_edge, Ends}
use Rattle.graphs.specs.SlotLaws.{same-yes, edge-slot, slot-turned}
use Rattle.graphs.specs.Tab.{tab-length, tab-at}
use Rattle.graphs.specs.Walk.{via}
use Rattle.graph_walks.specs.Marks.{marking, marked}
use Rattle.move_ledger.specs.Graph.{none}
use Rattle.move_free_walks.specs.Joins.{cut, cut_edge, edge-cut}
use Rattle.move_free_walks.specs.ByMarks.{turn, forth, back, after, before, around, free_by}
use Rattle.move_freedom.specs.declared.flags.Flags.{Flags}
use Rattle.move_freedom.specs.Reach.{CanReach}
use Rattle.move_freedom.specs.Steps.{goes, leaves, stepped, CanFlag, CanStep, Flagged}
use Rattle.move_freedom.specs.Tally.{both, has_atom, open_count}
use Rattle.move_freedom.specs.Walks.{CanOpen}
use Rattle.move_freedom.proofs.Flagging.{goes_on}

-- an edge is a slot
slot_of : (s t : List ℕ) (m x y : ℕ) → slot_edge s t m x y ≡ true → (k : ℕ) × (k < m) × (get_or s k 0 ≡ x) × (get_or t k 0 ≡ y) × (x ≡ y → ⊥)
unfolding slot_edge
slot_of s t m x y h = edge-slot s t m x y (ltb-true 0 _ h)

edge_of : (s t : List ℕ) (m k : ℕ) → k < m → (get_or s k 0 ≡ get_or t k 0 → ⊥) → slot_edge s t m (get_or s k 0) (get_or t k 0) ≡ true
unfolding slot_edge mult
edge_of s t m k b d = lt-ltb 0 _ (count_pos (slot s t (get_or s k 0) (get_or t k 0)) m k b (same-yes _ _ _ _ d refl refl))

-- the marks of a walk over zeros
pub reached-at : (e : ℕ → ℕ → Bool) (n z : ℕ) {marks : List ℕ} → marks ≡ marked e n 1 z (replicate 1025 0) → (x : ℕ) → x < 1025 → get_or marks x 0 ≡ ind (via e (below n) z x)
unfolding marking
reached-at e n z q x b =
    ap (λ (l : List ℕ). get_or l x 0) q ∙ tab-at (λ y. cond (via e (below n) z y) 1 (get_or (replicate 1025 0) y 0)) 1025 x b
    ∙ ap (λ k. cond (via e (below n) z x) 1 k) (get_or-replicate 1025 x 0 0 b) ∙ flag (via e (below n) z x)
  where
    flag : (t : Bool) → cond t 1 0 ≡ ind t
    flag true = refl
    flag false = refl

pub reached_long : (e : ℕ → ℕ → Bool) (n z : ℕ) {marks : List ℕ} → marks ≡ marked e n 1 z (replicate 1025 0) → length marks ≡ 1025
unfolding marking
reached_long e n z q = ap length q ∙ tab-length (λ y. cond (via e (below n) z y) 1 (get_or (replicate 1025 0) y 0)) 1025

up : (t : Bool) {k : ℕ} → k ≡ ind t → not (eqb k 0) ≡ t
up true e = ap (λ k. not (eqb k 0)) e
up false e = ap (λ k. not (eqb k 0)) e

down : (t : Bool) {k : ℕ} → k ≡ ind t → eqb k 0 ≡ not t
down true e = ap (λ k. eqb k 0) e
down false e = ap (λ k. eqb k 0) e

pub turned-edges : (s t : List ℕ) (m : ℕ) → slot_edge t s m ≡ turn (slot_edge s t m)
turned-edges s t m = fun_ext (λ x. fun_ext (λ y. slot-turned s t m y x))

-- what a slot has that goes on
module _ (marks : List ℕ) (skip u v : ℕ) (h : goes marks skip u v ≡ true) where
  differ : u ≡ v → ⊥
  differ = eqb-false u v (not-true _ (and_left (not (eqb u v)) _ h))

  rest1 : (not (eqb u skip) && (not (eqb v skip) && not (eqb (get_or marks u 0) 0))) ≡ true
  rest1 = and_right (not (eqb u v)) _ h

  source_not : u ≡ skip → ⊥
  source_not = eqb-false u skip (not-true _ (and_left (not (eqb u skip)) _ rest1))

  rest2 : (not (eqb v skip) && not (eqb (get_or marks u 0) 0)) ≡ true
  rest2 = and_right (not (eqb u skip)) _ rest1

  target_not : v ≡ skip → ⊥
  target_not = eqb-false v skip (not-true _ (and_left (not (eqb v skip)) _ rest2))

  is_marked : not (eqb (get_or marks u 0) 0) ≡ true
  is_marked = and_right (not (eqb v skip)) _ rest2

module _ (s t : List ℕ) (m z n : ℕ) (ends : Ends s t n m) (marks : List ℕ) (told : (y : ℕ) → y < n → get_or marks y 0 ≡ ind (via (slot_edge s t m) (below n) z y)) where
  -- a step after the marked nodes
  pub stepped-after : (x : ℕ) → stepped (goes marks z) s t m x ≡ after (slot_edge s t m) z n x
  unfolding stepped after forth
  stepped-after x = alike _ _ there here
    where
      there : some_below (λ i. goes marks z (get_or s i 0) (get_or t i 0) && eqb (get_or t i 0) x) m ≡ true → some_below (λ y. cut (slot_edge s t m) z y x && via (slot_edge s t m) (below n) z y) n ≡ true
      there h =
          let r = some_take (λ i. goes marks z (get_or s i 0) (get_or t i 0) && eqb (get_or t i 0) x) m h in
          let g = and_left (goes marks z (get_or s r.0 0) (get_or t r.0 0)) _ r.2 in
          let q : get_or t r.0 0 ≡ x = eqb-true (get_or t r.0 0) x (and_right (goes marks z (get_or s r.0 0) (get_or t r.0 0)) _ r.2) in
          let b = ends.source r.0 r.1 in
          some_give (λ y. cut (slot_edge s t m) z y x && via (slot_edge s t m) (below n) z y) n (get_or s r.0 0) b
          (and_both (cut (slot_edge s t m) z (get_or s r.0 0) x) _
          (subst (λ k. cut (slot_edge s t m) z (get_or s r.0 0) k ≡ true) q
          (edge-cut (slot_edge s t m) z (get_or s r.0 0) (get_or t r.0 0) (edge_of s t m r.0 r.1 (differ marks z (get_or s r.0 0) (get_or t r.0 0) g)) (source_not marks z (get_or s r.0 0) (get_or t r.0 0) g) (target_not marks z (get_or s r.0 0) (get_or t r.0 0) g)))
          (sym (up (via (slot_edge s t m) (below n) z (get_or s r.0 0)) (told (get_or s r.0 0) b)) ∙ is_marked marks z (get_or s r.0 0) (get_or t r.0 0) g))

      here : some_below (λ y. cut (slot_edge s t m) z y x && via (slot_edge s t m) (below n) z y) n ≡ true → some_below (λ i. goes marks z (get_or s i 0) (get_or t i 0) && eqb (get_or t i 0) x) m ≡ true
      here h =
          let r = some_take (λ y. cut (slot_edge s t m) z y x && via (slot_edge s t m) (below n) z y) n h in
          let c = cut_edge (slot_edge s t m) z r.0 x (and_left (cut (slot_edge s t m) z r.0 x) _ r.2) in
          let k = slot_of s t m r.0 x c.0 in
          let v = and_right (cut (slot_edge s t m) z r.0 x) _ r.2 in
          some_give (λ i. goes marks z (get_or s i 0) (get_or t i 0) && eqb (get_or t i 0) x) m k.0 k.1
          (and_both (goes marks z (get_or s k.0 0) (get_or t k.0 0)) _
          (goes_on marks z (get_or s k.0 0) (get_or t k.0 0) (λ q. k.4 (sym k.2 ∙ q ∙ k.3)) (λ q. c.1 (sym k.2 ∙ q)) (λ q. c.2 (sym k.3 ∙ q))
          (λ q. true≢false (sym v ∙ sym (up (via (slot_edge s t m) (below n) z r.0) (told r.0 r.1)) ∙ ap (λ j. not (eqb (get_or marks j 0) 0)) (sym k.2) ∙ ap not (eq-eqb (get_or marks (get_or s k.0 0) 0) 0 q))))
          (eq-eqb (get_or t k.0 0) x k.3))

-- the mirror
pub before-turned : (s t : List ℕ) (m z n x : ℕ) → before (slot_edge s t m) z n x ≡ after (slot_edge t s m) z n x
unfolding before after back forth cut
before-turned s t m z n x =
    ap (λ p. some_below p n) (fun_ext (λ y. ap (λ b. b && via (turn (slot_edge s t m)) (below n) z y) (swap (slot_edge s t m x y) (not (eqb x z)) (not (eqb y z)))))
    ∙ ap (λ e. some_below (λ y. (e y x && (not (eqb y z) && not (eqb x z))) && via e (below n) z y) n) (sym (turned-edges s t m))
  where
    swap : (a b c : Bool) → (a && (b && c)) ≡ (a && (c && b))
    swap true true true = refl
    swap true true false = refl
    swap true false true = refl
    swap true false false = refl
    swap false b c = refl

-- what z leads to
pub stepped-out : (s t : List ℕ) (m z x : ℕ) → stepped (leaves z) s t m x ≡ slot_edge s t m z x
unfolding stepped
stepped-out s t m z x = alike _ _ there here
  where
    there : some_below (λ i. leaves z (get_or s i 0) (get_or t i 0) && eqb (get_or t i 0) x) m ≡ true → slot_edge s t m z x ≡ true
    there h =
        let r = some_take (λ i. leaves z (get_or s i 0) (get_or t i 0) && eqb (get_or t i 0) x) m h in
        let g = and_left (leaves z (get_or s r.0 0) (get_or t r.0 0)) _ r.2 in
        let q : get_or t r.0 0 ≡ x = eqb-true (get_or t r.0 0) x (and_right (leaves z (get_or s r.0 0) (get_or t r.0 0)) _ r.2) in
        let u : get_or s r.0 0 ≡ z = eqb-true (get_or s r.0 0) z (and_right (not (eqb (get_or s r.0 0) (get_or t r.0 0))) _ g) in
        let d = eqb-false (get_or s r.0 0) (get_or t r.0 0) (not-true _ (and_left (not (eqb (get_or s r.0 0) (get_or t r.0 0))) _ g)) in
        subst (λ k. slot_edge s t m k x ≡ true) u (subst (λ k. slot_edge s t m (get_or s r.0 0) k ≡ true) q (edge_of s t m r.0 r.1 d))

    here : slot_edge s t m z x ≡ true → some_below (λ i. leaves z (get_or s i 0) (get_or t i 0) && eqb (get_or t i 0) x) m ≡ true
    here h =
        let k = slot_of s t m z x h in
        some_give (λ i. leaves z (get_or s i 0) (get_or t i 0) && eqb (get_or t i 0) x) m k.0 k.1
        (rw (ne_eqb (get_or s k.0 0) (get_or t k.0 0) (λ q. k.4 (sym k.2 ∙ q ∙ k.3)), eq-eqb (get_or s k.0 0) z k.2, eq-eqb (get_or t k.0 0) x k.3) refl)

pub leave_done : {s t : List ℕ} {m : ℕ} (z : ℕ) {out out' : List Bool} → Flagged (leaves z) s t m out out' → (x : ℕ) → x < length out → get_or out' x false ≡ (slot_edge s t m z x || get_or out x false)
leave_done {s} {t} {m} z {out} v x b = v.each x b ∙ ap (λ u. u || get_or out x false) (stepped-out s t m z x)

-- so it is with a step after the marked nodes, where z alone is marked
pub stepped-only : (s t : List ℕ) (m z : ℕ) → Ends s t (z + 1) m → z ≤ 1024 → (only : List ℕ) → only ≡ set (replicate 1025 0) z 1 → (x : ℕ) → stepped (goes only none) s t m x ≡ slot_edge s t m z x
unfolding stepped
stepped-only s t m z ends few only e x = alike _ _ (over (λ i b h. sym (same i b) ∙ h)) (over (λ i b h. same i b ∙ h)) ∙ stepped-out s t m z x
  where
    marks-z : (u : ℕ) → u < z + 1 → Dec (u ≡ z) → not (eqb (get_or only u 0) 0) ≡ eqb u z
    marks-z u b (yes q) = rw (e, q, get_or-set_same {A = ℕ} (replicate 1025 0) z 1 0 (omega arith), eq-eqb z z refl) refl
    marks-z u b (no q) = rw (e, get_or-set_other {A = ℕ} (replicate 1025 0) z u 1 0 q, get_or-replicate {A = ℕ} 1025 u 0 0 (omega arith), ne_eqb u z q) refl

    same : (i : ℕ) → i < m → (goes only none (get_or s i 0) (get_or t i 0) && eqb (get_or t i 0) x) ≡ (leaves z (get_or s i 0) (get_or t i 0) && eqb (get_or t i 0) x)
    same i b =
        rw (ne_eqb (get_or s i 0) none (let l = ends.source i b in omega arith), ne_eqb (get_or t i 0) none (let l = ends.target i b in omega arith), marks-z (get_or s i 0) (ends.source i b) (ℕ_discrete (get_or s i 0) z)) refl

    over : {p q : ℕ → Bool} → ((i : ℕ) → i < m → p i ≡ true → q i ≡ true) → some_below p m ≡ true → some_below q m ≡ true
    over {p} {q} f h =
        let r = some_take p m h in
        some_give q m r.0 r.1 (f r.0 r.1 r.2)

pub leave_can : {s t : List ℕ} {m z : ℕ} {out : List Bool} {only : List ℕ} → m ≤ length s → m ≤ length t → Ends s t (z + 1) m → z ≤ 1024 → 1025 ≤ length out → only ≡ set (replicate 1025 0) z 1 → CanStep s t m only out
leave_can {s} {t} {m} {z} sources targets ends few room e = record {
  flag = record { keys = sources; values = targets; target = λ k b. omega (arith, ends.target k b, few, room) };
  source = λ k b. omega (arith, ends.source k b, few, ap length e, length-set (replicate {A = ℕ} 1025 0) z 1);
}

module _ {counts s t : List ℕ} {m : ℕ} (can : CanOpen counts s t m) where
  abbrev z : ℕ
  z = length counts

  turned-ends : Ends t s (z + 1) m
  turned-ends = record { source = can.ends.target; target = can.ends.source }

  pub forth_can : CanReach s t m (length counts + 1) (length counts) (replicate 1025 0)
  forth_can = record { slots = can.slots; sources = can.sources; targets = can.targets; ends = can.ends; nodes = omega (arith, can.few); there = omega arith; cells = omega (arith, can.few); fresh = λ x b. get_or-replicate 1025 x 0 0 (omega (arith, can.few)) }

  pub back_can : CanReach t s m (length counts + 1) (length counts) (replicate 1025 0)
  back_can = record { slots = can.slots; sources = can.targets; targets = can.sources; ends = turned-ends; nodes = omega (arith, can.few); there = omega arith; cells = omega (arith, can.few); fresh = λ x b. get_or-replicate 1025 x 0 0 (omega (arith, can.few)) }

  pub leaves_can : CanFlag s t m (replicate 1025 false)
  leaves_can = record { keys = can.sources; values = can.targets; target = λ k b. omega (arith, can.ends.target k b, can.few) }

  pub ahead_can : {fo : List ℕ} → fo ≡ marked (slot_edge s t m) (length counts + 1) 1 (length counts) (replicate 1025 0) → CanStep s t m fo (replicate 1025 false)
  ahead_can p = record {
    flag = leaves_can;
    source = λ k b. omega (arith, can.ends.source k b, can.few, reached_long (slot_edge s t m) (z + 1) z p);
  }

  pub behind_can : {ba : List ℕ} → ba ≡ marked (slot_edge t s m) (length counts + 1) 1 (length counts) (replicate 1025 0) → CanStep t s m ba (replicate 1025 false)
  behind_can q = record {
    flag = record { keys = can.targets; values = can.sources; target = λ k b. omega (arith, can.ends.source k b, can.few) };
    source = λ k b. omega (arith, can.ends.target k b, can.few, reached_long (slot_edge t s m) (z + 1) z q);
  }

  module _ {fo : List ℕ} {f : Flags} (p : fo ≡ marked (slot_edge s t m) (length counts + 1) 1 (length counts) (replicate 1025 0))
      (q : f.back ≡ marked (slot_edge t s m) (length counts + 1) 1 (length counts) (replicate 1025 0))
      (v : Flagged (goes fo (length counts)) s t m (replicate 1025 false) f.ahead) (w : Flagged (goes f.back (length counts)) t s m (replicate 1025 false) f.behind)
      (l : Flagged (leaves (length counts)) s t m (replicate 1025 false) f.out) where
    flat : (u : Bool) (x : ℕ) → x < 1025 → (u || get_or (replicate 1025 false) x false) ≡ u
    flat true x b = refl
    flat false x b = get_or-replicate 1025 x false false b

    ahead-at : (x : ℕ) → x < z + 1 → get_or f.ahead x false ≡ after (slot_edge s t m) z (z + 1) x
    ahead-at x b =
        v.each x (omega (arith, can.few)) ∙ flat (stepped (goes fo z) s t m x) x (omega (arith, can.few))
        ∙ stepped-after s t m z (z + 1) can.ends fo (λ y c. reached-at (slot_edge s t m) (z + 1) z p y (omega (arith, can.few))) x

    behind_at : (x : ℕ) → x < z + 1 → get_or f.behind x false ≡ before (slot_edge s t m) z (z + 1) x
    behind_at x b =
        w.each x (omega (arith, can.few)) ∙ flat (stepped (goes f.back z) t s m x) x (omega (arith, can.few))
        ∙ stepped-after t s m z (z + 1) turned-ends f.back (λ y c. reached-at (slot_edge t s m) (z + 1) z q y (omega (arith, can.few))) x ∙ sym (before-turned s t m z (z + 1) x)

    out_at : (x : ℕ) → x < z + 1 → get_or f.out x false ≡ slot_edge s t m z x
    out_at x b = leave_done z l x (omega (arith, can.few)) ∙ flat (slot_edge s t m z x) x (omega (arith, can.few))

    back_at : (x : ℕ) → x < z + 1 → get_or f.back x 0 ≡ ind (back (slot_edge s t m) z (z + 1) x)
    unfolding back
    back_at x b = reached-at (slot_edge t s m) (z + 1) z q x (omega (arith, can.few)) ∙ ap (λ (e : ℕ → ℕ → Bool). ind (via e (below (z + 1)) z x)) (turned-edges s t m)

    both_at : (x : ℕ) → x < z + 1 → both f x ≡ around (slot_edge s t m) z (z + 1) x
    both_at x b = ap₂ (λ u v. u && v) (out_at x b) (up (back (slot_edge s t m) z (z + 1) x) (back_at x b))

    -- the nodes that are counted
    pub opened : (own : ℕ) {r : ℕ} → r ≡ open_count f counts own
        → r ≡ count (λ X. has_atom counts X && (not (eqb X own) && free_by (slot_edge s t m) (length counts) (length counts + 1) X)) (length counts)
    unfolding free_by open_count
    opened own h = h ∙ count_ext _ _ z (λ X b. rw (ahead-at X (omega arith), behind_at X (omega arith), count_ext _ _ (z + 1) both_at, both_at X (omega arith)) refl)
