-- That the counts of one atom and of all are the definition's. Assumes nothing.
use Prim.Native.Nat.{ℕ, ◌+◌, ◌-◌, ◌*◌, ◌^◌, ◌≤◌, ◌<◌}
use Rattle.std.proofs.Common.{arith, subst, ◌∙◌}
use Rattle.std.specs.Prelude.{◌≡◌, refl, Bool, true, false, not, cond, ◌&&◌, List, [], length, get_or, set, take, drop}
use Rattle.std.proofs.Math.Path.{sym, ap, ap₂}
use lib.Dec.{eqb, ltb}
use borrow.Author.Tests.{eq-eqb, ne_eqb, eqb-true, eqb-false, lt-ltb}
use Rattle.graphs.specs.Bools.{and_right}
use Rattle.graphs.specs.Count.{ind, count, count_le, count_ext}
use Rattle.graphs.specs.Lists.{below}
use Rattle.graphs.specs.Slots.{slot_edge, Ends}
use Rattle.graphs.specs.Total.{total, total-none, total-more}
use Rattle.graphs.specs.Walk.{cyclic}
use Rattle.layout.specs.Patch.{part, part_at, part_long}
use Rattle.layout.specs.Lent.{mid_part}
use Rattle.move_ledger.specs.Graph.{Load, none, at, members, occupied, edge, rising}
use Rattle.move_ledger.specs.Answer.{is_accepted}
use Rattle.move_ledger.specs.Nodes.{placed, Placing, node_edge}
use Rattle.move_ledger.specs.NodeLaws.{placed-length, placed_at}
use Rattle.move_ledger.proofs.NodeWalks.{cyclic-nodes}
use Rattle.move_area.specs.Bodies.{lane_at, atom_at}
use Rattle.move_area.specs.Area.{sets_in}
use Rattle.move_area.specs.Checked.{nodes_in, sets-length, ranged_placing}
use Rattle.move_slots.specs.SlotLaws.{Slotted, slotted_edge, slotted_ends}
use Rattle.move_free_walks.specs.Joins.{cut, Acyclic}
use Rattle.move_free_walks.specs.HowFree.{is_rejected, is_fixed, pairs}
use Rattle.move_free_walks.specs.HowFree as free
use Rattle.move_free_walks.specs.Sums.{atom_sum, atom_fixed}
use Rattle.move_free_walks.specs.Pairs.{atom_accepted, chunk_count}
use Rattle.move_free_walks.specs.NodeFree.{fine, counted}
use Rattle.move_free_walks.specs.ByMarks.{free_by}
use Rattle.move_free_walks.specs.AtomCount.{aside-ends, rest-none, rest_some}
use Rattle.move_free_walks.proofs.AtomCount.{marks-count, none-count, rest-free}
use Rattle.move_freedom.specs.declared.Counts.{Counts}
use Rattle.move_freedom.specs.Aside.{CanSetAside}
use Rattle.move_freedom.specs.Atoms.{place_in, counts_in, CanCounts, CanAskRest, CanCount, OfAtom, Counted, CanCountAll, CanCountAtom, CanFree, Freed}
use Rattle.move_freedom.specs.Tally.{has_atom}
use Rattle.move_freedom.specs.Walks.{CanOpen}

more_than : (k : ℕ) → not (eqb k 0) ≡ ltb 0 k
more_than k = go (eqb k 0) refl
  where
    go : (t : Bool) → eqb k 0 ≡ t → not t ≡ ltb 0 k
    go true e = sym (ap (ltb 0) (eqb-true k 0 e))
    go false e = sym (lt-ltb 0 k (let d = eqb-false k 0 e in omega arith))

-- the atom counts of the registered sets
pub counts_part : {n : ℕ} {area : List ℕ} → CanCounts area n → take (get_or area (n * n) 0) (drop (lane_at n 8) area) ≡ counts_in n area
counts_part {n} {area} can =
    let q : lane_at n 8 + get_or area (n * n) 0 - lane_at n 8 ≡ get_or area (n * n) 0 = omega arith in
    subst (λ k. take k (drop (lane_at n 8) area) ≡ part (lane_at n 8) k area) q (mid_part (lane_at n 8) (lane_at n 8 + get_or area (n * n) 0) area (omega arith) (omega (arith, can.inside)))

-- they are those of the placement
occupied-counts : (load : Load) (n : ℕ) (area : List ℕ) (X : ℕ) → X < get_or area (n * n) 0 → get_or area (lane_at n 8 + X) 0 ≡ members load (nodes_in load n area) X → has_atom (counts_in n area) X ≡ occupied load (nodes_in load n area) X
occupied-counts load n area X b e = ap (λ k. not (eqb k 0)) (part_at (lane_at n 8) (get_or area (n * n) 0) area X b ∙ e) ∙ more_than (members load (nodes_in load n area) X)

module _ {load : Load} {n : ℕ} {area : List ℕ} {atom : ℕ} (can : CanCount load n area atom) where
  abbrev z : ℕ
  z = get_or area (n * n) 0

  abbrev nodes : List ℕ
  nodes = nodes_in load n area

  abbrev sets : List ℕ
  sets = sets_in n area

  small : n ≤ 1024
  small = can.loadable.sizes.sets

  p : Placing load nodes sets
  p = ranged_placing small can.ranged

  many : length sets ≡ z
  many = sets-length n area

  few : z ≤ 1024
  few = omega (arith, can.ranged.few, small)

  range : (x : ℕ) → x < length sets → at sets x < 2 ^ load.E
  range x b = can.ranged.range x (omega (arith, many))

  narrow : length sets + 1 ≤ none
  narrow = omega (arith, many, few)

  pub counts_asks : CanCounts area n
  counts_asks = record { head = omega (arith, can.loadable.sizes.area); inside = omega (arith, can.ranged.few, can.loadable.sizes.area) }

  counted_long : {counts : List ℕ} → counts ≡ counts_in n area → length counts ≡ z
  counted_long c = ap length c ∙ part_long (lane_at n 8) z area

  own_node : at nodes atom ≡ get_or area (atom_at n + atom) 0
  own_node = part_at (atom_at n) load.A area atom can.there

  pub aside_asks : {s t : List ℕ} → length s ≡ 8448 → length t ≡ 8448 → CanSetAside load n area atom s t
  aside_asks a b = record {
    loadable = can.loadable;
    few = can.ranged.few;
    nodes = λ i l. omega (arith, part_at (atom_at n) load.A area i l, can.ranged.nodes i l);
    there = can.there;
    sources_long = omega (arith, can.loadable.sizes.entries, can.loadable.sizes.bits);
    targets_long = omega (arith, can.loadable.sizes.entries, can.loadable.sizes.bits);
  }

  module _ {s t : List ℕ} (long : length s ≡ 8448) (wide : length t ≡ 8448) (v : Slotted load (set (nodes_in load n area) atom (get_or area (n * n) 0)) (sets_in n area) s t) where
    abbrev m : ℕ
    m = load.D + load.E

    short : m ≤ 8448
    short = omega (arith, can.loadable.sizes.entries, can.loadable.sizes.bits)

    -- the slots are those with the atom behind all sets
    slots : Slotted load (set nodes atom (length sets)) sets s t
    slots = subst (λ k. Slotted load (set nodes atom k) sets s t) (sym many) v

    edges : slot_edge s t m ≡ node_edge load (set nodes atom (length sets)) sets
    edges = slotted_edge slots

    ends : Ends s t (z + 1) m
    ends = subst (λ k. Ends s t (k + 1) m) many (slotted_ends slots (aside-ends can.loadable.order p range narrow atom can.there))

    pub rest_asks : {counts : List ℕ} → counts ≡ counts_in n area → CanAskRest area n s t (load.D + load.E) (length counts)
    rest_asks c =
        rw (counted_long c)
        (record {
          rest = record { slots = short; sources = omega (arith, short); targets = omega (arith, short); ends = ends; nodes = few; some = omega (arith, can.ranged.nodes atom can.there) };
          inside = omega (arith, can.loadable.sizes.area);
        })

    pub open_asks : {counts : List ℕ} → counts ≡ counts_in n area → CanOpen counts s t (load.D + load.E)
    open_asks c = record { slots = short; sources = omega (arith, short); targets = omega (arith, short); ends = rw (counted_long c) ends; few = omega (arith, counted_long c, few) }

    abbrev cut_cyclic : Bool
    cut_cyclic = cyclic (cut (slot_edge s t m) z) (below z)

    there-cyclic : cyclic (cut (slot_edge s t m) z) (below z) ≡ cyclic (cut (node_edge load (set nodes atom (length sets)) sets) (length sets)) (below (length sets))
    there-cyclic = ap₂ (λ (f : ℕ → ℕ → Bool) k. cyclic (cut f k) (below k)) edges (sym many)

    flag-free : (get_or area (n * n + 2) 0 ≡ 0 → ⊥) → cyclic (edge load (placed nodes sets)) (placed nodes sets) ≡ false
    flag-free h = sym (cyclic-nodes can.loadable.order p n (omega (arith, many, can.ranged.few))) ∙ go (cyclic (node_edge load nodes sets) (below n)) can.worked.acyclic
      where
        go : (c : Bool) → get_or area (n * n + 2) 0 ≡ ind (not c) → c ≡ false
        go true e = absurd (h e)
        go false e = refl

    module _ {counts : List ℕ} (c : counts ≡ counts_in n area) {r : Bool} (e : r ≡ (eqb (get_or area (n * n + 2) 0) 0 && cyclic (cut (slot_edge s t (load.D + load.E)) (length counts)) (below (length counts)))) where
      told : r ≡ (eqb (get_or area (n * n + 2) 0) 0 && cut_cyclic)
      told = rw (counted_long c) at e

      pub count_none : r ≡ true → 0 ≡ counted load (nodes_in load n area) atom (length (sets_in n area)) (fine load (nodes_in load n area) (sets_in n area) atom)
      count_none h =
          sym (none-count can.loadable.order p range narrow atom can.there
          (rest_some can.loadable.order p range narrow atom can.there (sym there-cyclic ∙ and_right (eqb (get_or area (n * n + 2) 0) 0) _ (sym told ∙ h))))

      module _ (h : r ≡ false) where
        free-rest : Acyclic (cut (node_edge load (set nodes atom (length sets)) sets) (length sets))
        free-rest = go (eqb (get_or area (n * n + 2) 0) 0) refl
          where
            go : (f : Bool) → eqb (get_or area (n * n + 2) 0) 0 ≡ f → Acyclic (cut (node_edge load (set nodes atom (length sets)) sets) (length sets))
            go true q = rest-none can.loadable.order p range narrow atom can.there (sym there-cyclic ∙ sym (ap (λ f. f && cut_cyclic) q) ∙ sym told ∙ h)
            go false q = rest-free can.loadable.order p range narrow atom can.there (flag-free (eqb-false _ _ q))

        pub count_open : {own k : ℕ} → own ≡ get_or area (atom_at n + atom) 0
            → k ≡ count (λ X. has_atom counts X && (not (eqb X own) && free_by (slot_edge s t (load.D + load.E)) (length counts) (length counts + 1) X)) (length counts)
            → k ≡ counted load (nodes_in load n area) atom (length (sets_in n area)) (fine load (nodes_in load n area) (sets_in n area) atom)
        unfolding counted
        count_open {own} {k} q f =
            (rw (counted_long c) at f) ∙ count_ext _ _ z same
            ∙ ap₂ (λ (g : ℕ → ℕ → Bool) j. count (λ X. occupied load nodes X && (not (eqb X (at nodes atom)) && free_by g j (j + 1) X)) j) edges (sym many)
            ∙ sym (marks-count can.loadable.order p range narrow atom can.there free-rest)
          where
            same : (X : ℕ) → X < z
                → (has_atom counts X && (not (eqb X own) && free_by (slot_edge s t m) z (z + 1) X)) ≡ (occupied load nodes X && (not (eqb X (at nodes atom)) && free_by (slot_edge s t m) z (z + 1) X))
            same X b = rw (c, occupied-counts load n area X b (can.worked.counts X (omega (arith, can.ranged.few))), q, own_node) refl

pub counted_zero : (load : Load) (fixed place : List ℕ) → Counted load fixed place 0 (record { accepted = 0; rejected = 0; fixed = 0 })
counted_zero load fixed place = record { accepted = sym (total-none _); rejected = sym (total-none _); fixed = sym (total-none _) }

pub counted_next : {load : Load} {fixed place : List ℕ} {k each : ℕ} {all one : Counts} → Counted load fixed place k all → OfAtom load fixed place k each one
    → {k' : ℕ} {all' : Counts} → k' ≡ k + 1 → all'.accepted ≡ all.accepted + one.accepted → all'.rejected ≡ all.rejected + one.rejected → all'.fixed ≡ all.fixed + one.fixed → Counted load fixed place k' all'
counted_next {load} {fixed} {place} {k} v o e f g h = record {
  accepted = omega (arith, f, v.accepted, o.accepted, total-more (free.targets load fixed place is_accepted) k, ap (total (free.targets load fixed place is_accepted)) e);
  rejected = omega (arith, g, v.rejected, o.rejected, total-more (free.targets load fixed place is_rejected) k, ap (total (free.targets load fixed place is_rejected)) e);
  fixed = omega (arith, h, v.fixed, o.fixed, total-more (free.targets load fixed place is_fixed) k, ap (total (free.targets load fixed place is_fixed)) e);
}

pub counted_upto : {load : Load} {fixed place : List ℕ} {k m : ℕ} {all : Counts} → Counted load fixed place k all → k ≡ m → Counted load fixed place m all
counted_upto {load} {fixed} {place} {k} {m} {all} v e = subst (λ j. Counted load fixed place j all) e v

module _ {load : Load} {fixed : List ℕ} {n : ℕ} {area : List ℕ} {atom each : ℕ} (can : CanCountAtom load fixed n area atom each) where
  pub atom_asks : CanCount load n area atom
  atom_asks = record { loadable = can.all.loadable; ranged = can.all.ranged; worked = can.all.worked; there = can.there }

  long : length (place_in load n area) ≡ load.A
  long = placed-length (nodes_in load n area) (sets_in n area) ∙ (p atom_asks).atoms

  in_range : (i : ℕ) → i < load.A → at (place_in load n area) i < 2 ^ load.E
  in_range i b =
      subst (λ k. k < 2 ^ load.E) (sym (placed_at (nodes_in load n area) (sets_in n area) i (omega (arith, (p atom_asks).atoms))))
      (range atom_asks (at (nodes_in load n area) i) ((p atom_asks).inside i b))

  whole : free.targets load fixed (place_in load n area) is_accepted atom + free.targets load fixed (place_in load n area) is_rejected atom + free.targets load fixed (place_in load n area) is_fixed atom ≡ each
  whole = atom_sum load fixed (place_in load n area) long in_range atom can.there ∙ sym can.all.others

  -- a fixed atom
  pub atom_stays : (get_or fixed atom 0 ≡ 0 → ⊥) → OfAtom load fixed (place_in load n area) atom each (record { accepted = 0; rejected = 0; fixed = each })
  atom_stays h =
      let e : free.targets load fixed (place_in load n area) is_fixed atom ≡ each =
      atom_fixed load fixed (place_in load n area) long in_range atom can.there ∙ ap (λ t. cond (not t) (length (rising (place_in load n area)) - 1) 0) (ne_eqb (get_or fixed atom 0) 0 h) ∙ sym can.all.others in
      record { accepted = omega (arith, whole); rejected = omega (arith, whole); fixed = sym e; sum = omega arith }

  -- no atom has more sets than there are
  pub atom_few : {k : ℕ} → k ≡ counted load (nodes_in load n area) atom (length (sets_in n area)) (fine load (nodes_in load n area) (sets_in n area) atom) → k ≤ each
  atom_few q =
      omega (arith, q, can.all.others, atom_accepted load [] (p atom_asks) (range atom_asks) atom can.there, atom_sum load [] (place_in load n area) long in_range atom can.there)

  -- another
  module _ (h : get_or fixed atom 0 ≡ 0) {k : ℕ} (q : k ≡ counted load (nodes_in load n area) atom (length (sets_in n area)) (fine load (nodes_in load n area) (sets_in n area) atom)) where
    taken : k ≡ free.targets load fixed (place_in load n area) is_accepted atom
    taken =
        q ∙ sym (atom_accepted load fixed (p atom_asks) (range atom_asks) atom can.there
        ∙ ap (λ t. cond (not t) 0 (counted load (nodes_in load n area) atom (length (sets_in n area)) (fine load (nodes_in load n area) (sets_in n area) atom))) (eq-eqb (get_or fixed atom 0) 0 h))

    unfixed : free.targets load fixed (place_in load n area) is_fixed atom ≡ 0
    unfixed = atom_fixed load fixed (place_in load n area) long in_range atom can.there ∙ ap (λ t. cond (not t) (length (rising (place_in load n area)) - 1) 0) (eq-eqb (get_or fixed atom 0) 0 h)

    pub atom_moves : OfAtom load fixed (place_in load n area) atom each (record { accepted = k; rejected = each - k; fixed = 0 })
    atom_moves = record { accepted = taken; rejected = omega (arith, whole, taken, unfixed); fixed = sym unfixed; sum = omega (arith, whole, taken) }

module _ {load : Load} {fixed : List ℕ} {n : ℕ} {area : List ℕ} (can : CanFree load fixed n area) where
  placing : Placing load (nodes_in load n area) (sets_in n area)
  placing = ranged_placing can.loadable.sizes.sets can.ranged

  pub plan_counts : CanCounts area n
  plan_counts = record { head = omega (arith, can.loadable.sizes.area); inside = omega (arith, can.ranged.few, can.loadable.sizes.area) }

  chunks_are : {counts : List ℕ} → counts ≡ counts_in n area → count (has_atom counts) (length counts) ≡ length (rising (place_in load n area))
  chunks_are {counts} c =
      let long : length counts ≡ get_or area (n * n) 0 = ap length c ∙ part_long (lane_at n 8) (get_or area (n * n) 0) area in
      (rw (long, c) (count_ext _ (λ x. occupied load (nodes_in load n area) x) (get_or area (n * n) 0) (λ x b. occupied-counts load n area x b (can.worked.counts x (omega (arith, can.ranged.few))))))
      ∙ ap (count (λ x. occupied load (nodes_in load n area) x)) (sym (sets-length n area)) ∙ sym (chunk_count load fixed placing (λ x b. can.ranged.range x (omega (arith, sets-length n area))))

  pub all_asks : {counts : List ℕ} {each : ℕ} → counts ≡ counts_in n area → each ≡ count (has_atom counts) (length counts) - 1 → CanCountAll load fixed n area each
  all_asks {counts} c e = record {
    loadable = can.loadable;
    ranged = can.ranged;
    worked = can.worked;
    marks = can.marks;
    others = e ∙ ap (λ k. k - 1) (chunks_are c);
    few = omega (arith, e, count_le (has_atom counts) (length counts), ap length c, part_long (lane_at n 8) (get_or area (n * n) 0) area, can.ranged.few, can.loadable.sizes.sets);
  }

  pub freed : {all : Counts} → Counted load fixed (place_in load n area) load.A all → Freed load fixed (place_in load n area) all
  unfolding pairs
  freed v = record { accepted = v.accepted; rejected = v.rejected; fixed = v.fixed }
