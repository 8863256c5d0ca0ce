-- The states that an area can hold, and that each is read back from its area. Assumes nothing.
use Rattle.std.specs.Prelude.{◌≡◌, Bool, true, ◌&&◌, ℕ, ◌+◌, ◌*◌, ◌^◌, ◌≤◌, ◌<◌, ltb, leb}
use Rattle.std.proofs.Math.Path.{refl, sym, ap}
use Rattle.std.proofs.Common.{subst, ◌∙◌, ext_get_or, ltb-true, lt-ltb, leb-true, le-leb}
use mathlib.Core.List.{List}
use native.Mathlib.Omega.{arith}
use Rattle.std.proofs.Math.ListN.{length, get_or}
use Rattle.graphs.specs.Bools.{and_left, and_right, and_both}
use Rattle.graphs.specs.Lists.{all, has, all_take, all_give, has-at, has-place}
use Rattle.graphs.specs.Tab.{tab, tab-length, tab-at, is_tab}
use Rattle.layout.specs.Patch.{part, part_long, part_at}
use Rattle.entry_set.specs.Joined.{parts}
use Rattle.entry_set.specs.LaneLaws.{lanes_is}
use Rattle.entry_set.specs.SetLaws.{below_256}
use Rattle.move_ledger.specs.Ledger.{index}
use Rattle.move_ledger.specs.Places.{index-has}
use Rattle.move_ledger.specs.Graph.{Load, at}
use Rattle.move_ledger.specs.Sound.{Sound}
use Rattle.move_ledger.specs.Nodes.{placed}
use Rattle.move_ledger.specs.NodeLaws.{placed-length, placed_at}
use Rattle.move_area.specs.Bodies.{lane_at, atom_at, Sized}
use Rattle.move_area.specs.BodyLaws.{write_long, read-registered, read_counter, read-words, read-marks, read-nodes, write_again}
use Rattle.move_area.specs.Area.{State, bodies, encode, sets_in, decode, distinct, in_order, consistent}
use Rattle.move_area.specs.ListLaws.{alike_one, one_alike, Distinct, distinct_apart, apart_distinct}

-- a state that an area can hold
pub record Held (load : Load) (N : ℕ) (st : State) : Type 0 where
  pub sound : Sound load N st.ledger
  pub long : length st.marks ≡ N
  pub marks : (x : ℕ) → x < N → at st.marks x ≤ st.counter

pub held-distinct : {load : Load} {N : ℕ} {st : State} → Held load N st → Distinct st.ledger.registered
held-distinct h = record { apart = h.sound.distinct }

pub in_order-held : (load : Load) (N : ℕ) (st : State) → length st.ledger.place ≡ load.A → length st.marks ≡ N → in_order load N st ≡ true → Held load N st
unfolding in_order
in_order-held load N st e m h =
    record {
      sound =
          record {
            atoms = e;
            room = leb-true _ _ (and_left few _ h);
            distinct = (distinct_apart sets (and_left (distinct sets) _ h₁)).apart;
            in_range = λ i b. ltb-true _ _ (all_take (λ X. ltb X (2 ^ load.E)) sets (and_left range _ h₂) (at sets i) (has-at sets i b));
            registered = λ i b. all_take (λ X. has X sets) st.ledger.place (and_left placed _ h₃) (at st.ledger.place i) (has-at st.ledger.place i (omega arith));
          };
      long = m;
      marks = λ x b. leb-true _ _ (all_take (λ m. leb m st.counter) st.marks (and_right placed _ h₃) (at st.marks x) (has-at st.marks x (omega arith)));
    }
  where
    sets : List ℕ
    sets = st.ledger.registered

    few : Bool
    few = leb (length sets) N

    range : Bool
    range = all (λ X. ltb X (2 ^ load.E)) sets

    placed : Bool
    placed = all (λ X. has X sets) st.ledger.place

    marked : Bool
    marked = all (λ m. leb m st.counter) st.marks

    h₁ : (distinct sets && (range && (placed && marked))) ≡ true
    h₁ = and_right few _ h

    h₂ : (range && (placed && marked)) ≡ true
    h₂ = and_right (distinct sets) _ h₁

    h₃ : (placed && marked) ≡ true
    h₃ = and_right range _ h₂

pub held-in_order : {load : Load} {N : ℕ} {st : State} → Held load N st → in_order load N st ≡ true
unfolding in_order
held-in_order {load} {N} {st} h =
    and_both (leb (length sets) N) _ (le-leb _ _ h.sound.room)
    (and_both (distinct sets) _ (apart_distinct sets (held-distinct h))
    (and_both (all (λ X. ltb X (2 ^ load.E)) sets) _ (all_give (λ X. ltb X (2 ^ load.E)) sets (λ X m.
    let r = has-place X sets m in lt-ltb _ _ (subst (λ z. z < 2 ^ load.E) r.2 (h.sound.in_range r.0 r.1))))
    (and_both (all (λ X. has X sets) place) _ (all_give (λ X. has X sets) place (λ X m.
    let r = has-place X place m in subst (λ z. has z sets ≡ true) r.2 (h.sound.registered r.0 (omega (arith, r.1, h.sound.atoms)))))
    (all_give (λ m. leb m st.counter) st.marks (λ m k.
    let r = has-place m st.marks k in le-leb _ _ (subst (λ z. z ≤ st.counter) r.2 (h.marks r.0 (omega (arith, r.1, h.long)))))))))
  where
    sets : List ℕ
    sets = st.ledger.registered

    place : List ℕ
    place = st.ledger.place

-- what is worked out of a state fits its places
pub bodies-sized : {load : Load} {N : ℕ} {st : State} → Held load N st → Sized N load.A (bodies load N st)
unfolding bodies
bodies-sized {load} {N} {st} h =
    record {
      edges = tab-length _ (N * N);
      few = h.sound.room;
      words = λ j b. tab-length _ _;
      counts = tab-length _ N;
      marks = h.long;
      component = tab-length _ N;
      nodes = tab-length _ load.A;
    }

module _ (load : Load) (N : ℕ) (st : State) (h : Held load N st) (l : List ℕ) (room : atom_at N + load.A ≤ length l) where
  pub encode_long : length (encode load N st l) ≡ length l
  unfolding encode
  encode_long = write_long N (bodies load N st) l

  module _ (bits : load.E ≤ 256) where
    abbrev sets : List ℕ
    sets = st.ledger.registered

    wide : (x : ℕ) → x < length sets → at sets x < 2 ^ 256
    wide x b = below_256 bits (h.sound.in_range x b)

    word : (x : ℕ) → x < length sets → (j : ℕ) → j < 8 → get_or (encode load N st l) (lane_at N 0 + x + j * N) 0 ≡ get_or (parts 32 8 (at sets x)) j 0
    unfolding encode bodies tab
    word x b j k =
        let e : lane_at N j + x ≡ lane_at N 0 + x + j * N = omega arith in
        let r = read-words N load.A (bodies load N st) (bodies-sized h) l room j k in
        ap (λ i. get_or (encode load N st l) i 0) (sym e)
        ∙ sym (part_at (lane_at N j) (length sets) (encode load N st l) x b)
        ∙ ap (λ (u : List ℕ). get_or u x 0) r
        ∙ tab-at _ (length sets) x b

    is_sets : sets_in N (encode load N st l) ≡ sets
    unfolding sets_in encode bodies
    is_sets =
        let r = read-registered N load.A (bodies load N st) (bodies-sized h) l room in
        sym (is_tab sets (get_or (encode load N st l) (N * N) 0) _ (sym r) (λ x b.
        let c : x < length sets = omega (arith, r) in
        sym (lanes_is (encode load N st l) (lane_at N 0 + x) N (at sets x) (wide x c) (λ j k. word x c j k))))

    is_place : placed (part (atom_at N) load.A (encode load N st l)) (sets_in N (encode load N st l)) ≡ st.ledger.place
    unfolding encode bodies
    is_place =
        rw (is_sets, read-nodes N load.A (bodies load N st) (bodies-sized h) l room)
        (ext_get_or 0 _ st.ledger.place (placed-length _ sets ∙ tab-length _ load.A ∙ sym h.sound.atoms) (λ i b.
        let c : i < load.A = omega (arith, placed-length (tab (λ i. index (at st.ledger.place i) sets) load.A) sets, tab-length (λ i. index (at st.ledger.place i) sets) load.A) in
        placed_at (tab (λ i. index (at st.ledger.place i) sets) load.A) sets i (omega (arith, tab-length (λ i. index (at st.ledger.place i) sets) load.A))
        ∙ ap (at sets) (tab-at _ load.A i c)
        ∙ (index-has (at st.ledger.place i) sets (h.sound.registered i c)).1))

    pub decode-encode : decode load N (encode load N st l) ≡ st
    unfolding decode encode bodies
    decode-encode =
        rw (is_place, is_sets, read_counter N load.A (bodies load N st) (bodies-sized h) l room, read-marks N load.A (bodies load N st) (bodies-sized h) l room) refl

    pub encode_again : encode load N st (encode load N st l) ≡ encode load N st l
    unfolding encode
    encode_again = write_again N load.A (bodies load N st) (bodies-sized h) l room

    -- what is encoded is consistent
    pub encode-consistent : consistent load N (encode load N st l) ≡ true
    unfolding consistent
    encode-consistent =
        rw decode-encode (and_both (in_order load N st) _ (held-in_order h) (one_alike _ _ encode_again))

-- a consistent area holds a state, and is what that state is encoded as
module _ (load : Load) (N : ℕ) (area : List ℕ) (c : consistent load N area ≡ true) where
  pub consistent-held : Held load N (decode load N area)
  unfolding consistent decode
  consistent-held =
      in_order-held load N (decode load N area) (placed-length _ _ ∙ part_long (atom_at N) load.A area) (part_long (lane_at N 9) N area)
      (and_left (in_order load N (decode load N area)) _ c)

  pub consistent-whole : encode load N (decode load N area) area ≡ area
  unfolding consistent
  consistent-whole = alike_one _ _ (and_right (in_order load N (decode load N area)) _ c)
