-- The graph that the area holds after `calc_chunk_dependencies`. Assumes nothing.
use Prim.Native.Nat.{ℕ, zero, suc, ◌+◌, ◌-◌, ◌*◌, ◌<◌, ◌≤◌}
use native.Mathlib.Omega.{arith}
use Rattle.std.proofs.Math.Decide.{ℕ_discrete, dec_lt}
use Rattle.std.specs.Prelude.{◌≡◌, ◌⊎◌, Bool, not, cond, ◌&&◌, ◌||◌, List, leb}
use Rattle.std.proofs.Math.Path.{refl, sym, ap}
use Rattle.std.proofs.Common.{◌∙◌, get_or-set_other}
use Rattle.std.proofs.Math.Logic.{inl, inr, ⊎_elim}
use Rattle.std.proofs.Math.Bool.{true, false}
use lib.ListN.{get_or, length, set}
use Rattle.std.proofs.Math.Dec.{eqb, ltb}
use Rattle.std.proofs.Math.Seq.{get_or-set_same}
use borrow.Author.Tests.{eqb-true, eqb-false, eq-eqb, ne_eqb, ltb-true, leb-true, lt-ltb, le-leb, not-true}
use Rattle.graphs.specs.Bools.{alike, or_cases, or_left, or_right, or_false, or_false_left, or_false_right, and_left, and_right, and_both}
use Rattle.graphs.specs.Lists.{some_give, some_take}
use Rattle.graphs.specs.Square.{index_lt, index-row, index_column}
use Rattle.entry_set.specs.LaneLaws.{lanes-same}
use Rattle.merge_state.specs.declared.Sizes.{Sizes}
use Rattle.merge_state.specs.State.{None, at}
use Rattle.merge_state.specs.Methods.{module_on, listed_on, calculated}
use Rattle.merge_area.specs.Layout.{cell, head, set_place, set_chunk, side, need, key, into, home, entry_chunk, entry_module}
use Rattle.merge_area.specs.Read.{entry, depends_in, home_in, log_in, read}
use Rattle.merge_state.specs.Pairs.{pairs-length, pairs-at}
use Rattle.merge_area.specs.Writes.{link, linked, calc_area}
use Rattle.merge_laws.specs.Can.{CanLink, CanLinked, CanCalc}
use Rattle.merge_laws.specs.Ordering.{depends-parts}
use Rattle.merge_laws.specs.Keeps.{Kept, linked_can, linked-all, calc_can, calc_same}
use Rattle.merge_reads.specs.Fields.{home_at, depends_on, effects_same, needs_same, log_same, sets_same, home_same, keys-same, mode_same, into-same}

-- the flag of chunks u and w is set
abbrev On : Sizes → List ℕ → ℕ → ℕ → Type 0
On z a u w = cell a (u * z.chunks + w) ≡ 0 → ⊥

-- chunk y is assigned, and another than x
abbrev Linked : ℕ → ℕ → Type 0
Linked x y = (y ≡ None → ⊥) × (x ≡ y → ⊥)

module _ (z : Sizes) (a : List ℕ) (x y : ℕ) (can : CanLink z a x y) where
  split : (t : Bool) → (eqb y None || eqb x y) ≡ t → (u w : ℕ) → u < z.chunks → w < z.chunks → On z (cond t a (set a (x * z.chunks + y) 1)) u w → On z a u w ⊎ ((u ≡ x) × (w ≡ y) × Linked x y)
  split true q u w b c h = inl h
  split false q u w b c h =
      let n = eqb-false y None (or_false_left (eqb y None) _ q) in
      elim (ℕ_discrete (u * z.chunks + w) (x * z.chunks + y)) [
        | yes e ↦ inr (index-row z.chunks u w x y c (can.to n) e, index_column z.chunks u w x y c (can.to n) e, (n, eqb-false x y (or_false_right (eqb y None) _ q)))
        | no e ↦ inl (λ k. h (get_or-set_other a (x * z.chunks + y) (u * z.chunks + w) 1 0 e ∙ k))
      ]

  link_cases : (u w : ℕ) → u < z.chunks → w < z.chunks → On z (link z a x y) u w → On z a u w ⊎ ((u ≡ x) × (w ≡ y) × Linked x y)
  unfolding link
  link_cases = split (eqb y None || eqb x y) refl

  link_stays : (i : ℕ) → (cell a i ≡ 0 → ⊥) → cell (link z a x y) i ≡ 0 → ⊥
  unfolding link
  link_stays i h = go (eqb y None || eqb x y)
    where
      go : (t : Bool) → cell (cond t a (set a (x * z.chunks + y) 1)) i ≡ 0 → ⊥
      go true k = h k
      go false k = elim (ℕ_discrete i (x * z.chunks + y)) [
        | yes e ↦ elim (dec_lt i (length a)) [
          | yes b ↦ omega (arith, get_or-set_same a (x * z.chunks + y) 1 0 (omega arith), ap (λ j. cell (set a (x * z.chunks + y) 1) j) e)
          | no b ↦ h (lib.ListN.get_or-eq_default a 0 (omega arith))
        ]
        | no e ↦ h (sym (get_or-set_other a (x * z.chunks + y) i 1 0 e) ∙ k)
      ]

  link-new : Linked x y → On z (link z a x y) x y
  unfolding link
  link-new n =
      let q : (eqb y None || eqb x y) ≡ false = or_false _ _ (ne_eqb y None n.0) (ne_eqb x y n.1) in
      rw q (λ k. omega (arith, get_or-set_same a (x * z.chunks + y) 1 0 (omega (arith, index_lt z.chunks x y can.from (can.to n.0), can.long))))

-- the links of one list entry
module _ (z : Sizes) (deps : List ℕ) (x from : ℕ) (a : List ℕ) (n : ℕ) (can : CanLinked z a deps x from n) where
  -- the chunk of the j-th dependency
  abbrev to : ℕ → ℕ
  to j = cell a (home z (get_or deps (from + j) 0))

  kept : (j : ℕ) → j ≤ n → Kept z a (linked z deps x from a j)
  kept j h = linked-all z deps x from a j (record { within = can.within; long = can.long; chunk = can.chunk; homed = can.homed; part = omega (arith, can.part); modules = can.modules })

  to_same : (j : ℕ) → j ≤ n → (i : ℕ) → cell (linked z deps x from a j) (home z (get_or deps (from + i) 0)) ≡ to i
  to_same j h i = (kept j h).beyond (home z (get_or deps (from + i) 0)) (omega arith)

  next : (j : ℕ) → j < n → CanLink z (linked z deps x from a j) x (cell (linked z deps x from a j) (home z (get_or deps (from + j) 0)))
  next j h = linked_can z deps x from a n can (linked z deps x from a j) j refl h

  linked_cases : (j : ℕ) → j ≤ n → (u w : ℕ) → u < z.chunks → w < z.chunks → On z (linked z deps x from a j) u w → On z a u w ⊎ ((u ≡ x) × Linked x w × ((i : ℕ) × (i < j) × (to i ≡ w)))
  unfolding linked
  linked_cases zero l u w b c h = inl h
  linked_cases (suc j) l u w b c h =
      let r = linked z deps x from a j in
      let y = cell r (home z (get_or deps (from + j) 0)) in
      let e : y ≡ to j = to_same j (omega arith) j in
      ⊎_elim
      (λ (k : On z r u w). ⊎_elim (λ m. inl m) (λ m. inr (m.0, m.1, (m.2.0, omega (arith, m.2.1), m.2.2))) (linked_cases j (omega arith) u w b c k))
      (λ (k : (u ≡ x) × (w ≡ y) × Linked x y). inr (k.0, ((λ q. k.2.0 (sym k.1 ∙ q)), λ q. k.2.1 (q ∙ k.1)), (j, omega arith, sym e ∙ sym k.1)))
      (link_cases z r x y (next j (omega arith)) u w b c h)

  linked-stays : (j : ℕ) → j ≤ n → (i : ℕ) → (cell a i ≡ 0 → ⊥) → cell (linked z deps x from a j) i ≡ 0 → ⊥
  unfolding linked
  linked-stays zero l i h = h
  linked-stays (suc j) l i h =
      let r = linked z deps x from a j in
      link_stays z r x (cell r (home z (get_or deps (from + j) 0))) (next j (omega arith)) i (linked-stays j (omega arith) i h)

  linked-new : (j : ℕ) → j ≤ n → (w i : ℕ) → i < j → to i ≡ w → Linked x w → On z (linked z deps x from a j) x w
  unfolding linked
  linked-new zero l w i h e k = absurd (omega arith)
  linked-new (suc j) l w i h e k =
      let r = linked z deps x from a j in
      let y = cell r (home z (get_or deps (from + j) 0)) in
      elim (ℕ_discrete i j) [
        | yes q ↦
            let f : y ≡ w = to_same j (omega arith) j ∙ ap to (sym q) ∙ e in
            rw (← f) (link-new z r x y (next j (omega arith)) (rw f k))
        | no q ↦ link_stays z r x y (next j (omega arith)) (x * z.chunks + w) (linked-new j (omega arith) w i (omega arith) e k)
      ]

-- the links of the list entries
module _ (z : Sizes) (starts deps a : List ℕ) (used : ℕ) (can : CanCalc z a starts deps used) where
  -- list entry i's chunk and module, and where the module's dependencies start
  abbrev lister : ℕ → ℕ
  lister i = cell a (entry_chunk z i)

  abbrev member : ℕ → ℕ
  member i = cell a (entry_module z i)

  abbrev start : ℕ → ℕ
  start m = get_or starts m 0

  -- list entry i gives chunk w
  pub record Gives (i w : ℕ) : Type 0 where
    pub place : ℕ
    pub after : start (member i) ≤ place
    pub before : place < start (member i + 1)
    pub there : cell a (home z (get_or deps place 0)) ≡ w

  -- the next entry's turn
  abbrev sofar : ℕ → List ℕ
  sofar i = calc_area z starts deps a i

  same : (i : ℕ) → i ≤ used → Kept z a (sofar i)
  same i h = calc_same z starts deps a used can (sofar i) i refl h

  abbrev size : ℕ → ℕ
  size i = start (member i + 1) - start (member i)

  turn : (i : ℕ) → i < used → sofar (suc i) ≡ linked z deps (lister i) (start (member i)) (sofar i) (size i)
  unfolding calc_area
  turn i h = let k = same i (omega arith) in rw (k.beyond (entry_module z i) (omega arith), k.beyond (entry_chunk z i) (omega arith))

  turn_can : (i : ℕ) → i < used → CanLinked z (sofar i) deps (lister i) (start (member i)) (size i)
  turn_can i h =
      let k = same i (omega arith) in
      rw (k.beyond (entry_module z i) (omega arith), k.beyond (entry_chunk z i) (omega arith)) at (calc_can z starts deps a used can (sofar i) i refl h)

  calc_cases : (i : ℕ) → i ≤ used → (u w : ℕ) → u < z.chunks → w < z.chunks → On z (sofar i) u w → On z a u w ⊎ ((k : ℕ) × (k < i) × (u ≡ lister k) × Linked u w × Gives k w)
  unfolding calc_area
  calc_cases zero l u w b c h = inl h
  calc_cases (suc i) l u w b c h =
      ⊎_elim
      (λ (k : On z (sofar i) u w). ⊎_elim (λ m. inl m) (λ m. inr (m.0, omega (arith, m.1), m.2, m.3, m.4)) (calc_cases i (omega arith) u w b c k))
      (λ (k : (u ≡ lister i) × Linked (lister i) w × ((j : ℕ) × (j < size i) × (cell (sofar i) (home z (get_or deps (start (member i) + j) 0)) ≡ w))).
      inr (
        i,
        omega arith,
        k.0,
        (k.1.0, λ q. k.1.1 (sym k.0 ∙ q)),
        record {
          place = start (member i) + k.2.0;
          after = omega arith;
          before = omega (arith, k.2.1);
          there = sym ((same i (omega arith)).beyond (home z (get_or deps (start (member i) + k.2.0) 0)) (omega arith)) ∙ k.2.2;
        },
      ))
      (linked_cases z deps (lister i) (start (member i)) (sofar i) (size i) (turn_can i (omega arith)) (size i) (omega arith) u w b c (rw (turn i (omega arith)) at h))

  calc_stays : (i : ℕ) → i ≤ used → (j : ℕ) → (cell a j ≡ 0 → ⊥) → cell (sofar i) j ≡ 0 → ⊥
  unfolding calc_area
  calc_stays zero l j h = h
  calc_stays (suc i) l j h =
      rw (turn i (omega arith)) (linked-stays z deps (lister i) (start (member i)) (sofar i) (size i) (turn_can i (omega arith)) (size i) (omega arith) j (calc_stays i (omega arith) j h))

  calc_new : (i : ℕ) → i ≤ used → (k w : ℕ) → k < i → Linked (lister k) w → Gives k w → On z (sofar i) (lister k) w
  calc_new zero l k w h n g = absurd (omega arith)
  calc_new (suc i) l k w h n g = rw (turn i (omega arith)) (elim (ℕ_discrete k i) [
    | yes q ↦
        let e : start (member i) + (g.place - start (member i)) ≡ g.place = rw (← q) (omega (arith, g.after)) in
        let f : cell (sofar i) (home z (get_or deps (start (member i) + (g.place - start (member i))) 0)) ≡ w =
        rw e ((same i (omega arith)).beyond (home z (get_or deps g.place 0)) (omega arith) ∙ g.there) in
        rw q (linked-new z deps (lister i) (start (member i)) (sofar i) (size i) (turn_can i (omega arith)) (size i) (omega arith) w (g.place - start (member i))
        (rw (← q) (omega (arith, g.after, g.before))) f (rw q at n))
    | no q ↦ linked-stays z deps (lister i) (start (member i)) (sofar i) (size i) (turn_can i (omega arith)) (size i) (omega arith) (lister k * z.chunks + w) (calc_new i (omega arith) k w (omega arith) n g)
  ])

module _ (z : Sizes) (starts deps a : List ℕ) (can : CanCalc z a starts deps (cell a (head z 4))) where
  abbrev used : ℕ
  used = cell a (head z 4)

  abbrev end : List ℕ
  end = calc_area z starts deps a used

  -- a listed module of chunk x has a dependency in chunk y
  abbrev Listed : ℕ → ℕ → Type 0
  Listed x y = (k : ℕ) × (k < used) × (x ≡ cell a (entry_chunk z k)) × Gives z starts deps a used can k y

  lists : (x y : ℕ) → Listed x y → listed_on (read z a) starts deps x y ≡ true
  unfolding listed_on module_on
  lists x y g =
      let k = g.0 in
      let e = pairs-at (entry z a) used k g.1 in
      let p = g.3.place in
      let m = cell a (entry_module z k) in
      let mm : m < z.modules = can.listed k g.1 in
      let pd : p < length deps = omega (arith, g.3.before, can.ends (m + 1) (omega arith)) in
      some_give (λ i. eqb (at (log_in z a) i).0 x && module_on (read z a) starts deps (at (log_in z a) i).1 y) (length (log_in z a)) k (omega (arith, g.1, pairs-length (entry z a) used))
      (rw e (and_both _ _ (eq-eqb _ x (sym g.2))
      (some_give (λ i. (leb (get_or starts m 0) i && ltb i (get_or starts (m + 1) 0)) && eqb (home_in z a (get_or deps i 0)) y) (length deps) p pd
      (and_both _ _ (and_both _ _ (le-leb _ p g.3.after) (lt-ltb p _ g.3.before)) (eq-eqb _ y (home_at z a (get_or deps p 0) (can.modules p pd) ∙ g.3.there))))))

  -- a dependency of module m in chunk y
  found : (m y : ℕ) → module_on (read z a) starts deps m y ≡ true → (p : ℕ) × (get_or starts m 0 ≤ p) × (p < get_or starts (m + 1) 0) × (cell a (home z (get_or deps p 0)) ≡ y)
  unfolding module_on
  found m y h =
      let t = some_take (λ i. (leb (get_or starts m 0) i && ltb i (get_or starts (m + 1) 0)) && eqb (home_in z a (get_or deps i 0)) y) (length deps) h in
      at_place t.0 t.1 t.2
    where
      at_place : (p : ℕ) → p < length deps → ((leb (get_or starts m 0) p && ltb p (get_or starts (m + 1) 0)) && eqb (home_in z a (get_or deps p 0)) y) ≡ true
          → (p : ℕ) × (get_or starts m 0 ≤ p) × (p < get_or starts (m + 1) 0) × (cell a (home z (get_or deps p 0)) ≡ y)
      at_place p b k =
          let q = and_left (leb (get_or starts m 0) p && ltb p (get_or starts (m + 1) 0)) _ k in (
            p,
            leb-true _ p (and_left (leb (get_or starts m 0) p) _ q),
            ltb-true p _ (and_right (leb (get_or starts m 0) p) _ q),
            sym (home_at z a (get_or deps p 0) (can.modules p b)) ∙ eqb-true _ y (and_right (leb (get_or starts m 0) p && ltb p (get_or starts (m + 1) 0)) _ k),
          )

  listed : (x y : ℕ) → listed_on (read z a) starts deps x y ≡ true → Listed x y
  unfolding listed_on
  listed x y h =
      let r = some_take (λ i. eqb (at (log_in z a) i).0 x && module_on (read z a) starts deps (at (log_in z a) i).1 y) (length (log_in z a)) h in
      at_entry r.0 (omega (arith, r.1, pairs-length (entry z a) used)) r.2
    where
      at_entry : (k : ℕ) → k < used → (eqb (at (log_in z a) k).0 x && module_on (read z a) starts deps (at (log_in z a) k).1 y) ≡ true → Listed x y
      at_entry k b h =
          let f : (eqb (cell a (entry_chunk z k)) x && module_on (read z a) starts deps (cell a (entry_module z k)) y) ≡ true = rw (pairs-at (entry z a) used k b) at h in
          let t = found (cell a (entry_module z k)) y (and_right (eqb (cell a (entry_chunk z k)) x) _ f) in
          (k, b, sym (eqb-true _ x (and_left (eqb (cell a (entry_chunk z k)) x) _ f)), record { place = t.0; after = t.1; before = t.2; there = t.3 })

  depends_calc : (x y : ℕ) → depends_in z end x y ≡ (depends_in z a x y || ((not (eqb y None) && not (eqb x y)) && listed_on (read z a) starts deps x y))
  depends_calc x y = alike _ _ there back
    where
      there : depends_in z end x y ≡ true → (depends_in z a x y || ((not (eqb y None) && not (eqb x y)) && listed_on (read z a) starts deps x y)) ≡ true
      there h =
          let p = depends-parts z end x y h in
          ⊎_elim (λ k. or_left _ _ (depends_on z a x y p.0 p.1 k))
          (λ (k : (k : ℕ) × (k < used) × (x ≡ cell a (entry_chunk z k)) × Linked x y × Gives z starts deps a used can k y).
          or_right (depends_in z a x y) _ (and_both _ _ (and_both _ _ (ap not (ne_eqb y None k.3.0)) (ap not (ne_eqb x y k.3.1))) (lists x y (k.0, k.1, k.2, k.4))))
          (calc_cases z starts deps a used can used (omega arith) x y p.0 p.1 p.2)

      new : (y ≡ None → ⊥) → (x ≡ y → ⊥) → Listed x y → depends_in z end x y ≡ true
      new n d g =
          let t : y < z.chunks = rw g.3.there at (can.homed (get_or deps g.3.place 0) (can.modules g.3.place (omega (arith, g.3.before, can.ends (cell a (entry_module z g.0) + 1) (omega (arith, can.listed g.0 g.1))))) (λ q. n (sym g.3.there ∙ q))) in
          depends_on z end x y (rw g.2 (can.chunks g.0 g.1)) t
          (rw g.2 (calc_new z starts deps a used can used (omega arith) g.0 y g.1 (n, λ q. d (g.2 ∙ q)) g.3))

      back : (depends_in z a x y || ((not (eqb y None) && not (eqb x y)) && listed_on (read z a) starts deps x y)) ≡ true → depends_in z end x y ≡ true
      back h =
          ⊎_elim (λ k. let p = depends-parts z a x y k in depends_on z end x y p.0 p.1 (calc_stays z starts deps a used can used (omega arith) (x * z.chunks + y) p.2))
          (λ k. let d = and_left (not (eqb y None) && not (eqb x y)) _ k in
          new (eqb-false y None (not-true _ (and_left (not (eqb y None)) _ d))) (eqb-false x y (not-true _ (and_right (not (eqb y None)) _ d))) (listed x y (and_right (not (eqb y None) && not (eqb x y)) _ k)))
          (or_cases (depends_in z a x y) _ h)

  pub calc_length : length end ≡ length a
  calc_length = (calc_same z starts deps a used can end used refl (omega arith)).same

  pub read_calc : read z end ≡ calculated (read z a) starts deps
  unfolding calculated
  read_calc = λ i. record {
    initial = stay (head z 0) (omega arith) i;
    made = stay (head z 1) (omega arith) i;
    created = stay (head z 2) (omega arith) i;
    depends = λ x y. depends_calc x y i;
    effects = effects_same z a end (λ x l. stay (side z x) (omega arith)) i;
    needs = needs_same z a end (λ x l. stay (need z x) (omega arith)) i;
    log = log_same z a end (stay (head z 4) (omega arith)) (λ x l. (stay (entry_chunk z x) (omega arith), stay (entry_module z x) (omega arith))) i;
    sets = sets_same z a end (stay (head z 3) (omega arith)) (λ x l. (lanes-same end a (set_place z x) 1 (λ j k. stay (set_place z x + j * 1) (omega arith)), stay (set_chunk z x) (omega arith))) i;
    home = home_same z a end (λ x l. stay (home z x) (omega arith)) i;
    keys = keys-same z a end (λ x l. stay (key z x) (omega arith)) i;
    mode = mode_same z a end (stay (head z 5) (omega arith)) i;
    into = into-same z a end (stay (head z 5) (omega arith)) (λ x l. stay (into z x) (omega arith)) i;
  }
    where
      stay : (i : ℕ) → z.chunks * z.chunks ≤ i → cell end i ≡ cell a i
      stay i h = (calc_same z starts deps a used can end used refl (omega arith)).beyond i h
