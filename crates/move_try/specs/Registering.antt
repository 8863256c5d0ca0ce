-- Registering a set: an area that holds a state holds it with the set in the next place or in that of an empty one. Assumes nothing.
use Rattle.std.specs.Prelude.{◌≡◌, false, ℕ, ◌+◌, ◌*◌, ◌^◌, ◌≤◌, ◌<◌, length, set}
use Rattle.std.proofs.Math.Path.{refl, sym, ap}
use Rattle.std.proofs.Common.{subst, ◌∙◌, zero-add, mul-le-mul_right, ext_get_or}
use mathlib.Core.List.{List}
use native.Mathlib.Omega.{arith}
use Rattle.std.proofs.Math.Decide.{ℕ_discrete}
use Rattle.std.proofs.Math.ListN.{get_or, length-set}
use Rattle.std.proofs.Math.Seq.{get_or-set_same, get_or-set_other}
use Rattle.graphs.specs.Lists.{has}
use Rattle.graphs.specs.Tab.{tab, tab-length, tab-at, is_tab}
use Rattle.graphs.specs.Square.{index_column}
use Rattle.layout.specs.Patch.{part, part_long, part_at}
use Rattle.entry_set.specs.Joined.{parts}
use Rattle.entry_set.specs.JoinedLaws.{length-parts}
use Rattle.entry_set.specs.Lanes.{set_lanes}
use Rattle.entry_set.specs.LaneLaws.{length-set_strided, set_strided-other, set_strided-at}
use Rattle.move_ledger.specs.Graph.{Load, at, occupied}
use Rattle.move_ledger.specs.Ledger.{put}
use Rattle.move_ledger.specs.Places.{put_grows, put_most, put-there, put_same, put_other}
use Rattle.move_ledger.specs.Nodes.{Placing}
use Rattle.move_ledger.specs.NodePlaces.{placing_put, sources-put, targets-put}
use Rattle.move_area.specs.Bodies.{lane_at, atom_at, Bodies, write, Sized}
use Rattle.move_area.specs.NodeBodies.{Nodes, node_bodies}
use Rattle.move_try.specs.Stands.{Stands, nodes-sized, stands-sized, stands_long, counter_at, acyclic_at, occupied-at, distinct_at, edge_at, word_at, count_at, mark_at, component_at, node_at}
use Rattle.move_try.specs.Areas.{registered}
use Rattle.move_try.specs.Grown.{Free, is_write}

-- the words of two nodes in two lanes stand apart, and before the other lanes
apart : (n i j x r : ℕ) → x < n → r < n → (x ≡ r → ⊥) → n * n + 24 + i * n + x ≡ n * n + 24 + j * n + r → ⊥
apart n i j x r hx hr ne e = ne (index_column n i x j r hx hr (omega arith))

lane_below : (n j r : ℕ) → j < 8 → r < n → lane_at n j + r < lane_at n 8
lane_below n j r h hr = omega (arith, mul-le-mul_right {m = j} {n = 7} n (omega arith))

-- the cells after registering
module _ (n count r X : ℕ) (l : List ℕ) (hr : r < n) (room : atom_at n ≤ length l) where
  abbrev words : List ℕ
  words = set_lanes l (lane_at n 0 + r) n X

  abbrev counted : List ℕ
  counted = set words (n * n) count

  words_long : length words ≡ length l
  words_long = length-set_strided l (lane_at n 0 + r) n (parts 32 8 X)

  pub registered_long : length (registered n count r X l) ≡ length l
  unfolding registered
  registered_long = simp length-set words_long

  pub registered_far : (k : ℕ) → Free n r k → get_or (registered n count r X l) k 0 ≡ get_or l k 0
  unfolding registered
  registered_far k f =
      get_or-set_other counted (lane_at n 9 + r) k 0 0 f.mark ∙ get_or-set_other words (n * n) k count 0 f.header
      ∙ set_strided-other l (lane_at n 0 + r) n (parts 32 8 X) k (λ j h e. f.word j (omega (arith, length-parts 32 8 X)) (omega arith))

  pub registered_word : (j : ℕ) → j < 8 → get_or (registered n count r X l) (lane_at n j + r) 0 ≡ get_or (parts 32 8 X) j 0
  unfolding registered
  registered_word j h =
      let b = lane_below n j r h hr in
      let e : lane_at n 0 + r + j * n ≡ lane_at n j + r = omega arith in
      get_or-set_other counted (lane_at n 9 + r) (lane_at n j + r) 0 0 (omega arith) ∙ get_or-set_other words (n * n) (lane_at n j + r) count 0 (omega arith)
      ∙ ap (λ i. get_or words i 0) (sym e) ∙ set_strided-at l (lane_at n 0 + r) n (parts 32 8 X) j (omega arith) (omega (arith, length-parts 32 8 X)) (omega arith)

  pub registered-count : get_or (registered n count r X l) (n * n) 0 ≡ count
  unfolding registered
  registered-count = get_or-set_other counted (lane_at n 9 + r) (n * n) 0 0 (omega arith) ∙ get_or-set_same words (n * n) count 0 (omega (arith, words_long))

  pub registered_mark : get_or (registered n count r X l) (lane_at n 9 + r) 0 ≡ 0
  unfolding registered
  registered_mark = get_or-set_same counted (lane_at n 9 + r) 0 0 (omega (arith, words_long, length-set words (n * n) count))

-- the set T in place r, without a mark
abbrev pub with_set : Nodes → ℕ → ℕ → Nodes
with_set s r T = record { sets = put r T s.sets; nodes = s.nodes; counter = s.counter; marks = set s.marks r 0 }

-- T is unseen, and r is the next node or one that has no atom
module _ {load : Load} {N : ℕ} {s : Nodes} {l₀ l : List ℕ} (v : Stands load N s l₀ l) (r T : ℕ) (new : has T s.sets ≡ false) (within : r ≤ length s.sets)
    (free : r < N) (empty : occupied load s.nodes r ≡ false) (wide : T < 2 ^ 256) where
  abbrev sets' : List ℕ
  sets' = put r T s.sets

  abbrev l' : List ℕ
  l' = registered N (length (put r T s.sets)) r T l

  few : length sets' ≤ N
  few = put_most r T s.sets within N v.few free

  placing : Placing load s.nodes sets'
  placing = placing_put v.placing r T within empty new (omega (arith, few, v.small))

  long : length (set s.marks r 0) ≡ N
  long = length-set s.marks r 0 ∙ v.long

  sized : Sized N load.A (node_bodies load N (with_set s r T))
  sized = nodes-sized load N (with_set s r T) placing few long

  space : atom_at N ≤ length l
  space = omega (arith, v.room, stands_long v)

  far : (k : ℕ) → Free N r k → get_or l' k 0 ≡ get_or l k 0
  far = registered_far N (length sets') r T l free space

  -- a lane that isn't one of words or marks is as before
  kept : (b k : ℕ) (w : List ℕ) → length w ≡ k → ((x : ℕ) → x < k → get_or l (b + x) 0 ≡ get_or w x 0) → ((x : ℕ) → x < k → Free N r (b + x)) → part b k l' ≡ w
  kept b k w e h f = ext_get_or 0 (part b k l') w (part_long b k l' ∙ sym e) (λ x z. let y : x < k = omega (arith, part_long b k l') in part_at b k l' x y ∙ far (b + x) (f x y) ∙ h x y)

  lane_free : (j x : ℕ) → lane_at N 8 ≤ lane_at N j + x → (lane_at N j + x ≡ lane_at N 9 + r → ⊥) → Free N r (lane_at N j + x)
  lane_free j x b ne = record { header = λ e. omega arith; mark = ne; word = λ i h e. omega (arith, lane_below N i r h free) }

  -- and so are the other numbers of the header
  header_free : (i : ℕ) → 0 < i → i < 24 → Free N r (N * N + i)
  header_free i a b = record { header = λ e. omega arith; mark = λ e. omega arith; word = λ j q e. omega arith }

  abbrev b₀ : Bodies
  b₀ = node_bodies load N s

  abbrev b₁ : Bodies
  b₁ =
      record {
        edges = b₀.edges;
        header =
            record {
              registered = length (put r T s.sets);
              counter = s.counter;
              acyclic = b₀.header.acyclic;
              occupied = b₀.header.occupied;
              distinct = b₀.header.distinct;
            };
        words = λ j. tab (λ x. get_or (parts 32 8 (at (put r T s.sets) x)) j 0) (length (put r T s.sets));
        counts = b₀.counts;
        marks = set s.marks r 0;
        component = b₀.component;
        nodes = s.nodes;
      }

  same : b₁ ≡ node_bodies load N (with_set s r T)
  unfolding node_bodies
  same = rw (sources-put v.placing r T within empty, targets-put v.placing r T within empty) refl

  word : (j : ℕ) → j < 8 → part (lane_at N j) (length sets') l' ≡ tab (λ x. get_or (parts 32 8 (at sets' x)) j 0) (length sets')
  word j h = is_tab _ _ _ (part_long (lane_at N j) _ l') (λ x z. part_at (lane_at N j) (length sets') l' x z ∙ go x z (ℕ_discrete x r))
    where
      go : (x : ℕ) → x < length sets' → Dec (x ≡ r) → get_or l' (lane_at N j + x) 0 ≡ get_or (parts 32 8 (at sets' x)) j 0
      go x z (yes e) =
          ap (λ i. get_or l' (lane_at N j + i) 0) e ∙ registered_word N (length sets') r T l free space j h
          ∙ ap (λ X. get_or (parts 32 8 X) j 0) (sym (ap (at sets') e ∙ put_same r T s.sets within))
      go x z (no d) =
          let o = put_other r T s.sets within x z d in
          far (lane_at N j + x) (record {
            header = λ e. omega arith;
            mark = λ e. omega (arith, lane_below N j x h (omega (arith, few)));
            word = λ i q e. apart N j i x r (omega (arith, few)) free d e;
          })
          ∙ word_at v x o.0 j h ∙ ap (λ X. get_or (parts 32 8 X) j 0) (sym o.1)

  marks : part (lane_at N 9) N l' ≡ set s.marks r 0
  marks = ext_get_or 0 (part (lane_at N 9) N l') (set s.marks r 0) (part_long (lane_at N 9) N l' ∙ sym long) (λ x z.
      let y : x < N = omega (arith, part_long (lane_at N 9) N l') in part_at (lane_at N 9) N l' x y ∙ go x y (ℕ_discrete x r))
    where
      go : (x : ℕ) → x < N → Dec (x ≡ r) → get_or l' (lane_at N 9 + x) 0 ≡ get_or (set s.marks r 0) x 0
      go x y (yes e) =
          ap (λ i. get_or l' (lane_at N 9 + i) 0) e ∙ registered_mark N (length sets') r T l free space
          ∙ sym (ap (λ i. get_or (set s.marks r 0) i 0) e ∙ get_or-set_same s.marks r 0 0 (omega (arith, v.long)))
      go x y (no e) = far (lane_at N 9 + x) (lane_free 9 x (omega arith) (λ q. e (omega arith))) ∙ mark_at v x y ∙ sym (get_or-set_other s.marks r x 0 0 e)

  whole : l' ≡ write N b₁ l₀
  unfolding node_bodies
  whole =
      is_write N load.A b₀ b₁ (stands-sized v) (subst (Sized N load.A) (sym same) sized) (put_grows r T s.sets within) l₀ l' r (put-there r T s.sets within) free (registered_long N (length sets') r T l free space ∙ stands_long v)
      (kept 0 (N * N) b₀.edges (tab-length _ (N * N)) (λ x h. ap (λ k. get_or l k 0) (zero-add x) ∙ edge_at v x h ∙ sym (tab-at _ (N * N) x h)) (λ x h. record { header = λ e. omega arith; mark = λ e. omega arith; word = λ j q e. omega arith }))
      (record {
        registered = registered-count N (length sets') r T l free space;
        counter = far (N * N + 1) (header_free 1 (omega arith) (omega arith)) ∙ counter_at v;
        acyclic = far (N * N + 2) (header_free 2 (omega arith) (omega arith)) ∙ acyclic_at v;
        occupied = far (N * N + 3) (header_free 3 (omega arith) (omega arith)) ∙ occupied-at v;
        distinct = far (N * N + 4) (header_free 4 (omega arith) (omega arith)) ∙ distinct_at v;
      })
      word
      (kept (lane_at N 8) N b₀.counts (tab-length _ N) (λ x h. count_at v x h ∙ sym (tab-at _ N x h)) (λ x h. lane_free 8 x (omega arith) (λ e. omega arith)))
      marks
      (kept (lane_at N 10) N b₀.component (tab-length _ N) (λ x h. component_at v x h ∙ sym (tab-at _ N x h)) (λ x h. lane_free 10 x (omega arith) (λ e. omega arith)))
      (kept (atom_at N) load.A s.nodes v.placing.atoms (λ x h. node_at v x h) (λ x h. lane_free 24 x (omega arith) (λ e. omega arith)))
      (λ k h f. far k f ∙ ap (λ (u : List ℕ). get_or u k 0) v.is)

  pub stands-registered : Stands load N (with_set s r T) l₀ l'
  stands-registered =
      record {
        order = v.order;
        small = v.small;
        room = v.room;
        placing = placing;
        few = few;
        wide = λ x h. high x h (ℕ_discrete x r);
        long = long;
        marks = λ x h. low x h (ℕ_discrete x r);
        is = whole ∙ ap (λ b. write N b l₀) same;
      }
    where
      high : (x : ℕ) → x < length sets' → Dec (x ≡ r) → at sets' x < 2 ^ 256
      high x h (yes e) = rw (e, put_same r T s.sets within) wide
      high x h (no d) = let o = put_other r T s.sets within x h d in rw o.1 (v.wide x o.0)

      low : (x : ℕ) → x < N → Dec (x ≡ r) → at (set s.marks r 0) x ≤ s.counter
      low x h (yes e) = rw (e, get_or-set_same s.marks r 0 0 (omega (arith, v.long))) (omega arith)
      low x h (no e) = rw (get_or-set_other s.marks r x 0 0 e) (v.marks x h)
