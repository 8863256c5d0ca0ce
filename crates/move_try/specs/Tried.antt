-- The answers of a move on a checked area, and that they are the ledger's. Assumes nothing.
use Rattle.std.specs.Prelude.{◌≡◌, true, false, not, cond, ◌&&◌, List, eqb, length, get_or}
use Rattle.std.proofs.Math.Path.{refl, sym, ap}
use Rattle.std.proofs.Common.{subst, ◌∙◌, arith, eqb-true, eq-eqb, ne_eqb}
use Rattle.std.proofs.Math.Bool.{Bool}
use Prim.Native.Nat.{ℕ, ◌+◌, ◌*◌, ◌^◌, ◌≤◌, ◌<◌}
use Rattle.std.proofs.Math.Decide.{dec_lt}
use Rattle.graphs.specs.Lists.{has}
use Rattle.entry_set.specs.Sets.{value, legal}
use Rattle.entry_set.specs.SetLaws.{below_256}
use Rattle.move_ledger.specs.Graph.{Load, at}
use Rattle.move_ledger.specs.Answer.{Answer, rejected}
use Rattle.move_ledger.specs.Ledger.{put, step1, stays, move}
use Rattle.move_ledger.specs.Places.{put-inside, put_behind}
use Rattle.move_ledger.specs.Evict.{Free, place-free}
use Rattle.move_ledger.specs.LoadLaws.{Loadable}
use Rattle.move_ledger.specs.Nodes.{placed}
use Rattle.move_ledger.specs.NodePlaces.{placing_apart}
use Rattle.set_order.specs.Order.{lane_set, First}
use Rattle.set_order.specs.Steps.{CanFind}
use Rattle.move_area.specs.Bodies.{lane_at, atom_at, write}
use Rattle.move_area.specs.BodyLaws.{write_again}
use Rattle.move_area.specs.Area.{sets_in, decode, encode, consistent}
use Rattle.move_area.specs.Held.{consistent-whole}
use Rattle.move_area.specs.Checked.{nodes_in, nodes_state}
use Rattle.move_area.specs.NodeBodies.{Nodes, node_bodies}
use Rattle.move_area.specs.Calls.{after}
use Rattle.move_try.specs.Stands.{Stands, stands-sized, stands_long, registered-at, counter_at, sets-in, node_at, marks-part, nodes-part, consistent-stands}
use Rattle.move_try.specs.Areas.{registered, sets_with, CanRegister}
use Rattle.move_try.specs.Grown.{write-over}
use Rattle.move_try.specs.Outcome.{next_place, with_target_sets, with_target, target_area, stands-target, early_rejected}
use Rattle.move_try.specs.Early.{Place, outside-step1, free-node, target-new, place_is, target_node, place-below}
use Rattle.move_try.specs.Target.{CanTarget}
use Rattle.move_try.specs.Settle.{CanSettle}

-- the rows 1 to 6 and 9 to 12 don't fit
pub record CanTry (load : Load) (n : ℕ) (area : List ℕ) (atom T : ℕ) : Type 0 where
  pub loadable : Loadable load n true (length area)
  pub sane : consistent load n area ≡ true
  pub there : atom < load.A
  pub range : T < 2 ^ load.E
  pub other : eqb T (at (decode load n area).ledger.place atom) ≡ false

-- the ledger's answer to a move of the atom to any lent set that is T, whatever the marks are by which it isn't fixed, and the area that holds the next
-- state
pub record Answers (load : Load) (n : ℕ) (area : List ℕ) (atom T : ℕ) (r : Answer) (l : List ℕ) : Type 0 where
  pub of : (fixed w : List ℕ) → stays fixed atom ≡ false → value w ≡ T → legal load.E w ≡ true
      → (r ≡ (move load fixed n (decode load n area).ledger atom w).answer) × (l ≡ encode load n (after load fixed n (decode load n area) atom w) area)

-- an area that holds a state names it
module _ {load : Load} {N : ℕ} {s : Nodes} {l₀ l : List ℕ} (v : Stands load N s l₀ l) where
  pub stands-named : nodes_state load N l ≡ s
  stands-named = rw (sets-in v, nodes-part v, counter_at v, marks-part v) refl

  again : Stands load N s l l
  again =
      record {
        order = v.order;
        small = v.small;
        room = rw (stands_long v) v.room;
        placing = v.placing;
        few = v.few;
        wide = v.wide;
        long = v.long;
        marks = v.marks;
        is = v.is ∙ sym (write_again N load.A (node_bodies load N s) (stands-sized v) l₀ v.room) ∙ ap (write N (node_bodies load N s)) (sym v.is);
      }

  pub stands_own : Stands load N (nodes_state load N l) l l
  stands_own = subst (λ z. Stands load N z l l) (sym stands-named) again

  pub stands-over : {s' : Nodes} {l' : List ℕ} → Stands load N s' l l' → length s.sets ≤ length s'.sets → Stands load N s' l₀ l'
  unfolding node_bodies
  stands-over {s'} {l'} v' more =
      record {
        order = v.order;
        small = v.small;
        room = v.room;
        placing = v'.placing;
        few = v'.few;
        wide = v'.wide;
        long = v'.long;
        marks = v'.marks;
        is = v'.is ∙ ap (write N (node_bodies load N s')) v.is ∙ write-over N load.A (node_bodies load N s) (node_bodies load N s') (stands-sized v) (stands-sized v') more l₀;
      }

module _ {load : Load} {n : ℕ} {area : List ℕ} {atom T : ℕ} (can : CanTry load n area atom T) where
  abbrev pub st : Nodes
  st = nodes_state load n area

  pub try_stands : Stands load n st area area
  try_stands =
      let z = can.loadable.sizes in
      consistent-stands load n area can.loadable.order z.sets z.bits (omega (arith, z.area)) can.sane

  pub try_room : atom_at n + load.A ≤ length area
  try_room = try_stands.room

  pub try_from : (x : ℕ) → x ≡ get_or area (atom_at n + atom) 0 → x < n
  try_from x e = omega (arith, node_at try_stands atom can.there, try_stands.placing.inside atom can.there, try_stands.few)

  same : (w : List ℕ) → value w ≡ T → eqb (value w) (at (decode load n area).ledger.place atom) ≡ false
  same w e = rw e can.other

  -- step 1
  pub try_outside : (x : ℕ) → x ≡ get_or area (atom_at n + atom) 0 → {r : Bool} → r ≡ eqb (get_or area (n * n + 2) 0) 0 && eqb (get_or area (lane_at n 10 + x) 0) 0 → r ≡ step1 load (placed (nodes_in load n area) (sets_in n area)) atom
  try_outside x e q = q ∙ outside-step1 try_stands atom x can.there e

  pub try_rejected : {r : Bool} → r ≡ step1 load (placed (nodes_in load n area) (sets_in n area)) atom → r ≡ true → Answers load n area atom T rejected area
  unfolding decode
  try_rejected s1 q = record {
    of = λ fixed w free e legal.
        let z = early_rejected load fixed n (decode load n area) atom w can.there free legal (same w e) (sym s1 ∙ q) in
        (sym z.0, sym (consistent-whole load n area can.sane) ∙ ap (λ u. encode load n u area) (sym z.1));
  }

  -- the target's node
  module _ (m : ℕ) (many : m ≡ get_or area (n * n) 0) where
    registered_many : m ≡ length (sets_in n area)
    registered_many = many ∙ registered-at try_stands

    pub try_find : CanFind n m
    try_find = record { few = omega (arith, registered_many, try_stands.few); numbers = omega (arith, try_stands.small) }

    pub try_target : CanTarget n m area
    try_target =
        record {
          small = try_stands.small;
          room = omega (arith, try_room);
          few = omega (arith, registered_many, try_stands.few);
          free = λ e. free-node try_stands can.loadable.sizes.wide (omega (arith, registered_many));
        }

    module _ {x : ℕ} (f : First (lane_set area (n * n + 24) n) m T x) {y : ℕ} (p : Place area n x y) {r : Bool} (s1 : r ≡ step1 load (placed (nodes_in load n area) (sets_in n area)) atom)
        (left : r ≡ false) where
      first : First (lane_set area (n * n + 24) n) (length (sets_in n area)) T x
      first = subst (λ k. First (lane_set area (n * n + 24) n) k T x) registered_many f

      pub more : load.A < n
      more = can.loadable.sizes.wide

      pub node : (y < length (with_target_sets load n st T)) × (at (with_target_sets load n st T) y ≡ T)
      node = target_node try_stands T x first more y p

      pub try_register : CanRegister n m y area
      try_register =
          record {
            within = place-below try_stands T x first more y p;
            few = omega (arith, registered_many, try_stands.few);
            small = try_stands.small;
            room = omega (arith, try_room);
          }

      module _ {l₁ : List ℕ} (e₁ : l₁ ≡ cond (eqb x m) (registered n (sets_with m y) y T area) area) where
        -- what `register` writes
        written : l₁ ≡ target_area load n st T area
        written = e₁ ∙ ap (λ b. cond b (registered n (sets_with m y) y T area) area) (ap (eqb x) registered_many ∙ target-new try_stands T x first) ∙ go (has T (sets_in n area)) refl
          where
            free : Free load n (placed (nodes_in load n area) (sets_in n area)) (sets_in n area) (next_place load n st)
            free = place-free load n (placed (nodes_in load n area) (sets_in n area)) (sets_in n area) (placing_apart try_stands.placing) try_stands.few more

            counted : (r : ℕ) → r ≤ length (sets_in n area) → sets_with m r ≡ length (put r T (sets_in n area))
            counted r within = pick (dec_lt r (length (sets_in n area)))
              where
                pick : Dec (r < length (sets_in n area)) → sets_with m r ≡ length (put r T (sets_in n area))
                pick (yes h) = rw (ne_eqb r m (omega (arith, registered_many))) (registered_many ∙ sym (put-inside r T (sets_in n area) within h))
                pick (no h) =
                    let e : r ≡ length (sets_in n area) = omega arith in
                    rw (eq-eqb r m (e ∙ sym registered_many)) (ap (λ k. k + 1) registered_many ∙ sym (put_behind r T (sets_in n area) within e))

            go : (b : Bool) → has T (sets_in n area) ≡ b → cond (not b) (registered n (sets_with m y) y T area) area ≡ cond b area (registered n (length (put (next_place load n st) T (sets_in n area))) (next_place load n st) T area)
            go true q = refl
            go false q =
                let e : y ≡ next_place load n st = place_is try_stands T x first more y p (eqb-true x (length (sets_in n area)) (target-new try_stands T x first ∙ ap not q)) in
                rw (e, counted (next_place load n st) free.within) refl

        pub target : Stands load n (with_target load n st T) area l₁
        target =
            subst (Stands load n (with_target load n st T) area) (sym written)
            (stands-target try_stands more T (below_256 can.loadable.sizes.bits can.range))

        pub named : nodes_state load n l₁ ≡ with_target load n st T
        named = stands-named target

        pub try_settle : CanSettle load n l₁ atom y
        try_settle =
            record {
              loadable = rw (stands_long target) can.loadable;
              stands = stands_own target;
              there = can.there;
              node = subst (λ z. y < length z.sets) (sym named) node.0;
            }
