-- The call on a checked area: what it asks and shows, and what comes before it. Assumes nothing.
use Rattle.std.specs.Prelude.{ℕ, ◌+◌, ◌*◌, ◌≤◌, ◌<◌, ◌≡◌, Bool, not, get_or, replicate}
use Rattle.std.proofs.Common.{arith, ◌∙◌}
use Rattle.std.proofs.Math.Path.{refl, sym, ap}
use Rattle.std.proofs.Math.Bool.{true, false, cond}
use mathlib.Core.List.{List}
use Rattle.std.proofs.Math.ListN.{length}
use Rattle.std.proofs.lemmas.List.{length-replicate}
use borrow.Author.Tests.{le-leb, lt-leb, lt-ltb, le-ltb}
use Rattle.graphs.specs.Count.{ind}
use Rattle.graphs.specs.Tab.{zeros}
use Rattle.graphs.specs.Walk.{cyclic}
use Rattle.layout.specs.Patch.{patch}
use Rattle.move_ledger.specs.Graph.{Load, at, edge}
use Rattle.move_ledger.specs.Answer.{Answer, refused, is_refused}
use Rattle.move_ledger.specs.Answer as answer
use Rattle.move_ledger.proofs.NodeWalks.{cyclic-nodes}
use Rattle.move_area.specs.Area.{decode}
use Rattle.move_questions.specs.Answers.{place_in, Checked, Listable}
use Rattle.move_rows.specs.Later.{turned-back, goes_on}
use Rattle.move_rows.specs.Listed.{RowTold}
use Rattle.move_order.specs.Order.{names, told, started}
use Rattle.start_order.specs.declared.nodes.Nodes.{Nodes}
use Rattle.start_order.specs.Nodes.{order_of, placing, long, few}
use Rattle.start_order.specs.Walked.{CanMark}
use Rattle.start_order.specs.Lowest.{CanLower}

-- rows 26 and 27 don't fit
pub record CanFetch (load : Load) (g : Nodes) (b : ℕ) (order degrees chunks : List ℕ) : Type 0 where
  pub listable : Listable load g.area.n g.area.numbers.now g.registered order degrees
  pub bit : b < 256
  pub room : load.A ≤ length chunks

-- as many as there are names, and these stand first
pub record Fetched (load : Load) (n : ℕ) (area : List ℕ) (b : ℕ) (chunks chunks' : List ℕ) (k : ℕ) : Type 0 where
  pub many : k ≡ length (names load (place_in load n area) b)
  pub named : chunks' ≡ patch 0 (names load (place_in load n area) b) chunks

-- a number for each node, of as many as there can be
pub record FetchRoom (marks low : List ℕ) : Type 0 where
  pub marks_long : 1024 ≤ length marks
  pub lows : 1024 ≤ length low

module _ {load : Load} {g : Nodes} {b : ℕ} {order degrees chunks : List ℕ} (can : CanFetch load g b order degrees chunks) where
  pub checked : Checked load g.area.n g.area.numbers.now g.registered
  checked = can.listable.checked

  module _ {marks low : List ℕ} (lists : FetchRoom marks low) where
    pub fetch_clear : g.area.n ≤ length marks
    fetch_clear = omega (arith, g.small, lists.marks_long)

    pub fetch_mark : {blank : List ℕ} → length blank ≡ length marks → ((x : ℕ) → x < g.area.n → at blank x ≡ 0) → CanMark load g b blank
    fetch_mark e z = record { checked = checked; bit = can.bit; long = omega (arith, fetch_clear); clear = z }

    pub fetch_low : CanLower g.area.numbers.now load.A g.area.n low
    fetch_low = record {
      few = checked.loadable.sizes.atoms;
      room = omega (arith, checked.loadable.sizes.area);
      node = λ i l. omega (arith, checked.ranged.nodes i l, checked.ranged.few, g.small, lists.lows);
    }

-- new lists have the room, and are clear
abbrev pub blank : List ℕ
blank = replicate 1024 0

pub blank_room : FetchRoom blank blank
blank_room = record { marks_long = omega (arith, length-replicate {A = ℕ} 1024 0); lows = omega (arith, length-replicate {A = ℕ} 1024 0) }

pub blank_clear : (x : ℕ) → at blank x ≡ 0
blank_clear x = zeros 1024 x

-- no earlier row fits
pub record CanGoOn (load : Load) (n : ℕ) (area order degrees : List ℕ) : Type 0 where
  pub listable : Listable load n area (get_or area (n * n) 0) order degrees

-- the rows 26 and 27, and what comes after them
pub record GoesOn (load : Load) (n : ℕ) (area : List ℕ) (b : ℕ) (chunks : List ℕ) (x : Answer) (chunks' : List ℕ) : Type 0 where
  pub answer : x ≡ told load (place_in load n area) b chunks
  pub list : chunks' ≡ cond (is_refused x) chunks (patch 0 (names load (place_in load n area) b) chunks)

module _ {load : Load} {n : ℕ} {area order degrees : List ℕ} (can : CanGoOn load n area order degrees) (b : ℕ) (chunks : List ℕ) where
  pub go_bit : load.E ≤ b → GoesOn load n area b chunks (refused 26) chunks
  unfolding told
  go_bit h = record { answer = rw (le-leb load.E b h) refl; list = refl }

  flag : get_or area (n * n + 2) 0 ≡ ind (not (cyclic (edge load (place_in load n area)) (place_in load n area)))
  unfolding decode
  flag =
      let h = can.listable.checked in
      h.worked.acyclic ∙ ap (λ t. ind (not t)) (cyclic-nodes (order_of h) (placing h) n (omega (arith, long h, few h)))

  module _ (low : b < load.E) where
    pub go_cyclic : get_or area (n * n + 2) 0 ≡ 0 → GoesOn load n area b chunks (refused 26) chunks
    unfolding told
    go_cyclic z = record { answer = rw (lt-leb load.E b low, yes (cyclic (edge load (place_in load n area)) (place_in load n area)) (sym flag ∙ z)) refl; list = refl }
      where
        yes : (t : Bool) → ind (not t) ≡ 0 → t ≡ true
        yes true e = refl
        yes false e = absurd (omega arith)

    module _ (d : get_or area (n * n + 2) 0 ≡ 0 → ⊥) where
      free : cyclic (edge load (place_in load n area)) (place_in load n area) ≡ false
      free = no (cyclic (edge load (place_in load n area)) (place_in load n area)) (λ e. d (flag ∙ e))
        where
          no : (t : Bool) → (ind (not t) ≡ 0 → ⊥) → t ≡ false
          no true f = absurd (f refl)
          no false f = refl

      pub go_short : length chunks < load.A → GoesOn load n area b chunks (refused 27) chunks
      unfolding told
      go_short s = record { answer = rw (lt-leb load.E b low, free, lt-ltb (length chunks) load.A s) refl; list = refl }

      module _ (s : load.A ≤ length chunks) where
        pub go_fetch : {g : Nodes} → g.area.numbers.now ≡ area → g.area.n ≡ n → g.registered ≡ get_or area (n * n) 0 → CanFetch load g b order degrees chunks
        go_fetch p q e = record { listable = rw (p, q, e) can.listable; bit = omega (arith, can.listable.checked.loadable.sizes.bits); room = s }

        pub go_told : {chunks' : List ℕ} {k : ℕ} → Fetched load n area b chunks chunks' k → GoesOn load n area b chunks (answer.number k) chunks'
        unfolding told
        go_told f = record {
          answer = rw (lt-leb load.E b low, free, le-ltb (length chunks) load.A s) (ap answer.number f.many);
          list = f.named;
        }

-- the whole call
pub call_on : {load : Load} {fixed : List ℕ} {n : ℕ} {area order degrees : List ℕ} → RowTold load fixed n area degrees order 0 → CanGoOn load n area order degrees
call_on t = record { listable = t.listable refl }

module _ {load : Load} {fixed : List ℕ} {n : ℕ} {area : List ℕ} (b : ℕ) (chunks : List ℕ) {order degrees : List ℕ} where
  pub call_refused : {q : ℕ} → RowTold load fixed n area degrees order q → (q ≡ 0 → ⊥) → (refused q ≡ (started load fixed n area b chunks).answer) × (chunks ≡ (started load fixed n area b chunks).chunks)
  unfolding started
  call_refused t h = rw (turned-back load fixed n area (λ z. h (t.row ∙ z)) (told load (place_in load n area) b chunks)) (ap refused t.row, refl)

  pub call-answer : RowTold load fixed n area degrees order 0 → {x : Answer} {chunks' : List ℕ} → GoesOn load n area b chunks x chunks'
      → (x ≡ (started load fixed n area b chunks).answer) × (chunks' ≡ (started load fixed n area b chunks).chunks)
  unfolding started
  call-answer t f =
      rw (goes_on load fixed n area (sym t.row) (told load (place_in load n area) b chunks))
      (f.answer, f.list ∙ ap (λ (y : Answer). cond (is_refused y) chunks (patch 0 (names load (place_in load n area) b) chunks)) f.answer)
