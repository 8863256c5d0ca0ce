-- The loop over the turns: what holds before each, and what it comes to. Assumes nothing.
use Rattle.std.specs.Prelude.{ℕ, ◌≤◌, ◌<◌, ◌≡◌, false, List, [], map, length}
use Rattle.std.proofs.Common.{arith, sym, ap, ◌∙◌}
use Rattle.std.proofs.lemmas.List.Elements.{All-from_get_or}
use Rattle.graphs.specs.Count.{ind}
use Rattle.layout.specs.Patch.{patch, patch-none}
use Rattle.move_ledger.specs.Graph.{at}
use Rattle.start_order.specs.declared.nodes.Nodes.{Nodes}
use Rattle.start_order.specs.Turns.{Setting, whole, is_ready, Turn, turns_end, turns_full, left_over}
use Rattle.start_order.specs.Steps.{CanSeek, Sought, leads, CanTake, CanList, Told}

-- after k turns: the nodes that are listed, and their numbers in the lent list
pub record Run (s : Setting) (n r a : ℕ) (low chunks₀ : List ℕ) (k : ℕ) (marks degrees chunks : List ℕ) : Type 0 where
  pub listed : List ℕ
  pub turn : Turn s n r a k listed marks degrees
  pub named : chunks ≡ patch 0 (map (at low) listed) chunks₀

module _ {s : Setting} {g : Nodes} {a : ℕ} {order low marks₀ degrees₀ chunks₀ : List ℕ} (can : CanList s g a order low marks₀ degrees₀ chunks₀) where
  pub run_none : Run s g.area.n g.registered a low chunks₀ 0 marks₀ degrees₀ chunks₀
  run_none = record { listed = []; turn = can.first; named = sym (patch-none 0 chunks₀) }

  pub run_seek : {marks degrees : List ℕ} → length marks ≡ length marks₀ → length degrees ≡ length degrees₀ → CanSeek order marks degrees
  run_seek {marks} {degrees} m d = record {
    marked = All-from_get_or (λ x. x < length marks) order 0 (λ i b. omega (arith, can.row.node i (omega (arith, can.orders)), can.marks_long));
    counted = All-from_get_or (λ x. x < length degrees) order 0 (λ i b. omega (arith, can.row.node i (omega (arith, can.orders)), can.degrees_long));
  }

  module _ {k : ℕ} {marks degrees chunks : List ℕ} (run : Run s g.area.n g.registered a low chunks₀ k marks degrees chunks) where
    told : whole s a ≡ map s.set run.listed → Told s g.registered a low chunks₀ chunks k
    told e = record { listed = run.listed; all = e; inside = run.turn.inside; wanted = run.turn.wanted; many = sym run.turn.many; named = run.named }

    pub run_full : k ≡ a → Told s g.registered a low chunks₀ chunks a
    run_full e = rw e at (told (turns_full can.fits g.few run.turn e))

    -- no node can be listed
    pub run_end : ((j : ℕ) → j < length order → is_ready marks degrees (at order j) ≡ false) → Told s g.registered a low chunks₀ chunks k
    run_end none =
        told (turns_end can.fits g.few run.turn (λ x b.
        let p = can.row.place x b in
        ap (is_ready marks degrees) (sym p.2) ∙ none p.0 (omega (arith, p.1, can.orders))))

    module _ {i : ℕ} (f : Sought order marks degrees i) (less : k < a) (m : length marks ≡ length marks₀) (d : length degrees ≡ length degrees₀) (l : length chunks ≡ length chunks₀) where
      abbrev pub z : ℕ
      z = at order i

      pub here : i < g.registered
      here = omega (arith, f.inside, can.orders)

      pub zr : z < g.registered
      zr = can.row.node i here

      -- of a node's edges that are left one leads to z, or none
      left : (y : ℕ) → y < g.registered → ind (leads g.area.numbers.now g.area.n z y) ≤ at degrees y
      left y b =
          omega (
            arith,
            left_over can.fits g.few run.turn can.row here f.found f.before less y b,
            ap ind (can.cell y z (omega (arith, g.few)) (omega (arith, zr, g.few))),
          )

      pub run_take : CanTake g z k low marks degrees chunks
      run_take = record {
        pass = record { target = omega (arith, zr, g.few); long = omega (arith, can.degrees_long); some = left };
        lows = omega (arith, zr, can.lows);
        marks_long = omega (arith, zr, can.marks_long);
        room = omega (arith, can.room);
      }
