-- Theorems on the definitions of specs/Calls: they stand here, so that the crate can be read with a definition changed. Assumes nothing.
use Rattle.std.specs.Prelude.{ℕ, ◌≡◌}
use Rattle.std.proofs.Common.{arith, ◌∙◌}
use Rattle.std.proofs.Math.Path.{sym, ap}
use mathlib.Core.List.{List, map}
use Rattle.std.proofs.Math.ListN.{length, take}
use Rattle.std.proofs.lemmas.List.{length-map}
use Rattle.layout.specs.Patch.{patch}
use Rattle.move_ledger.specs.Graph.{Load, at}
use Rattle.move_area.specs.Area.{sets_in}
use Rattle.move_questions.specs.Answers.{place_in}
use Rattle.move_order.specs.Order.{start_order}
use Rattle.start_order.specs.declared.nodes.Nodes.{Nodes}
use Rattle.start_order.specs.Turns.{Setting, whole}
use Rattle.start_order.specs.Nodes.{setting, fits, row_long, row_front, turn-none, atoms, cell-edge}
use Rattle.start_order.specs.Marked.{Marked}
use Rattle.start_order.specs.Lowest.{atom_node, Lowest, names_low}
use Rattle.start_order.specs.Steps.{CanList, Told}
use Rattle.start_order.specs.Calls.{CanFetch, Fetched, blank, blank_room, checked, fetch_clear}
use Rattle.start_order.specs.Calls as calls_here

module _ {load : Load} {g : Nodes} {b : ℕ} {order degrees chunks : List ℕ} (can : CanFetch load g b order degrees chunks)
    {marks low : List ℕ} (m : Marked load g.area.n g.area.numbers.now g.registered b marks) (ml : length marks ≡ length blank) (v : Lowest (atom_node g.area.numbers.now g.area.n) 0 load.A low) (ll : length low ≡ length blank) where
  fetch_list : CanList (setting load g.area.n g.area.numbers.now b) g load.A (take g.registered order) low marks degrees chunks
  fetch_list = record {
    fits = fits (calls_here.checked can) b;
    row = row_front can.listable b;
    cell = cell-edge (calls_here.checked can);
    orders = row_long can.listable b;
    lows = omega (arith, g.few, fetch_clear can blank_room);
    marks_long = omega (arith, g.few, fetch_clear can blank_room);
    degrees_long = omega (arith, g.few, can.listable.degrees_long);
    room = can.room;
    first = turn-none can.listable b m.mark_at;
  }

  pub fetch_list_some : (s : Setting) × CanList s g load.A (take g.registered order) low marks degrees chunks
  fetch_list_some = (setting load g.area.n g.area.numbers.now b, fetch_list)

  fetch_done : {chunks' : List ℕ} {k : ℕ} → Told (setting load g.area.n g.area.numbers.now b) g.registered load.A low chunks chunks' k → Fetched load g.area.n g.area.numbers.now b chunks chunks' k
  unfolding start_order
  fetch_done {chunks'} {k} t =
      let s : start_order load (place_in load g.area.n g.area.numbers.now) b ≡ map (at (sets_in g.area.n g.area.numbers.now)) t.listed
      = ap (whole (setting load g.area.n g.area.numbers.now b)) (atoms (calls_here.checked can)) ∙ t.all in
      let e = names_low (calls_here.checked can) v b t.listed s t.inside t.wanted in
      record {
        many = t.many ∙ sym (length-map t.listed (at low)) ∙ ap length (sym e);
        named = t.named ∙ ap (λ u. patch 0 u chunks) (sym e);
      }

  pub fetch_told : {chunks' : List ℕ} {k : ℕ} → ((s : Setting) → CanList s g load.A (take g.registered order) low marks degrees chunks → Told s g.registered load.A low chunks chunks' k)
      → Fetched load g.area.n g.area.numbers.now b chunks chunks' k
  fetch_told f = fetch_done (f (setting load g.area.n g.area.numbers.now b) fetch_list)
