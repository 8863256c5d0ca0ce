-- What the walk to the wanted nodes asks and shows. Assumes nothing.
use Rattle.std.specs.Prelude.{ℕ, ◌^◌, ◌≤◌, ◌<◌, ◌≡◌, List, length, replicate}
use Rattle.std.proofs.Common.{arith}
use Rattle.std.proofs.lemmas.List.{length-replicate}
use Rattle.graph_slots.specs.Asked.{ListRoom}
use Rattle.move_ledger.specs.Graph.{Load, at}
use Rattle.move_questions.specs.Answers.{Checked}
use Rattle.start_order.specs.declared.nodes.Nodes.{Nodes}

pub record CanMark (load : Load) (g : Nodes) (b : ℕ) (marks : List ℕ) : Type 0 where
  pub checked : Checked load g.area.n g.area.numbers.now g.registered
  pub bit : b < 256
  pub long : g.area.n ≤ length marks
  pub clear : (x : ℕ) → x < g.area.n → at marks x ≡ 0

-- room for n nodes, their heads and m slots
pub record MarkRoom (n m nodes heads slots : ℕ) : Type 0 where
  pub stack_long : n ≤ nodes
  pub rows : n < heads
  pub slots_long : m ≤ slots
  pub nodes_short : nodes < 2 ^ 31
  pub heads_short : heads < 2 ^ 31
  pub slots_short : slots < 2 ^ 31

-- lists for n nodes and m slots
pub record MarkLists (n m : ℕ) (stack sources targets heads list : List ℕ) : Type 0 where
  pub stack_long : n ≤ length stack
  pub sources_long : m ≤ length sources
  pub targets_long : m ≤ length targets
  pub lists : ListRoom m n heads list

-- k zeros
abbrev zeros_of : ℕ → List ℕ
zeros_of k = replicate k 0

-- the room's new lists
module _ {n m nodes heads slots : ℕ} (room : MarkRoom n m nodes heads slots) where
  long_of : (k : ℕ) → length (zeros_of k) ≡ k
  long_of k = length-replicate {A = ℕ} k 0

  pub new_lists : MarkLists n m (zeros_of nodes) (zeros_of slots) (zeros_of slots) (zeros_of heads) (zeros_of slots)
  new_lists = record {
    stack_long = omega (arith, room.stack_long, long_of nodes);
    sources_long = omega (arith, room.slots_long, long_of slots);
    targets_long = omega (arith, room.slots_long, long_of slots);
    lists = record { rows = omega (arith, room.rows, long_of heads); room = omega (arith, room.slots_long, long_of slots); short = omega (arith, room.slots_short, long_of slots) };
  }
