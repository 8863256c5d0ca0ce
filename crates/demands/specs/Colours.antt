-- A node's states in the first walk of `only_cyclic_component`, at every moment of its run. Assumes nothing.
use Rattle.std.specs.Prelude.{ℕ, ◌<◌, ◌≡◌, ◌↔◌, true}
use Rattle.graphs.specs.Lists.{has}
use Rattle.graph_colours.specs.declared.State.TheVariants.{White, Gray, Black}
use Rattle.graph_colours.specs.Colours.{View, Passes, Run, Starts, Ran}
use Rattle.graph_colours.specs.Life.{black-stays}
use Rattle.graph_colours.proofs.Life.{life, passed-gray}

-- what holds of node x between two steps, `now`, of a walk that began at `first`; `later` is any moment from then on. Node x has d x neighbours, the i-th is f x i
pub record ByTheBook (n : ℕ) (d : ℕ → ℕ) (f : ℕ → ℕ → ℕ) (first now later : View) (x : ℕ) : Type 0 where
  -- a node there starts white
  pub starts : first.state x ≡ White
  -- is gray exactly while its edges are gone through: while it stands on the path of opened nodes
  pub gray : (now.state x ≡ Gray) ↔ (has x now.path ≡ true)
  -- so it is gray before and after each step that goes through an edge of it
  pub passed : (next : View) (y : ℕ) → Passes n d f now next x y → (now.state x ≡ Gray) × (next.state x ≡ Gray)
  -- then black to the end, when all its edges are gone through
  pub black : now.state x ≡ Black → (now.cursor x ≡ d x) × (later.state x ≡ Black)

pub by_the_book : {n : ℕ} {d : ℕ → ℕ} {f : ℕ → ℕ → ℕ} {first now later : View} → Starts n first → Run n d f first now → Run n d f now later → (x : ℕ) → x < n → ByTheBook n d f first now later x
by_the_book s r q x b = record {
  starts = s.white x b;
  gray = (life s r).gray x b;
  passed = λ next y p. passed-gray s r p;
  black = λ h. ((life s r).black x b h, black-stays q x b h);
}

-- of what the contract of `first_walk` shows: each moment of the run is by the book, and at its end every node is black
pub walked-by_the_book : {n : ℕ} {d : ℕ → ℕ} {f : ℕ → ℕ → ℕ} {last : View} (w : Ran n d f last) (now : View) → Run n d f w.first now → Run n d f now last → (x : ℕ) → x < n
    → ByTheBook n d f w.first now last x × (last.state x ≡ Black)
walked-by_the_book w now r q x b = (by_the_book w.starts r q x b, w.black x b)
