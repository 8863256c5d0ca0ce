-- The fields of a move graph's area: what stands where, whatever it means. Assumes nothing.
--     edges, N rows of N | 24 header numbers | 24 lanes of N | 24 lanes of A | 24 lanes of D | 24 lanes of E
use Rattle.std.specs.Prelude.{◌≡◌, List, [], ◌∷◌, ℕ, ◌+◌, ◌*◌, ◌≤◌, ◌<◌, length}
use Rattle.layout.specs.Fields.{Field, field, lay}

-- where the node lane j starts, and the atoms' first lane
abbrev pub lane_at : ℕ → ℕ → ℕ
lane_at n j = n * n + 24 + j * n

abbrev pub atom_at : ℕ → ℕ
atom_at n = n * n + 24 + 24 * n

-- the numbers of the header, in their order
pub record Header : Type 0 where
  -- how many sets are registered
  pub registered : ℕ
  -- the walk counter
  pub counter : ℕ
  -- 1 where the graph has no cycle, else 0
  pub acyclic : ℕ
  -- how many sets have an atom
  pub occupied : ℕ
  -- how many distinct edges there are
  pub distinct : ℕ

abbrev pub numbers : Header → List ℕ
numbers h = h.registered ∷ h.counter ∷ h.acyclic ∷ h.occupied ∷ h.distinct ∷ []

-- what the fields hold
pub record Bodies : Type 0 where
  -- the multiplicities, N rows of N
  pub edges : List ℕ
  pub header : Header
  -- word j of each registered set
  pub words : ℕ → List ℕ
  -- how many atoms each node has
  pub counts : List ℕ
  -- each node's walk mark
  pub marks : List ℕ
  -- 1 for each node of the stored component, else 0
  pub component : List ℕ
  -- each atom's node
  pub nodes : List ℕ

-- what stands where
abbrev pub fields_of : ℕ → Bodies → List Field
fields_of n b =
    field 0 b.edges
    ∷ field (n * n) (numbers b.header)
    ∷ field (lane_at n 0) (b.words 0)
    ∷ field (lane_at n 1) (b.words 1)
    ∷ field (lane_at n 2) (b.words 2)
    ∷ field (lane_at n 3) (b.words 3)
    ∷ field (lane_at n 4) (b.words 4)
    ∷ field (lane_at n 5) (b.words 5)
    ∷ field (lane_at n 6) (b.words 6)
    ∷ field (lane_at n 7) (b.words 7)
    ∷ field (lane_at n 8) b.counts
    ∷ field (lane_at n 9) b.marks
    ∷ field (lane_at n 10) b.component
    ∷ field (atom_at n) b.nodes
    ∷ []

-- an area with the fields written, and the rest as it was
unfoldable pub write : ℕ → Bodies → List ℕ → List ℕ
write n b l = lay (fields_of n b) l

-- the lists are as long as the places for them
pub record Sized (n a : ℕ) (b : Bodies) : Type 0 where
  pub edges : length b.edges ≡ n * n
  pub few : b.header.registered ≤ n
  pub words : (j : ℕ) → j < 8 → length (b.words j) ≡ b.header.registered
  pub counts : length b.counts ≡ n
  pub marks : length b.marks ≡ n
  pub component : length b.component ≡ n
  pub nodes : length b.nodes ≡ a
