-- What a loaded area holds before anything is worked out. Assumes nothing.
use Rattle.std.specs.Prelude.{◌≡◌, List, [], ◌∷◌, ℕ, ◌+◌, ◌*◌, ◌≤◌, length, get_or, take, drop, replicate}
use Rattle.graphs.specs.Tab.{tab}
use Rattle.layout.specs.Patch.{part}
use Rattle.layout.specs.Fields.{Field, field}
use Rattle.entry_set.specs.Joined.{parts}
use Rattle.entry_set.specs.Sets.{value, width}
use Rattle.move_ledger.specs.Graph.{at}
use Rattle.move_area.specs.Bodies.{lane_at, atom_at, Bodies}

-- word j of set i, of sets of w numbers each
abbrev pub lent_word : ℕ → List ℕ → ℕ → ℕ → ℕ
lent_word w sets j i = get_or (parts 32 8 (value (take w (drop (i * w) sets)))) j 0

-- the eight lanes of the words of a sets
abbrev pub word_fields : ℕ → ℕ → List ℕ → ℕ → List Field
word_fields n w sets a =
    field (lane_at n 0) (tab (lent_word w sets 0) a)
    ∷ field (lane_at n 1) (tab (lent_word w sets 1) a)
    ∷ field (lane_at n 2) (tab (lent_word w sets 2) a)
    ∷ field (lane_at n 3) (tab (lent_word w sets 3) a)
    ∷ field (lane_at n 4) (tab (lent_word w sets 4) a)
    ∷ field (lane_at n 5) (tab (lent_word w sets 5) a)
    ∷ field (lane_at n 6) (tab (lent_word w sets 6) a)
    ∷ field (lane_at n 7) (tab (lent_word w sets 7) a)
    ∷ []

-- the header, the sets of a atoms, a node for each atom, and no walk yet; the edges are those of l, and not counted
abbrev pub start_bodies : ℕ → ℕ → List ℕ → List ℕ → Bodies
start_bodies a n sets l =
    record {
      edges = part 0 (n * n) l;
      header = record { registered = a; counter = 0; acyclic = 0; occupied = a; distinct = 0 };
      words = λ j. tab (λ x. get_or (parts 32 8 (at sets x)) j 0) a;
      counts = replicate n 0;
      marks = replicate n 0;
      component = replicate n 0;
      nodes = tab (λ i. i) a;
    }

-- the area has the lanes, and a sets of w numbers each are lent
pub record CanWords (area : List ℕ) (n : ℕ) (sets : List ℕ) (w a : ℕ) : Type 0 where
  pub room : atom_at n ≤ length area
  pub few : a ≤ n
  pub nodes : n ≤ 1024
  pub narrow : w ≤ 4
  pub lent : a * w ≤ length sets

-- the rows 1 to 3 don't fit
pub record CanStart (area : List ℕ) (a e n : ℕ) (sets : List ℕ) : Type 0 where
  pub room : atom_at n + a ≤ length area
  pub few : a ≤ n
  pub nodes : n ≤ 1024
  pub atoms : a ≤ 512
  pub bits : e ≤ 256
  pub lent : length sets ≡ a * width e
