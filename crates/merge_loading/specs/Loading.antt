-- `new`: the area after a loading, and the rows that refuse one. Assumes nothing.
use Rattle.std.specs.Prelude.{ℕ, zero, suc, ◌*◌, ◌≡◌, cond, ◌||◌, List, ◌∷◌, get_or, length, set, replicate, ltb}
use Rattle.graphs.specs.Count.{ind}
use Rattle.graphs.specs.Tab.{tab}
use Rattle.layout.specs.Patch.{patch}
use Rattle.entry_set.specs.Sets.{value, width}
use Rattle.entry_set.specs.Lanes.{set_lanes}
use Rattle.merge_state.specs.declared.Sizes.{Sizes}
use Rattle.merge_state.specs.State.{None, yes, flag}
use Rattle.merge_state.specs.Table.{Answer, done, first_fitting, turned}
use Rattle.merge_state.specs.Loading.{Lent, lister, set_at, over_load, bad_load, later_load}
use Rattle.merge_loading.specs.declared.Loading.{Loading}
use Rattle.merge_area.specs.Layout.{head, set_place, set_chunk, side, key, into, home}
use Rattle.merge_area.specs.Writes.{append_area}
use Rattle.merge_area.specs.Consistent.{over, short}

abbrev pub lent : ℕ → List ℕ → List ℕ → List ℕ → List ℕ → List ℕ → ℕ → Lent
lent initial starts modules flat chunks effects mode =
    record { initial = initial; starts = starts; modules = modules; flat = flat; chunks = chunks; effects = effects; mode = mode }

abbrev pub lent_by : Loading → Lent
lent_by l = lent l.initial l.starts.now l.modules.now l.sets.now l.chunks.now l.effects.now (ind l.follows_merges)

-- the mode, 1 or 0, and no merge
unfoldable pub mode_area : Sizes → ℕ → List ℕ → List ℕ
mode_area z m a = set (patch (into z 0) (replicate z.chunks None) a) (head z 5) (ind (yes m))

-- the chunk first registered for key k, of i initial chunks, which have their keys as numbers
abbrev pub first_key : ℕ → ℕ → ℕ
first_key i k = cond (ltb k i) k None

-- no dependency, side effect or need of creation, no module's chunk, and the keys of i initial chunks
unfoldable pub cleared_area : Sizes → ℕ → List ℕ → List ℕ
cleared_area z i a =
    patch (home z 0) (replicate z.modules None) (patch (key z 0) (tab (first_key i) z.chunks)
    (patch (side z 0) (replicate (2 * z.chunks) 0) (patch 0 (replicate (z.chunks * z.chunks) 0) a)))

-- the header: i initial chunks, all that are made, none created, p sets, no list entry
unfoldable pub headed_area : Sizes → ℕ → ℕ → List ℕ → List ℕ
headed_area z i p a = set (set (set (set (set a (head z 0) i) (head z 1) i) (head z 2) 0) (head z 3) p) (head z 4) 0

-- the first k pairs (set, chunk)
unfoldable pub named_area : Sizes → List ℕ → List ℕ → List ℕ → ℕ → List ℕ
named_area z flat chunks a zero = a
named_area z flat chunks a (suc k) =
    set (set_lanes (named_area z flat chunks a k) (set_place z k) 1 (value (set_at (width z.bits) flat k))) (set_chunk z k) (get_or chunks k 0)

-- all but the list entries
unfoldable pub bare_area : Sizes → ℕ → List ℕ → List ℕ → List ℕ → List ℕ
bare_area z i flat chunks a = named_area z flat chunks (headed_area z i (length chunks) (cleared_area z i a)) (length chunks)

-- the first k entries of the module list, each with the chunk that lists it, of i initial chunks
unfoldable pub listed_area : Sizes → ℕ → List ℕ → List ℕ → List ℕ → List ℕ → ℕ → List ℕ
listed_area z i starts modules effects a zero = a
listed_area z i starts modules effects a (suc k) =
    append_area z (listed_area z i starts modules effects a k) (lister starts i k) (get_or modules k 0) (flag effects (get_or modules k 0))

-- the whole area: each initial chunk's modules are listed, and its sets are named
unfoldable pub loaded_area : Sizes → Lent → List ℕ → List ℕ
loaded_area z n a = listed_area z n.initial n.starts n.modules n.effects (bare_area z n.initial n.flat n.chunks (mode_area z n.mode a)) (length n.modules)

-- the row that refuses a loading: 14, 15, then 16, 17, 19
unfoldable pub load_refusal : Sizes → Lent → List ℕ → ℕ
load_refusal z n a = first_fitting ((over z || over_load z n, 14) ∷ (bad_load z n || short z a, 15) ∷ later_load z n)

-- what `new` answers, and the area after it
unfoldable pub load_step : Sizes → Lent → List ℕ → Answer × List ℕ
load_step z n a = turned (load_refusal z n a) a (done, loaded_area z n a)

-- what a function that was called with area a answers and leaves
pub record Loaded (z : Sizes) (n : Lent) (a : List ℕ) (told : Answer) (after : List ℕ) : Type 0 where
  pub answer : told ≡ (load_step z n a).0
  pub area : after ≡ (load_step z n a).1
