-- What each method writes into the area. Assumes nothing.
use Rattle.std.specs.Prelude.{ℕ, zero, suc, ◌+◌, ◌-◌, ◌*◌, Bool, not, cond, ◌&&◌, ◌||◌, List, get_or, length, set, ltb, leb, eqb}
use Rattle.graphs.specs.Count.{ind, count}
use Rattle.graphs.specs.Tab.{tab}
use Rattle.entry_set.specs.Lanes.{set_lanes}
use Rattle.entry_set.specs.Sets.{value}
use Rattle.merge_state.specs.declared.Sizes.{Sizes}
use Rattle.merge_state.specs.State.{None, yes, flag, chunk_of}
use Rattle.merge_state.specs.Merges.{waits}
use Rattle.merge_state.specs.Methods.{merges}
use Rattle.merge_state.specs.Table.{Call, init_module_assignment, add_module_to_chunk, register_chunk_graph_index, to_temp_idx, calc_chunk_dependencies, would_create_circular_dependency, is_reachable, merge_chunk_dependencies, pass}
use Rattle.merge_area.specs.Layout.{cell, head, set_place, set_chunk, side, need, key, into, home, entry_chunk, entry_module}
use Rattle.merge_area.specs.Read.{read, sets-in, mode_in}

-- chunk x is registered for key k
unfoldable pub register_area : Sizes → List ℕ → ℕ → ℕ → List ℕ
register_area z a k x = set a (key z k) x

-- module m is listed with chunk x, and e tells its side effects
unfoldable pub append_area : Sizes → List ℕ → ℕ → ℕ → Bool → List ℕ
append_area z a x m e =
    let n = cell a (head z 4) in
    set (set (set (set (set a (entry_chunk z n) x) (entry_module z n) m) (head z 4) (n + 1)) (home z m) x) (side z x) (ind (yes (cell a (side z x)) || e))

-- a chunk that needs creation is made, named with set v
unfoldable pub open_area : Sizes → List ℕ → ℕ → List ℕ
open_area z a v =
    let n = cell a (head z 1) in
    let s = cell a (head z 3) in
    set (set (set (set (set (set_lanes a (set_place z s) 1 v) (set_chunk z s) n) (head z 3) (s + 1)) (side z n) 0) (need z n) 1) (head z 1) (n + 1)

-- `init_module_assignment` of module m with set v, whose chunk is x or None
unfoldable pub init_area : Sizes → List ℕ → ℕ → ℕ → Bool → ℕ → List ℕ
init_area z a m v e x = cond (eqb x None) (append_area z (open_area z a v) (cell a (head z 1)) m e) (append_area z a x m e)

-- chunk x depends on y, if assigned and different
unfoldable pub link : Sizes → List ℕ → ℕ → ℕ → List ℕ
link z a x y = cond (eqb y None || eqb x y) a (set a (x * z.chunks + y) 1)

-- chunk x and the chunks of the first n dependencies from `from` on
unfoldable pub linked : Sizes → List ℕ → ℕ → ℕ → List ℕ → ℕ → List ℕ
linked z deps x from a zero = a
linked z deps x from a (suc n) = let r = linked z deps x from a n in link z r x (cell r (home z (get_or deps (from + n) 0)))

-- `calc_chunk_dependencies`, for the first n list entries
unfoldable pub calc_area : Sizes → List ℕ → List ℕ → List ℕ → ℕ → List ℕ
calc_area z starts deps a zero = a
calc_area z starts deps a (suc n) =
    let r = calc_area z starts deps a n in
    let m = cell r (entry_module z n) in
    linked z deps (cell r (entry_chunk z n)) (get_or starts m 0) r (get_or starts (m + 1) 0 - get_or starts m 0)

-- a number of the merged row, from the two rows' numbers there: the union without itself
unfoldable pub union_cell : ℕ → ℕ → ℕ → ℕ → ℕ
union_cell a b y t = ind ((yes a || yes b) && not (eqb y t))

-- i is one of the first k places from b on
unfoldable pub within : ℕ → ℕ → ℕ → Bool
within b k i = leb b i && ltb i (b + k)

-- the number at i, with the first k numbers of both rows done
unfoldable pub merging : List ℕ → ℕ → ℕ → ℕ → ℕ → ℕ → ℕ
merging l c t s k i = cond (within (t * c) k i) (union_cell (get_or l i 0) (get_or l (s * c + (i - t * c)) 0) (i - t * c) t) (cond (within (s * c) k i) 0 (get_or l i 0))

-- target gets the union without itself, source's set empties; every other number as it was
unfoldable pub merged_rows : List ℕ → ℕ → ℕ → ℕ → List ℕ
merged_rows l c t s = tab (merging l c t s c) (length l)

-- the two rows, and the target's side effects
unfoldable pub absorb_area : Sizes → List ℕ → ℕ → ℕ → List ℕ
absorb_area z a t s = set (merged_rows a z.chunks t s) (side z t) (ind (yes (cell a (side z t)) || yes (cell a (side z s))))

-- where merged chunks stand for their target, source s is recorded as merged into t
unfoldable pub record_area : Sizes → List ℕ → ℕ → ℕ → List ℕ
record_area z a t s = cond (mode_in z a) (set a (into z s) t) a

-- `merge_chunk_dependencies`
unfoldable pub merge_area : Sizes → List ℕ → ℕ → ℕ → List ℕ
merge_area z a t s = record_area z (absorb_area z a t s) t s

-- chunk x is created: registered for the next number
unfoldable pub create_area : Sizes → List ℕ → ℕ → List ℕ
create_area z a x = set (set a (key z (cell a (head z 0) + cell a (head z 2))) x) (head z 2) (cell a (head z 2) + 1)

-- a candidate of the pass
unfoldable pub candidate_area : Sizes → List ℕ → ℕ → ℕ → ℕ → List ℕ
candidate_area z a x p b = cond (merges (read z a) x p b) (merge_area z a p x) (create_area z a x)

-- the pass, for the chunks below k
unfoldable pub pass_area : Sizes → List ℕ → List ℕ → List ℕ → ℕ → List ℕ
pass_area z a props bars zero = a
pass_area z a props bars (suc k) =
    let r = pass_area z a props bars k in
    cond (waits (read z a) k) (candidate_area z r k (get_or props (count (waits (read z a)) k) None) (get_or bars (count (waits (read z a)) k) 0)) r

-- the area that a call leaves, if it isn't refused
unfoldable pub write : Sizes → List ℕ → Call → List ℕ
write z a (init_module_assignment m set effs) = init_area z a m (value set) (flag effs m) (chunk_of (value set) (sets-in z a))
write z a (add_module_to_chunk m x effs) = append_area z a x m (flag effs m)
write z a (register_chunk_graph_index k x) = register_area z a k x
write z a (to_temp_idx k) = a
write z a (calc_chunk_dependencies starts deps) = calc_area z starts deps a (cell a (head z 4))
write z a (would_create_circular_dependency s t) = a
write z a (is_reachable x y) = a
write z a (merge_chunk_dependencies t s) = merge_area z a t s
write z a (pass props bars kinds numbers) = pass_area z a props bars (cell a (head z 1))
