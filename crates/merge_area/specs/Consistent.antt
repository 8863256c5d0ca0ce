-- Rows 14, 15 and 21 of a merge area, as computed tests. Assumes nothing.
use Rattle.std.specs.Prelude.{ℕ, ◌+◌, ◌-◌, ◌*◌, ◌^◌, ◌≤◌, ◌≡◌, Bool, true, false, not, ◌&&◌, ◌||◌, List, get_or, length, ltb, eqb}
use Rattle.graphs.specs.Count.{count}
use Rattle.graphs.specs.Lists.{some_below, below}
use Rattle.graphs.specs.Walk.{cyclic}
use Rattle.entry_set.specs.Lanes.{lanes}
use Rattle.merge_state.specs.declared.Sizes.{Sizes}
use Rattle.merge_state.specs.State.{misfit}
use Rattle.merge_state.specs.Merges.{merged_into}
use Rattle.merge_state.specs.Loading.{twice}
use Rattle.merge_area.specs.Layout.{room, cell, head, set_place, set_chunk, need, key, into, home, entry_chunk, entry_module}
use Rattle.merge_area.specs.Read.{mode_in, into_in}

-- row 14: C = 0 or > 1,024, M > 4,096, L > 8,192, E > 256
unfoldable pub over : Sizes → Bool
over z = eqb z.chunks 0 || (ltb 1024 z.chunks || (ltb 4096 z.modules || (ltb 8192 z.entries || ltb 256 z.bits)))

-- row 15: an area shorter than C×C + 32×(C + M + L + 1)
unfoldable pub short : Sizes → List ℕ → Bool
short z a = ltb (length a) (room z)

-- how many of the n numbers from `at` on misfit
unfoldable pub faults : List ℕ → ℕ → ℕ → ℕ → Bool → ℕ
faults l at n top free = count (λ i. misfit top free (get_or l (at + i) 0)) n

-- r is that number
pub record Faults (l : List ℕ) (at n top : ℕ) (free : Bool) (r : ℕ) : Type 0 where
  pub value : r ≡ faults l at n top free
  pub few : r ≤ n

-- the header: more initial chunks than made ones, more made than C, more sets than leave a place for each chunk still to be made, used entries
-- within L
unfoldable pub head_fault : Sizes → List ℕ → Bool
head_fault z a =
    ltb (cell a (head z 1)) (cell a (head z 0)) || (ltb z.chunks (cell a (head z 1)) || (ltb (z.chunks + cell a (head z 1)) (cell a (head z 3)) || ltb z.entries (cell a (head z 4))))

-- row x of the flags, n of the c chunks made: no self-dependency, and none on a chunk that isn't made
unfoldable pub row_fault : List ℕ → ℕ → ℕ → ℕ → Bool
row_fault a c n x = ltb 0 (faults a (x * c + x) 1 1 false + faults a (x * c + n) (c - n) 1 false)

-- the flags: a row of a made chunk has a fault, or one of another isn't empty
unfoldable pub flags_fault : List ℕ → ℕ → ℕ → Bool
flags_fault a c n = some_below (row_fault a c n) n || ltb 0 (faults a (n * c) ((c - n) * c) 1 false)

-- every index in range, and no initial chunk needing creation
unfoldable pub index_faults : Sizes → List ℕ → ℕ
index_faults z a =
    let made = cell a (head z 1) in
    faults a (set_chunk z 0) (cell a (head z 3)) made false + faults a (key z 0) z.chunks made true + faults a (home z 0) z.modules made true
    + faults a (entry_chunk z 0) (cell a (head z 4)) made false + faults a (entry_module z 0) (cell a (head z 4)) z.modules false + faults a (need z 0) (cell a (head z 0)) 1 false

-- every index in range of the merges: a chunk that is made was merged into one that is, or isn't merged; no other chunk was
unfoldable pub lane_faults : Sizes → List ℕ → ℕ
lane_faults z a = let made = cell a (head z 1) in faults a (into z 0) made made true + faults a (into z made) (z.chunks - made) 0 true

-- An area whose merges run in a ring is inconsistent; the merges are looked at only where merged chunks stand for their target
unfoldable pub merges_fault : Sizes → List ℕ → Bool
merges_fault z a = mode_in z a && (ltb 0 (lane_faults z a) || cyclic (merged_into (into_in z a)) (below (cell a (head z 1))))

-- the first n sets: one has a bit at or above E, or two are equal (sets distinct)
unfoldable pub out_of_range : Sizes → List ℕ → ℕ → Bool
out_of_range z a i = not (ltb (lanes a (set_place z i) 1) (2 ^ z.bits))

unfoldable pub sets_fault : Sizes → List ℕ → ℕ → Bool
sets_fault z a n = some_below (out_of_range z a) n || twice (λ i. lanes a (set_place z i) 1) n

-- row 21, for an area whose header has no fault
abbrev pub body_fault : Sizes → List ℕ → Bool
body_fault z a = flags_fault a z.chunks (cell a (head z 1)) || (ltb 0 (index_faults z a) || (merges_fault z a || sets_fault z a (cell a (head z 3))))

-- row 21
unfoldable pub inconsistent : Sizes → List ℕ → Bool
inconsistent z a = head_fault z a || body_fault z a
