-- Where the numbers of a merge area stand: C × C dependency flags, 32 header numbers, then 32 lanes each of C, of M and of L numbers. Assumes nothing.
use Rattle.std.specs.Prelude.{ℕ, ◌+◌, ◌*◌, List, get_or}
use Rattle.merge_state.specs.declared.Sizes.{Sizes}

-- the length that an area has at least
abbrev pub room : Sizes → ℕ
room z = z.chunks * z.chunks + 32 * (z.chunks + z.modules + z.entries + 1)

-- Chunk x depends on chunk y where the flag at x × C + y isn't 0.

-- header: 0 initial chunks, 1 chunks made, 2 created over all passes, 3 sets, 4 list entries in use, 5 whether merged chunks stand for their
-- target
abbrev pub head : Sizes → ℕ → ℕ
head z k = z.chunks * z.chunks + k

-- the eight words of set i and its chunk, i below 2 × C
abbrev pub set_place : Sizes → ℕ → ℕ
set_place z i = z.chunks * z.chunks + 32 + 8 * i

abbrev pub set_chunk : Sizes → ℕ → ℕ
set_chunk z i = z.chunks * z.chunks + 32 + 16 * z.chunks + i

-- chunk x's side effects and need of creation
abbrev pub side : Sizes → ℕ → ℕ
side z x = z.chunks * z.chunks + 32 + 18 * z.chunks + x

abbrev pub need : Sizes → ℕ → ℕ
need z x = z.chunks * z.chunks + 32 + 19 * z.chunks + x

-- the chunk registered for key k, or None
abbrev pub key : Sizes → ℕ → ℕ
key z k = z.chunks * z.chunks + 32 + 20 * z.chunks + k

-- the chunk that chunk x was merged into, or None; looked at only where merged chunks stand for their target, and written None by a loading in either mode
abbrev pub into : Sizes → ℕ → ℕ
into z x = z.chunks * z.chunks + 32 + 21 * z.chunks + x

-- module m's chunk, or None
abbrev pub home : Sizes → ℕ → ℕ
home z m = z.chunks * z.chunks + 32 + 32 * z.chunks + m

-- list entry i: its chunk and its module
abbrev pub entry_chunk : Sizes → ℕ → ℕ
entry_chunk z i = z.chunks * z.chunks + 32 + 32 * z.chunks + 32 * z.modules + i

abbrev pub entry_module : Sizes → ℕ → ℕ
entry_module z i = z.chunks * z.chunks + 32 + 32 * z.chunks + 32 * z.modules + z.entries + i

-- a number of the area
abbrev pub cell : List ℕ → ℕ → ℕ
cell a i = get_or a i 0
