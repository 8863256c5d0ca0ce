-- What the functions that write an area rely on. Assumes nothing.
use Rattle.std.specs.Prelude.{ℕ, ◌+◌, ◌*◌, ◌<◌, ◌≤◌, ◌≡◌, List, get_or, length}
use Rattle.merge_state.specs.declared.Sizes.{Sizes}
use Rattle.merge_state.specs.State.{None}
use Rattle.merge_area.specs.Layout.{room, cell, head, home, entry_chunk, entry_module}
use Rattle.merge_area.specs.Within.{Within}

pub record CanAppend (z : Sizes) (a : List ℕ) (x m : ℕ) : Type 0 where
  pub within : Within z
  pub long : room z ≤ length a
  pub chunk : x < z.chunks
  pub listed : m < z.modules
  pub left : cell a (head z 4) < z.entries

pub record CanOpen (z : Sizes) (a : List ℕ) : Type 0 where
  pub within : Within z
  pub long : room z ≤ length a
  pub left : cell a (head z 1) < z.chunks
  pub few : cell a (head z 3) < 2 * z.chunks

pub record CanAssign (z : Sizes) (a : List ℕ) (m x : ℕ) : Type 0 where
  pub within : Within z
  pub long : room z ≤ length a
  pub listed : m < z.modules
  pub left : cell a (head z 4) < z.entries
  pub room : x ≡ None → (cell a (head z 1) < z.chunks) × (cell a (head z 3) < 2 * z.chunks)
  pub chunk : (x ≡ None → ⊥) → x < z.chunks

pub record CanLink (z : Sizes) (a : List ℕ) (x y : ℕ) : Type 0 where
  pub within : Within z
  pub long : room z ≤ length a
  pub from : x < z.chunks
  pub to : (y ≡ None → ⊥) → y < z.chunks

-- every module's chunk is None or in range
abbrev pub Homed : Sizes → List ℕ → Type 0
Homed z a = (m : ℕ) → m < z.modules → (cell a (home z m) ≡ None → ⊥) → cell a (home z m) < z.chunks

pub record CanLinked (z : Sizes) (a deps : List ℕ) (x from n : ℕ) : Type 0 where
  pub within : Within z
  pub long : room z ≤ length a
  pub chunk : x < z.chunks
  pub homed : Homed z a
  pub part : from + n ≤ length deps
  pub modules : (i : ℕ) → i < length deps → get_or deps i 0 < z.modules

pub record CanCalc (z : Sizes) (a starts deps : List ℕ) (used : ℕ) : Type 0 where
  pub within : Within z
  pub long : room z ≤ length a
  pub homed : Homed z a
  pub few : used ≤ z.entries
  pub chunks : (i : ℕ) → i < used → cell a (entry_chunk z i) < z.chunks
  pub listed : (i : ℕ) → i < used → cell a (entry_module z i) < z.modules
  pub modules : (i : ℕ) → i < length deps → get_or deps i 0 < z.modules
  pub count : length starts ≡ z.modules + 1
  pub rising : (i : ℕ) → i < z.modules → get_or starts i 0 ≤ get_or starts (i + 1) 0
  pub ends : (i : ℕ) → i ≤ z.modules → get_or starts i 0 ≤ length deps

pub record CanMerge (l : List ℕ) (c t s : ℕ) : Type 0 where
  pub cells : c * c ≤ length l
  pub target : t < c
  pub source : s < c
  pub differ : t ≡ s → ⊥

pub record CanMergeArea (z : Sizes) (a : List ℕ) (t s : ℕ) : Type 0 where
  pub within : Within z
  pub long : room z ≤ length a
  pub target : t < z.chunks
  pub source : s < z.chunks
  pub differ : t ≡ s → ⊥

pub record CanCreate (z : Sizes) (a : List ℕ) : Type 0 where
  pub within : Within z
  pub long : room z ≤ length a
  pub left : cell a (head z 0) + cell a (head z 2) < z.chunks
