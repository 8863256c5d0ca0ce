-- `new`: the merge graph after a loading. Assumes nothing.
use Rattle.std.specs.Prelude.{ℕ, zero, suc, ◌+◌, ◌*◌, Bool, false, not, cond, ◌||◌, List, [], ◌∷◌, get_or, length, take, drop, ltb, leb, eqb}
use Rattle.graphs.specs.Count.{count}
use Rattle.graphs.specs.Lists.{some_below}
use Rattle.entry_set.specs.Sets.{value, legal, width}
use Rattle.merge_state.specs.declared.Sizes.{Sizes}
use Rattle.merge_state.specs.State.{None, Graph, yes, pairs}
use Rattle.merge_state.specs.Methods.{appended}
use Rattle.merge_state.specs.Table.{bad_starts, other_length, any_misfit}

-- What `new` is lent: how many chunks are initial, their modules by starts, the sets of the pairs one after the other, the pairs' chunks,
-- the modules' side effects, and the mode, chosen at loading by a nonzero number
pub record Lent : Type 0 where
  pub initial : ℕ
  pub starts : List ℕ
  pub modules : List ℕ
  pub flat : List ℕ
  pub chunks : List ℕ
  pub effects : List ℕ
  pub mode : ℕ

-- The chunk with which entry k of the module list is listed: how many chunks' lists end at or before k
unfoldable pub lister : List ℕ → ℕ → ℕ → ℕ
lister starts n k = count (λ x. leb (get_or starts (x + 1) 0) k) n

-- the i-th lent set, the i-th lent pair, and all of them
abbrev pub set_at : ℕ → List ℕ → ℕ → List ℕ
set_at w flat i = take w (drop (i * w) flat)

abbrev pub lent_pair : ℕ → List ℕ → List ℕ → ℕ → ℕ × ℕ
lent_pair w flat homes i = (value (set_at w flat i), get_or homes i 0)

abbrev pub lent_pairs : Sizes → Lent → List (ℕ × ℕ)
lent_pairs z n = pairs (lent_pair (width z.bits) n.flat n.chunks) (length n.chunks)

-- `new` takes each initial chunk's modules and pairs (set, chunk): the first k list entries are in
unfoldable pub loaded : Sizes → Lent → ℕ → Graph
loaded z n zero = record {
  initial = n.initial;
  made = n.initial;
  created = 0;
  depends = λ x y. false;
  effects = λ x. false;
  needs = λ x. false;
  log = [];
  sets = lent_pairs z n;
  home = λ m. None;
  keys = λ k. cond (ltb k n.initial) k None;
  mode = yes n.mode;
  into = λ x. None;
}
loaded z n (suc k) = appended n.effects (loaded z n k) (lister n.starts n.initial k) (get_or n.modules k 0)

-- number j is one of those before it; two of the first n numbers are equal
unfoldable pub came_before : (ℕ → ℕ) → ℕ → Bool
came_before f j = some_below (λ i. eqb (f i) (f j)) j

unfoldable pub twice : (ℕ → ℕ) → ℕ → Bool
twice f n = some_below (came_before f) n

-- The rows of the lists, after 14 and 15: 16, 17, 19
unfoldable pub over_load : Sizes → Lent → Bool
over_load z n = ltb z.chunks n.initial || ltb z.chunks (length n.chunks)

unfoldable pub bad_load : Sizes → Lent → Bool
bad_load z n =
    bad_starts n.initial n.starts (length n.modules) || (other_length n.flat (length n.chunks * width z.bits) || other_length n.effects z.modules)

unfoldable pub later_load : Sizes → Lent → List (Bool × ℕ)
later_load z n =
    let w = width z.bits in
    let p = length n.chunks in
    (any_misfit z.modules false n.modules || (some_below (λ i. not (legal z.bits (set_at w n.flat i))) p || any_misfit n.initial false n.chunks), 16)
    ∷ (twice (λ i. value (set_at w n.flat i)) p, 17) ∷ (ltb z.entries (length n.modules), 19) ∷ []

-- the graph then
unfoldable pub load : Sizes → Lent → Graph
load z n = loaded z n (length n.modules)
