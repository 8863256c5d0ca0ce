-- The merge graph that an area holds. Assumes nothing.
use Rattle.std.specs.Prelude.{ℕ, ◌+◌, ◌*◌, Bool, cond, ◌&&◌, List, ltb}
use Rattle.entry_set.specs.Lanes.{lanes}
use Rattle.merge_state.specs.declared.Sizes.{Sizes}
use Rattle.merge_state.specs.State.{None, Graph, yes, pairs}
use Rattle.merge_area.specs.Layout.{cell, head, set_place, set_chunk, side, need, key, into, home, entry_chunk, entry_module}

-- each field of the graph
unfoldable pub depends_in : Sizes → List ℕ → ℕ → ℕ → Bool
depends_in z a x y = (ltb x z.chunks && ltb y z.chunks) && yes (cell a (x * z.chunks + y))

unfoldable pub effects_in : Sizes → List ℕ → ℕ → Bool
effects_in z a x = ltb x z.chunks && yes (cell a (side z x))

unfoldable pub needs_in : Sizes → List ℕ → ℕ → Bool
needs_in z a x = ltb x z.chunks && yes (cell a (need z x))

abbrev pub entry : Sizes → List ℕ → ℕ → ℕ × ℕ
entry z a i = (cell a (entry_chunk z i), cell a (entry_module z i))

abbrev pub named_set : Sizes → List ℕ → ℕ → ℕ × ℕ
named_set z a i = (lanes a (set_place z i) 1, cell a (set_chunk z i))

abbrev pub log_in : Sizes → List ℕ → List (ℕ × ℕ)
log_in z a = pairs (entry z a) (cell a (head z 4))

abbrev pub sets-in : Sizes → List ℕ → List (ℕ × ℕ)
sets-in z a = pairs (named_set z a) (cell a (head z 3))

unfoldable pub home_in : Sizes → List ℕ → ℕ → ℕ
home_in z a m = cond (ltb m z.modules) (cell a (home z m)) None

unfoldable pub keys_in : Sizes → List ℕ → ℕ → ℕ
keys_in z a k = cond (ltb k z.chunks) (cell a (key z k)) None

-- chosen at loading by a nonzero number
unfoldable pub mode_in : Sizes → List ℕ → Bool
mode_in z a = yes (cell a (head z 5))

unfoldable pub into_in : Sizes → List ℕ → ℕ → ℕ
into_in z a x = cond (mode_in z a && ltb x z.chunks) (cell a (into z x)) None

abbrev pub read : Sizes → List ℕ → Graph
read z a = record {
  initial = cell a (head z 0);
  made = cell a (head z 1);
  created = cell a (head z 2);
  depends = depends_in z a;
  effects = effects_in z a;
  needs = needs_in z a;
  log = log_in z a;
  sets = sets-in z a;
  home = home_in z a;
  keys = keys_in z a;
  mode = mode_in z a;
  into = into_in z a;
}
