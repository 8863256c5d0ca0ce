-- What each method does to the merge graph, and the pass. Assumes nothing.
use Rattle.std.specs.Prelude.{ℕ, zero, suc, ◌+◌, Bool, true, false, not, cond, ◌&&◌, ◌||◌, List, [], ◌∷◌, ◌++◌, get_or, length, ltb, leb, eqb}
use Rattle.graphs.specs.Count.{count}
use Rattle.graphs.specs.Lists.{some_below, below}
use Rattle.graphs.specs.Walk.{via}
use Rattle.graph_walks.specs.Closed.{closed}
use Rattle.graph_walks.specs.Counted.{without}
use Rattle.merge_state.specs.State.{None, Graph, put, chunk_of, flag, at}
use Rattle.merge_state.specs.Merges.{end, counts, waits}

-- Module m is listed with chunk x: it is appended to the chunk's modules, its side effects are or-ed in, and it is assigned where it was put last.
unfoldable pub appended : List ℕ → Graph → ℕ → ℕ → Graph
appended effs g x m = record {
  initial = g.initial;
  made = g.made;
  created = g.created;
  depends = g.depends;
  needs = g.needs;
  sets = g.sets;
  keys = g.keys;
  effects = put g.effects x (g.effects x || flag effs m);
  log = g.log ++ ((x, m) ∷ []);
  home = put g.home m x;
  mode = g.mode;
  into = g.into;
}

-- A chunk that needs creation is made: number `made`, named with set v, with no module, dependency or side effect yet
unfoldable pub opened : Graph → ℕ → Graph
opened g v = record {
  initial = g.initial;
  created = g.created;
  depends = g.depends;
  log = g.log;
  home = g.home;
  keys = g.keys;
  made = g.made + 1;
  effects = put g.effects g.made false;
  needs = put g.needs g.made true;
  sets = g.sets ++ ((v, g.made) ∷ []);
  mode = g.mode;
  into = g.into;
}

-- `init_module_assignment`: appends to the chunk of that set, or makes a chunk that needs creation
unfoldable pub assigned_to : List ℕ → Graph → ℕ → ℕ → Graph
assigned_to effs g m v = cond (eqb (chunk_of v g.sets) None) (appended effs (opened g v) g.made m) (appended effs g (chunk_of v g.sets) m)

-- `register_chunk_graph_index` replaces
unfoldable pub registered : Graph → ℕ → ℕ → Graph
registered g k x = record {
  initial = g.initial;
  made = g.made;
  created = g.created;
  depends = g.depends;
  effects = g.effects;
  needs = g.needs;
  log = g.log;
  sets = g.sets;
  home = g.home;
  keys = put g.keys k x;
  mode = g.mode;
  into = g.into;
}

-- a dependency of module m lies in chunk y
unfoldable pub module_on : Graph → List ℕ → List ℕ → ℕ → ℕ → Bool
module_on g starts deps m y = some_below (λ k. (leb (get_or starts m 0) k && ltb k (get_or starts (m + 1) 0)) && eqb (g.home (get_or deps k 0)) y) (length deps)

-- a module listed with chunk x has a dependency in chunk y
unfoldable pub listed_on : Graph → List ℕ → List ℕ → ℕ → ℕ → Bool
listed_on g starts deps x y = some_below (λ i. eqb (at g.log i).0 x && module_on g starts deps (at g.log i).1 y) (length g.log)

-- `calc_chunk_dependencies` adds to existing sets the chunks of dependency modules, if assigned and different
unfoldable pub calculated : Graph → List ℕ → List ℕ → Graph
calculated g starts deps = record {
  initial = g.initial;
  made = g.made;
  created = g.created;
  effects = g.effects;
  needs = g.needs;
  log = g.log;
  sets = g.sets;
  home = g.home;
  keys = g.keys;
  depends = λ x y. g.depends x y || ((not (eqb y None) && not (eqb x y)) && listed_on g starts deps x y);
  mode = g.mode;
  into = g.into;
}

-- `is_reachable` needs one step or more; in the mode it follows the dependencies that count, each of its two chunks standing for the end of its merges
unfoldable pub reachable : Graph → ℕ → ℕ → Bool
reachable g x y = cond g.mode (via (counts g) (below g.made) (end g x) (end g y)) (via g.depends (below g.made) x y)

-- `would_create_circular_dependency`: from the union of source's and target's dependencies, closed under dependency, yes if the target is
-- in it or a member depends on the source, for dependencies d of the chunks below n
unfoldable pub warns : (ℕ → ℕ → Bool) → ℕ → ℕ → ℕ → Bool
warns d n s t = closed d n s t t || some_below (λ x. closed d n s t x && d x s) n

-- In the mode the warning is yes exactly when the fused chunk lies on a cycle with another; a direct dependency alone doesn't warn.
unfoldable pub warn : Graph → ℕ → ℕ → Bool
warn g s t = cond g.mode (warns (without (counts g) s t) g.made s t) (warns g.depends g.made s t)

-- The target gets the union without itself, the source's set empties
unfoldable pub absorbed : (ℕ → ℕ → Bool) → ℕ → ℕ → ℕ → ℕ → Bool
absorbed d t s = put (put d t (λ y. (d t y || d s y) && not (eqb y t))) s (λ y. false)

-- `merge_chunk_dependencies`: the same, and side effects are or-ed. Others still name the source, also the target if it did. In the mode the
-- merge is recorded.
unfoldable pub merged : Graph → ℕ → ℕ → Graph
merged g t s = record {
  initial = g.initial;
  made = g.made;
  created = g.created;
  needs = g.needs;
  log = g.log;
  sets = g.sets;
  home = g.home;
  keys = g.keys;
  depends = absorbed g.depends t s;
  effects = put g.effects t (g.effects t || g.effects s);
  mode = g.mode;
  into = cond g.mode (put g.into s t) g.into;
}

-- Created with number initial + created so far, and registered
unfoldable pub created_chunk : Graph → ℕ → Graph
created_chunk g x = record {
  initial = g.initial;
  made = g.made;
  depends = g.depends;
  effects = g.effects;
  needs = g.needs;
  log = g.log;
  sets = g.sets;
  home = g.home;
  created = g.created + 1;
  keys = put g.keys (g.initial + g.created) x;
  mode = g.mode;
  into = g.into;
}

-- The pass, as far as it has come: the graph, and the two answer lists
pub record Passed : Type 0 where
  pub graph : Graph
  pub kinds : List ℕ
  pub numbers : List ℕ

-- candidate x with proposal p and bar b: merged if proposed, unwarned and unbarred
unfoldable pub merges : Graph → ℕ → ℕ → ℕ → Bool
merges g x p b = (not (eqb p None) && eqb b 0) && not (warn g x p)

-- then dependencies merge; else it is created
unfoldable pub candidate : Passed → ℕ → ℕ → ℕ → Passed
candidate r x p b =
    let g = r.graph in
    cond (merges g x p b)
    (record { graph = merged g p x; kinds = r.kinds ++ (0 ∷ []); numbers = r.numbers ++ (p ∷ []) })
    (record { graph = created_chunk g x; kinds = r.kinds ++ (1 ∷ []); numbers = r.numbers ++ ((g.initial + g.created) ∷ []) })

-- Per chunk needing creation in rising index there are a proposed initial chunk or None and a bar: after the chunks below k
unfoldable pub passed : Graph → List ℕ → List ℕ → ℕ → Passed
passed g props bars zero = record { graph = g; kinds = []; numbers = [] }
passed g props bars (suc k) =
    let r = passed g props bars k in
    cond (waits g k) (candidate r k (get_or props (count (waits g) k) None) (get_or bars (count (waits g) k) 0)) r
