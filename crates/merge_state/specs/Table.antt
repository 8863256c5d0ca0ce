-- The calls of a merge list, the rows that each can be refused by, and what it answers and leaves. Assumes nothing.
use Rattle.std.specs.Prelude.{ℕ, zero, suc, ◌+◌, Bool, true, false, not, cond, ◌&&◌, ◌||◌, List, [], ◌∷◌, get_or, length, ltb, leb, eqb}
use Rattle.graphs.specs.Count.{count}
use Rattle.graphs.specs.Lists.{some_below}
use Rattle.entry_set.specs.Sets.{value, legal}
use Rattle.merge_state.specs.declared.Sizes.{Sizes}
use Rattle.merge_state.specs.State.{None, Graph, chunk_of, misfit}
use Rattle.merge_state.specs.Merges.{gone, waits}
use Rattle.merge_state.specs.Methods.{appended, assigned_to, registered, calculated, reachable, warn, merged, passed}

-- What a call answers
pub data Answer : Type 0 where
  done : Answer
  refused : ℕ → Answer
  says : Bool → Answer
  chunk : ℕ → Answer
  nothing : Answer
  lists : List ℕ → List ℕ → Answer

-- The calls of a merge list: the methods other than `new`, and the pass. A set is lent as numbers of 64 bits.
pub data Call : Type 0 where
  init_module_assignment : (m : ℕ) (set effs : List ℕ) → Call
  add_module_to_chunk : (m x : ℕ) (effs : List ℕ) → Call
  register_chunk_graph_index : (k x : ℕ) → Call
  to_temp_idx : (k : ℕ) → Call
  calc_chunk_dependencies : (starts deps : List ℕ) → Call
  would_create_circular_dependency : (source target : ℕ) → Call
  is_reachable : (from to : ℕ) → Call
  merge_chunk_dependencies : (target source : ℕ) → Call
  pass : (props bars kinds numbers : List ℕ) → Call

-- The first fitting row wins: its number, 0 where none fits
unfoldable pub first_fitting : List (Bool × ℕ) → ℕ
first_fitting [] = 0
first_fitting (r ∷ l) = cond r.0 r.1 (first_fitting l)

-- one of the first n numbers is above the next
unfoldable pub falling : ℕ → List ℕ → Bool
falling n l = some_below (λ i. ltb (get_or l (i + 1) 0) (get_or l i 0)) n

-- the fault of starts: not n + 1 of them, not from 0, falling, or not ending at d
unfoldable pub bad_starts : ℕ → List ℕ → ℕ → Bool
bad_starts n starts d =
    not (eqb (length starts) (n + 1)) || (not (eqb (get_or starts 0 0) 0) || (not (eqb (get_or starts n 0) d) || falling n starts))

-- the chunk isn't made yet
abbrev pub unmade : Graph → ℕ → Bool
unmade g x = leb g.made x

-- there is no such module; a list entry is needed and L are in use
abbrev pub no_module : Sizes → ℕ → Bool
no_module z m = leb z.modules m

abbrev pub full : Sizes → Graph → Bool
full z g = leb z.entries (length g.log)

abbrev pub other_length : List ℕ → ℕ → Bool
other_length l n = not (eqb (length l) n)

-- some number of a list isn't below top, nor None where that is allowed
unfoldable pub any_misfit : ℕ → Bool → List ℕ → Bool
any_misfit top free l = some_below (λ i. misfit top free (get_or l i 0)) (length l)

-- Row 14 by the call's own lists: over 8,192 module dependencies
unfoldable pub over_lists : Call → Bool
over_lists (init_module_assignment m set effs) = false
over_lists (add_module_to_chunk m x effs) = false
over_lists (register_chunk_graph_index k x) = false
over_lists (to_temp_idx k) = false
over_lists (calc_chunk_dependencies starts deps) = ltb 8192 (length deps)
over_lists (would_create_circular_dependency s t) = false
over_lists (is_reachable x y) = false
over_lists (merge_chunk_dependencies t s) = false
over_lists (pass props bars kinds numbers) = false

-- Row 15 by the call's own lists, those of the pass apart: a wrong length, or faulty starts, of which there are M + 1
unfoldable pub bad_lists : Sizes → Call → Bool
bad_lists z (init_module_assignment m set effs) = other_length effs z.modules
bad_lists z (add_module_to_chunk m x effs) = other_length effs z.modules
bad_lists z (register_chunk_graph_index k x) = false
bad_lists z (to_temp_idx k) = false
bad_lists z (calc_chunk_dependencies starts deps) = bad_starts z.modules starts (length deps)
bad_lists z (would_create_circular_dependency s t) = false
bad_lists z (is_reachable x y) = false
bad_lists z (merge_chunk_dependencies t s) = false
bad_lists z (pass props bars kinds numbers) = false

-- a proposed chunk has already been merged away; None is no chunk
abbrev pub any_gone : Graph → List ℕ → Bool
any_gone g l = some_below (λ i. gone g (get_or l i 0)) (length l)

-- The rows after 21: the pass's own four lists by 15, then 16 (for a proposal, that it isn't an initial chunk), 20, 28, 18, 19
unfoldable pub later : Sizes → Graph → Call → List (Bool × ℕ)
later z g (init_module_assignment m set effs) =
    (no_module z m || not (legal z.bits set), 16) ∷ (eqb (chunk_of (value set) g.sets) None && leb z.chunks g.made, 18) ∷ (full z g, 19) ∷ []
later z g (add_module_to_chunk m x effs) = (no_module z m || unmade g x, 16) ∷ (full z g, 19) ∷ []
later z g (register_chunk_graph_index k x) = (leb z.chunks k || unmade g x, 16) ∷ []
later z g (to_temp_idx k) = []
later z g (calc_chunk_dependencies starts deps) = (any_misfit z.modules false deps, 16) ∷ []
later z g (would_create_circular_dependency s t) = (unmade g s || unmade g t, 16) ∷ (eqb s t, 20) ∷ (gone g s || gone g t, 28) ∷ []
later z g (is_reachable x y) = (unmade g x || unmade g y, 16) ∷ []
later z g (merge_chunk_dependencies t s) = (unmade g t || unmade g s, 16) ∷ (eqb t s, 20) ∷ (gone g t || gone g s, 28) ∷ []
later z g (pass props bars kinds numbers) =
    let n = count (waits g) g.made in
    (other_length props n || (other_length bars n || (other_length kinds n || other_length numbers n)), 15) ∷ (any_misfit g.initial true props, 16) ∷ (any_gone g props, 28)
    ∷ (ltb z.chunks (g.initial + g.created + n), 18) ∷ []

-- What a call that isn't refused answers, and the graph that it leaves
unfoldable pub acted : Sizes → Graph → Call → Answer × Graph
acted z g (init_module_assignment m set effs) = (done, assigned_to effs g m (value set))
acted z g (add_module_to_chunk m x effs) = (done, appended effs g x m)
acted z g (register_chunk_graph_index k x) = (done, registered g k x)
acted z g (to_temp_idx k) = (cond (ltb k z.chunks && not (eqb (g.keys k) None)) (chunk (g.keys k)) nothing, g)
acted z g (calc_chunk_dependencies starts deps) = (done, calculated g starts deps)
acted z g (would_create_circular_dependency s t) = (says (warn g s t), g)
acted z g (is_reachable x y) = (says (reachable g x y), g)
acted z g (merge_chunk_dependencies t s) = (done, merged g t s)
acted z g (pass props bars kinds numbers) = let r = passed g props bars g.made in (lists r.kinds r.numbers, r.graph)

-- row n of the table fits, or none where n is 0: a refusal is its number, and no lent number changes
unfoldable pub turned : {A : Type 0} → ℕ → A → Answer × A → Answer × A
turned zero g r = r
turned (suc n) g r = (refused (suc n), g)
