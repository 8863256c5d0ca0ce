-- The table of bench cases, and the one test: what comes out of each case is what must. Assumes nothing.
use Rattle.std.specs.Prelude.{◌≡◌, refl, List, map, ◌++◌}
use Rattle.graphs.specs.Lists.{any, all, has, below}
use Rattle.graphs.specs.Count.{count}
use Rattle.graphs.specs.Tab.{tab}
use Rattle.graphs.specs.Walk.{via, cyclic, only}
use Rattle.entry_set.specs.Joined.{joined, parts}
use Rattle.move_ledger.specs.Graph.{owner, lies, members, entry, facade, mult, edge, insert, rising, row, rows, edges, sum, gained, reach}
use Rattle.move_ledger.specs.Ledger.{kept, index, put, smallest_empty, free_place, register, decide, move, kth, ask, call, answers, ledger}
use Rattle.move_ledger.specs.Loading.{row4, row5, row6, first_row, entry_sets, row7, row8, loading_row, loading}
use Rattle.cases.specs.Run.{MoveCase, MoveOutcome, move_outcome, tries, every, shut}
use Rattle.cases.specs.Moves.{move_cases}
use Rattle.cases.specs.Loadings.{loadings}
use Rattle.graph_walks.specs.Closed.{closed}
use Rattle.graph_walks.specs.Counted.{counted, without}
use Rattle.merge_state.specs.Merges.{ending}
use Rattle.merge_state.specs.State.{misfit}
use Rattle.merge_state.specs.State as state
use Rattle.merge_state.specs.Methods.{reachable, warns, absorbed, merged, created_chunk, candidate, passed}
use Rattle.merge_state.specs.Methods as methods
use Rattle.merge_state.specs.Table.{first_fitting, any_misfit, later, acted, turned}
use Rattle.cases.specs.MergeRun.{MergeCase, MergeOutcome, merge_outcome, among, turn, replies_to, left_by, needed_by, dependencies}
use Rattle.cases.specs.Merges.{merge_cases}

-- a case, and an outcome, of one of the graphs
pub data Case : Type 0 where
  moves : MoveCase → Case
  merges : MergeCase → Case

pub data Outcome : Type 0 where
  moved : MoveOutcome → Outcome
  fused : MergeOutcome → Outcome

abbrev pub outcome : Case → Outcome
outcome (moves c) = moved (move_outcome c)
outcome (merges c) = fused (merge_outcome c)

abbrev pub expected : Case → Outcome
expected (moves c) = moved c.expected
expected (merges c) = fused c.expected

abbrev pub table : List Case
table = map moves (move_cases ++ loadings) ++ map merges merge_cases

pub cases_right : map outcome table ≡ map expected table
unfolding move_outcome tries every shut any all has below count tab via cyclic only joined parts owner lies members entry facade mult edge insert rising row rows edges sum gained reach kept index put smallest_empty free_place register decide move kth ask call answers ledger row4 row5 row6 first_row entry_sets row7 row8 loading_row loading closed counted without ending state.put misfit reachable warns methods.warn absorbed merged created_chunk methods.merges candidate passed first_fitting any_misfit later acted turned merge_outcome among turn replies_to left_by needed_by dependencies
cases_right = refl
