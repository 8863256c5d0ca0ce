-- The bench cases of the merge graph: P9 to P13, and further ones. Assumes nothing.
use Rattle.std.specs.Prelude.{ℕ, Bool, true, false, List, [], ◌∷◌}
use Rattle.merge_state.specs.State.{None}
use Rattle.merge_state.specs.Table.{Call, done, refused, says, chunk, nothing, lists, would_create_circular_dependency, is_reachable, merge_chunk_dependencies, to_temp_idx, pass}
use Rattle.cases.specs.MergeRun.{MergeCase}

-- the chunks of P9 to P13: source, target and two others
abbrev s : ℕ
s = 0

abbrev t : ℕ
t = 1

abbrev c : ℕ
c = 2

abbrev d : ℕ
d = 3

-- four initial chunks with these dependencies: the warning about source s and target t, which changes nothing
abbrev warned_in : Bool → List (ℕ × ℕ) → Bool → List (List ℕ) → MergeCase
warned_in mode depends answer end =
    record {
      mode = mode;
      initial = 4;
      made = 4;
      depends = depends;
      calls = would_create_circular_dependency s t ∷ [];
      expected = record { replies = says answer ∷ []; end = end };
    }

abbrev warned : List (ℕ × ℕ) → Bool → List (List ℕ) → MergeCase
warned = warned_in false

-- s on t only: yes
abbrev pub P9 : MergeCase
P9 = warned ((s, t) ∷ []) true ((t ∷ []) ∷ [] ∷ [] ∷ [] ∷ [])

-- t on s only: no
abbrev pub P10 : MergeCase
P10 = warned ((t, s) ∷ []) false ([] ∷ (s ∷ []) ∷ [] ∷ [] ∷ [])

-- t on c, c on s: yes
abbrev pub P11 : MergeCase
P11 = warned ((t, c) ∷ (c, s) ∷ []) true ([] ∷ (c ∷ []) ∷ (s ∷ []) ∷ [] ∷ [])

-- s on c, c and d mutual: no
abbrev pub P12 : MergeCase
P12 = warned ((s, c) ∷ (c, d) ∷ (d, c) ∷ []) false ((c ∷ []) ∷ [] ∷ (d ∷ []) ∷ (c ∷ []) ∷ [])

-- s {c, t}, t {d, s} merged: t {c, d, s}, s {}
abbrev pub P13 : MergeCase
P13 =
    record {
      mode = false;
      initial = 4;
      made = 4;
      depends = (s, c) ∷ (s, t) ∷ (t, d) ∷ (t, s) ∷ [];
      calls = merge_chunk_dependencies t s ∷ [];
      expected = record { replies = done ∷ []; end = [] ∷ (s ∷ c ∷ d ∷ []) ∷ [] ∷ [] ∷ [] };
    }

-- the rows 16 and 20, in this order, change nothing
abbrev pub refusals : MergeCase
refusals =
    record {
      mode = false;
      initial = 2;
      made = 2;
      depends = (0, 1) ∷ [];
      calls =
          would_create_circular_dependency 2 2
          ∷ would_create_circular_dependency 1 1
          ∷ merge_chunk_dependencies 2 2
          ∷ merge_chunk_dependencies 0 0
          ∷ is_reachable 0 2
          ∷ is_reachable 0 0
          ∷ is_reachable 0 1
          ∷ [];
      expected =
          record {
            replies = refused 16 ∷ refused 20 ∷ refused 16 ∷ refused 20 ∷ refused 16 ∷ says false ∷ says true ∷ [];
            end = (1 ∷ []) ∷ [] ∷ [];
          };
    }

-- the warning misses a loop through a chunk that was merged away. 2 merges into 0 and 3 into 1, both unwarned; then 0 depends on 1
-- and 1 on 2, which is 0 now
abbrev pub stale : MergeCase
stale =
    record {
      mode = false;
      initial = 2;
      made = 4;
      depends = (0, 1) ∷ (3, 2) ∷ [];
      calls =
          would_create_circular_dependency 2 0
          ∷ merge_chunk_dependencies 0 2
          ∷ would_create_circular_dependency 3 1
          ∷ merge_chunk_dependencies 1 3
          ∷ is_reachable 0 0
          ∷ [];
      expected = record { replies = says false ∷ done ∷ says false ∷ done ∷ says false ∷ []; end = (1 ∷ []) ∷ (2 ∷ []) ∷ [] ∷ [] ∷ [] };
    }

-- candidates 2 and 3: the pass with these proposals and bars
abbrev commits : List ℕ → List ℕ → Call
commits proposals bars = pass proposals bars (0 ∷ 0 ∷ []) (0 ∷ 0 ∷ [])

-- the same two merges by a pass. A second pass takes both candidates again: one barred and one not proposed, they are created. A
-- proposal that isn't initial is 16, a list of another length 15, and with 2 initial, 6 created and 2 candidates there is no room in 8: 18
abbrev pub passes : MergeCase
passes =
    record {
      mode = false;
      initial = 2;
      made = 4;
      depends = (0, 1) ∷ (3, 2) ∷ [];
      calls =
          commits (0 ∷ 1 ∷ []) (0 ∷ 0 ∷ [])
          ∷ commits (0 ∷ None ∷ []) (1 ∷ 0 ∷ [])
          ∷ to_temp_idx 3
          ∷ to_temp_idx 4
          ∷ commits (0 ∷ 2 ∷ []) (1 ∷ 1 ∷ [])
          ∷ commits (0 ∷ []) (1 ∷ [])
          ∷ commits (0 ∷ 1 ∷ []) (1 ∷ 1 ∷ [])
          ∷ commits (0 ∷ 1 ∷ []) (1 ∷ 1 ∷ [])
          ∷ commits (0 ∷ 1 ∷ []) (1 ∷ 1 ∷ [])
          ∷ to_temp_idx 7
          ∷ [];
      expected =
          record {
            replies =
                lists (0 ∷ 0 ∷ []) (0 ∷ 1 ∷ [])
                ∷ lists (1 ∷ 1 ∷ []) (2 ∷ 3 ∷ [])
                ∷ chunk 3
                ∷ nothing
                ∷ refused 16
                ∷ refused 15
                ∷ lists (1 ∷ 1 ∷ []) (4 ∷ 5 ∷ [])
                ∷ lists (1 ∷ 1 ∷ []) (6 ∷ 7 ∷ [])
                ∷ refused 18
                ∷ chunk 3
                ∷ [];
            end = (1 ∷ []) ∷ (2 ∷ []) ∷ [] ∷ [] ∷ [];
          };
    }

-- where merged chunks stand for their target, a direct dependency of s on t alone doesn't warn; but one of t by way of c does
abbrev pub direct : MergeCase
direct = warned_in true ((s, t) ∷ []) false ((t ∷ []) ∷ [] ∷ [] ∷ [] ∷ [])

abbrev pub roundabout : MergeCase
roundabout = warned_in true ((s, t) ∷ (t, c) ∷ (c, s) ∷ []) true ((t ∷ []) ∷ (c ∷ []) ∷ (s ∷ []) ∷ [] ∷ [])

-- the loop that `stale` lets through is warned of, since 2 stands for 0. A merged chunk is no source or target: 28, right after 20
abbrev pub followed : MergeCase
followed =
    record {
      mode = true;
      initial = 2;
      made = 4;
      depends = (0, 1) ∷ (3, 2) ∷ [];
      calls =
          would_create_circular_dependency 2 0
          ∷ merge_chunk_dependencies 0 2
          ∷ would_create_circular_dependency 3 1
          ∷ is_reachable 3 1
          ∷ is_reachable 2 1
          ∷ would_create_circular_dependency 2 1
          ∷ would_create_circular_dependency 1 2
          ∷ merge_chunk_dependencies 2 1
          ∷ merge_chunk_dependencies 2 2
          ∷ [];
      expected =
          record {
            replies = says false ∷ done ∷ says true ∷ says true ∷ says true ∷ refused 28 ∷ refused 28 ∷ refused 28 ∷ refused 20 ∷ [];
            end = (1 ∷ []) ∷ [] ∷ [] ∷ (2 ∷ []) ∷ [];
          };
    }

-- two merges are followed to their end: 0 into 1, 1 into 2
abbrev pub chained : MergeCase
chained =
    record {
      mode = true;
      initial = 4;
      made = 4;
      depends = (3, 0) ∷ (1, 0) ∷ [];
      calls = merge_chunk_dependencies 1 0 ∷ merge_chunk_dependencies 2 1 ∷ is_reachable 3 2 ∷ is_reachable 3 0 ∷ is_reachable 0 1 ∷ would_create_circular_dependency 3 2 ∷ [];
      expected = record { replies = done ∷ done ∷ says true ∷ says true ∷ says false ∷ says false ∷ []; end = [] ∷ [] ∷ (0 ∷ []) ∷ (0 ∷ []) ∷ [] };
    }

-- a chunk merged away is no candidate of a later pass: after 2 is merged, only 3 is one. A proposal that was merged away is 28, before 18
abbrev pub later_pass : MergeCase
later_pass =
    record {
      mode = true;
      initial = 2;
      made = 4;
      depends = (0, 1) ∷ (3, 2) ∷ [];
      calls =
          commits (0 ∷ 1 ∷ []) (0 ∷ 0 ∷ [])
          ∷ commits (0 ∷ 1 ∷ []) (0 ∷ 0 ∷ [])
          ∷ pass (None ∷ []) (0 ∷ []) (0 ∷ []) (0 ∷ [])
          ∷ merge_chunk_dependencies 1 0
          ∷ pass (0 ∷ []) (1 ∷ []) (0 ∷ []) (0 ∷ [])
          ∷ [];
      expected =
          record {
            replies = lists (0 ∷ 1 ∷ []) (0 ∷ 2 ∷ []) ∷ refused 15 ∷ lists (1 ∷ []) (3 ∷ []) ∷ done ∷ refused 28 ∷ [];
            end = [] ∷ [] ∷ [] ∷ (2 ∷ []) ∷ [];
          };
    }

abbrev pub merge_cases : List MergeCase
merge_cases = P9 ∷ P10 ∷ P11 ∷ P12 ∷ P13 ∷ refusals ∷ stale ∷ passes ∷ direct ∷ roundabout ∷ followed ∷ chained ∷ later_pass ∷ []
