-- Cases of places that empty sets give up to others, and of atoms that are fixed. Assumes nothing.
use Rattle.std.specs.Prelude.{[], ◌∷◌, ◌++◌}
use Rattle.move_ledger.specs.Graph.{none}
use Rattle.move_ledger.specs.Answer.{refused, acyclic, cyclic, rejected, set, number}
use Rattle.move_ledger.specs.Ledger.{try_move, asks, atom_set, atom_count, edge_count, chunk_count}
use Rattle.cases.specs.Run.{MoveCase}
use Rattle.cases.specs.MoveParts.{nobody, free, kept, moves}
use Rattle.cases.specs.MoveBasics.{P3}

-- P5's load with N = A + 1. The smallest empty set gives up its place: 4, which a rejected move has registered; of 3 and 5 the smaller, by a rejected
-- move too; 4 again; 5; and 7, not 3, which is empty only after that move. Then the rows 10 to 12
abbrev pub evicting : MoveCase
evicting =
    record {
      load = record { A = 2; D = 1; E = 3; starts = 0 ∷ 0 ∷ 1 ∷ []; dependencies = 0 ∷ []; hosts = none ∷ none ∷ 1 ∷ [] };
      fixed = free 2;
      N = 3;
      sets = 3 ∷ 5 ∷ [];
      size = 16384;
      calls =
          try_move 0 (4 ∷ [])
          ∷ try_move 0 (6 ∷ [])
          ∷ try_move 1 (6 ∷ [])
          ∷ try_move 0 (4 ∷ [])
          ∷ try_move 0 (7 ∷ [])
          ∷ try_move 0 (3 ∷ [])
          ∷ try_move 0 (1 ∷ [])
          ∷ try_move 2 (4 ∷ [])
          ∷ try_move 0 (8 ∷ [])
          ∷ try_move 0 (1 ∷ [])
          ∷ [];
      expected =
          record {
            start = acyclic;
            replies = rejected ∷ moves 1 1 0 ∷ moves 0 1 0 ∷ rejected ∷ moves 1 0 0 ∷ moves 1 1 0 ∷ moves 1 1 0 ∷ refused 10 ∷ refused 11 ∷ refused 12 ∷ [];
            end = kept (1 ∷ 6 ∷ []) (1 ∷ 3 ∷ 6 ∷ []);
          };
    }

-- atoms 0 and 1 on a cycle, 2 outside it. With N sets registered, 8 among them empty, a move of 2 to 16 is rejected before the trial and evicts nothing
abbrev pub outside : MoveCase
outside =
    record {
      load = record { A = 3; D = 2; E = 5; starts = 0 ∷ 1 ∷ 2 ∷ 2 ∷ []; dependencies = 1 ∷ 0 ∷ []; hosts = nobody 5 };
      fixed = free 3;
      N = 4;
      sets = 1 ∷ 2 ∷ 4 ∷ [];
      size = 16384;
      calls = try_move 0 (8 ∷ []) ∷ try_move 2 (16 ∷ []) ∷ asks (atom_count (8 ∷ [])) ∷ [];
      expected = record { start = cyclic; replies = rejected ∷ rejected ∷ number 0 ∷ []; end = kept (1 ∷ 2 ∷ 4 ∷ []) (1 ∷ 2 ∷ 4 ∷ 8 ∷ []) };
    }

-- one of 0 to 16 is rejected after the trial, which has evicted 8
abbrev pub inside : MoveCase
inside =
    record {
      load = outside.load;
      fixed = free 3;
      N = 4;
      sets = 1 ∷ 2 ∷ 4 ∷ [];
      size = 16384;
      calls = outside.calls ++ try_move 0 (16 ∷ []) ∷ [];
      expected = record { start = cyclic; replies = outside.expected.replies ++ rejected ∷ []; end = kept (1 ∷ 2 ∷ 4 ∷ []) (1 ∷ 2 ∷ 4 ∷ 16 ∷ []) };
    }

-- P3's load with atom 0 fixed, its mark neither 0 nor 1. 24 comes before 11, 12 and the graph, which is cyclic, and registers nothing; 10 comes
-- before 24; the other atom moves
abbrev pub fixing : MoveCase
fixing =
    record {
      load = P3.load;
      fixed = 7 ∷ 0 ∷ [];
      N = 3;
      sets = 1 ∷ 2 ∷ [];
      size = 16384;
      calls =
          try_move 0 (2 ∷ [])
          ∷ try_move 0 (1 ∷ [])
          ∷ try_move 0 (4 ∷ [])
          ∷ try_move 0 []
          ∷ try_move 0 (3 ∷ [])
          ∷ try_move 2 (3 ∷ [])
          ∷ asks (atom_set 0)
          ∷ try_move 1 (4 ∷ [])
          ∷ try_move 1 (2 ∷ [])
          ∷ try_move 1 (1 ∷ [])
          ∷ [];
      expected =
          record {
            start = cyclic;
            replies =
                refused 24
                ∷ refused 24
                ∷ refused 24
                ∷ refused 24
                ∷ refused 24
                ∷ refused 10
                ∷ set (1 ∷ 0 ∷ 0 ∷ 0 ∷ [])
                ∷ refused 11
                ∷ refused 12
                ∷ moves 0 2 0
                ∷ [];
            end = kept (1 ∷ 1 ∷ []) (1 ∷ 2 ∷ []);
          };
    }

-- every atom fixed, in a cyclic graph: a loading asks nothing of the marks but their number
abbrev pub all_fixed : MoveCase
all_fixed =
    record {
      load = P3.load;
      fixed = 1 ∷ 4294967295 ∷ [];
      N = 3;
      sets = 1 ∷ 2 ∷ [];
      size = 16384;
      calls = try_move 0 (2 ∷ []) ∷ try_move 1 (1 ∷ []) ∷ asks edge_count ∷ asks chunk_count ∷ [];
      expected = record { start = cyclic; replies = refused 24 ∷ refused 24 ∷ number 2 ∷ number 2 ∷ []; end = kept (1 ∷ 2 ∷ []) (1 ∷ 2 ∷ []) };
    }
