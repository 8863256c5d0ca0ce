-- Cases of edges: facade edges, the order of a listing, sets of two numbers, and what a move tells of edges and of the chunks it reaches. Assumes nothing.
use Rattle.std.specs.Prelude.{[], ◌∷◌, ◌++◌}
use Rattle.move_ledger.specs.Graph.{none}
use Rattle.move_ledger.specs.Answer.{refused, acyclic, cyclic, rejected, set, number}
use Rattle.move_ledger.specs.Answer as answer
use Rattle.move_ledger.specs.Ledger.{try_move, asks, atom_set, atom_count, multiplicity, edge_count, edge_at, has_cycle}
use Rattle.cases.specs.Run.{MoveCase}
use Rattle.cases.specs.MoveParts.{nobody, free, kept, moves, found}

-- atom 1 depends on atom 0 and hosts bit 0: the facade edge from set 1 closes a cycle, until both share it
abbrev pub facade_verdict : MoveCase
facade_verdict =
    record {
      load = record { A = 2; D = 1; E = 2; starts = 0 ∷ 0 ∷ 1 ∷ []; dependencies = 0 ∷ []; hosts = 1 ∷ none ∷ [] };
      fixed = free 2;
      N = 3;
      sets = 1 ∷ 2 ∷ [];
      size = 16384;
      calls = asks has_cycle ∷ try_move 1 (1 ∷ []) ∷ asks has_cycle ∷ [];
      expected = record { start = cyclic; replies = cyclic ∷ moves 0 2 0 ∷ acyclic ∷ []; end = kept (1 ∷ 1 ∷ []) (1 ∷ 2 ∷ []) };
    }

-- edges in the order of their sets, which isn't that of the atoms; and a move that takes a facade edge off with its set's last atom,
-- while the cycle that the graph has stays
abbrev pub vanishing : MoveCase
vanishing =
    record {
      load = record { A = 3; D = 3; E = 4; starts = 0 ∷ 1 ∷ 3 ∷ 3 ∷ []; dependencies = 1 ∷ 0 ∷ 2 ∷ []; hosts = none ∷ none ∷ 0 ∷ none ∷ [] };
      fixed = free 3;
      N = 4;
      sets = 3 ∷ 5 ∷ 4 ∷ [];
      size = 16384;
      calls = asks edge_count ∷ asks (edge_at 0) ∷ asks (edge_at 1) ∷ asks (edge_at 2) ∷ asks (edge_at 3) ∷ asks (edge_at 4) ∷ try_move 2 (9 ∷ []) ∷ [];
      expected =
          record {
            start = cyclic;
            replies = number 4 ∷ found 3 5 1 ∷ found 4 3 1 ∷ found 5 3 1 ∷ found 5 4 1 ∷ answer.none ∷ rejected ∷ [];
            end = kept (3 ∷ 5 ∷ 4 ∷ []) (3 ∷ 5 ∷ 4 ∷ 9 ∷ []);
          };
    }

-- sets of two numbers. Atom 0 in the set {64} reaches atom 1 by its dependency and by the facade edge of bit 64, until it leaves
abbrev pub two_numbers : MoveCase
two_numbers =
    record {
      load = record { A = 3; D = 2; E = 65; starts = 0 ∷ 1 ∷ 1 ∷ 2 ∷ []; dependencies = 1 ∷ 1 ∷ []; hosts = nobody 64 ++ 1 ∷ [] };
      fixed = free 3;
      N = 4;
      sets = 0 ∷ 1 ∷ 5 ∷ 0 ∷ 1 ∷ 1 ∷ [];
      size = 16384;
      calls =
          asks (atom_set 2)
          ∷ try_move 0 (1 ∷ [])
          ∷ try_move 0 (1 ∷ 2 ∷ [])
          ∷ asks (edge_at 0)
          ∷ asks (edge_at 1)
          ∷ asks (edge_at 2)
          ∷ try_move 0 (1 ∷ 1 ∷ [])
          ∷ asks (multiplicity (0 ∷ 1 ∷ []) (5 ∷ 0 ∷ []))
          ∷ asks (multiplicity (1 ∷ 1 ∷ []) (5 ∷ 0 ∷ []))
          ∷ asks (atom_count (1 ∷ 1 ∷ []))
          ∷ [];
      expected =
          record {
            start = acyclic;
            replies =
                set (1 ∷ 1 ∷ 0 ∷ 0 ∷ [])
                ∷ refused 11
                ∷ refused 11
                ∷ found 18446744073709551616 5 2
                ∷ found 18446744073709551617 5 1
                ∷ answer.none
                ∷ moves 0 1 1
                ∷ number 0
                ∷ number 2
                ∷ number 2
                ∷ [];
            end = kept (18446744073709551617 ∷ 5 ∷ 18446744073709551617 ∷ []) (18446744073709551616 ∷ 5 ∷ 18446744073709551617 ∷ []);
          };
    }

-- an edge that a dependency leaves and another takes up within one move counts as neither. Atom 0 on 1 makes the edge from 6 to 5 before the move to 5,
-- atom 2 on 0 makes it afterwards; the move before it takes the edge from 3 to 6 off
abbrev pub returning : MoveCase
returning =
    record {
      load = record { A = 3; D = 2; E = 3; starts = 0 ∷ 1 ∷ 1 ∷ 2 ∷ []; dependencies = 1 ∷ 0 ∷ []; hosts = nobody 3 };
      fixed = free 3;
      N = 4;
      sets = 6 ∷ 5 ∷ 3 ∷ [];
      size = 16384;
      calls = try_move 2 (6 ∷ []) ∷ try_move 0 (5 ∷ []) ∷ asks (edge_at 0) ∷ asks edge_count ∷ [];
      expected = record { start = acyclic; replies = moves 0 1 1 ∷ moves 0 0 0 ∷ found 6 5 1 ∷ number 1 ∷ []; end = kept (5 ∷ 5 ∷ 6 ∷ []) (6 ∷ 5 ∷ 3 ∷ []) };
    }

-- from a cyclic graph atom 0 joins atom 1, whose chunk reaches those of 2 and, by two steps, 3, not the one of 4 nor the set that is empty now; from
-- an acyclic one the chunk of 4 reaches all others, and that of 3 none
abbrev pub reaching : MoveCase
reaching =
    record {
      load = record { A = 5; D = 5; E = 3; starts = 0 ∷ 1 ∷ 3 ∷ 4 ∷ 4 ∷ 5 ∷ []; dependencies = 1 ∷ 0 ∷ 2 ∷ 3 ∷ 0 ∷ []; hosts = nobody 3 };
      fixed = free 5;
      N = 8;
      sets = 1 ∷ 2 ∷ 3 ∷ 4 ∷ 5 ∷ [];
      size = 16384;
      calls = try_move 0 (2 ∷ []) ∷ try_move 4 (6 ∷ []) ∷ try_move 3 (7 ∷ []) ∷ try_move 3 (6 ∷ []) ∷ [];
      expected =
          record {
            start = cyclic;
            replies = moves 1 3 2 ∷ moves 1 1 3 ∷ moves 1 1 0 ∷ rejected ∷ [];
            end = kept (2 ∷ 2 ∷ 3 ∷ 7 ∷ 6 ∷ []) (1 ∷ 2 ∷ 3 ∷ 4 ∷ 5 ∷ 6 ∷ 7 ∷ []);
          };
    }
