-- The cases P1 to P8: a small graph each, with one thing to see. Assumes nothing.
use Rattle.std.specs.Prelude.{[], ◌∷◌}
use Rattle.move_ledger.specs.Graph.{none}
use Rattle.move_ledger.specs.Answer.{refused, acyclic, cyclic, rejected, set, number}
use Rattle.move_ledger.specs.Answer as answer
use Rattle.move_ledger.specs.Ledger.{try_move, asks, atom_set, atom_count, multiplicity, edge_count, chunk_count, edge_at, has_cycle}
use Rattle.cases.specs.Run.{MoveCase, every, shut}
use Rattle.cases.specs.MoveParts.{nobody, free, kept, moves, found}

-- the example of the program's input, with its N and E
abbrev pub P1 : MoveCase
P1 =
    record {
      load = record { A = 3; D = 2; E = 16; starts = 0 ∷ 0 ∷ 1 ∷ 2 ∷ []; dependencies = 0 ∷ 0 ∷ []; hosts = 1 ∷ 2 ∷ nobody 14 };
      fixed = free 3;
      N = 96;
      sets = 3 ∷ 1 ∷ 2 ∷ [];
      size = 16384;
      calls = try_move 0 (1 ∷ []) ∷ try_move 1 (3 ∷ []) ∷ asks edge_count ∷ asks chunk_count ∷ asks (edge_at 0) ∷ asks (edge_at 1) ∷ asks (atom_set 0) ∷ [];
      expected =
          record {
            start = acyclic;
            replies = moves 1 2 0 ∷ rejected ∷ number 1 ∷ number 2 ∷ found 2 1 1 ∷ answer.none ∷ set (1 ∷ 0 ∷ 0 ∷ 0 ∷ []) ∷ [];
            end = kept (1 ∷ 1 ∷ 2 ∷ []) (3 ∷ 1 ∷ 2 ∷ []);
          };
    }

-- no atom: acyclic. N is A + 1 at least
abbrev pub P2 : MoveCase
P2 =
    record {
      load = record { A = 0; D = 0; E = 0; starts = 0 ∷ []; dependencies = []; hosts = [] };
      fixed = [];
      N = 1;
      sets = [];
      size = 49;
      calls = asks chunk_count ∷ asks edge_count ∷ [];
      expected = record { start = acyclic; replies = number 0 ∷ number 0 ∷ []; end = kept [] [] };
    }

-- two atoms that depend on each other, no hosts: cyclic. The move of 0 to the other set is accepted; before it one to a new set, which keeps the cycle, is rejected
abbrev pub P3 : MoveCase
P3 =
    record {
      load = record { A = 2; D = 2; E = 2; starts = 0 ∷ 1 ∷ 2 ∷ []; dependencies = 1 ∷ 0 ∷ []; hosts = nobody 2 };
      fixed = free 2;
      N = 3;
      sets = 1 ∷ 2 ∷ [];
      size = 16384;
      calls = asks has_cycle ∷ try_move 0 (3 ∷ []) ∷ asks has_cycle ∷ try_move 0 (2 ∷ []) ∷ asks has_cycle ∷ [];
      expected = record { start = cyclic; replies = cyclic ∷ rejected ∷ cyclic ∷ moves 0 2 0 ∷ acyclic ∷ []; end = kept (2 ∷ 2 ∷ []) (1 ∷ 2 ∷ 3 ∷ []) };
    }

-- a second such pair beside it: every move that isn't refused is rejected, each of 4 atoms to each of 16 sets, before the trial, so that no set is registered
abbrev pub P4 : MoveCase
P4 =
    record {
      load = record { A = 4; D = 4; E = 4; starts = 0 ∷ 1 ∷ 2 ∷ 3 ∷ 4 ∷ []; dependencies = 1 ∷ 0 ∷ 3 ∷ 2 ∷ []; hosts = nobody 4 };
      fixed = free 4;
      N = 5;
      sets = 1 ∷ 2 ∷ 4 ∷ 8 ∷ [];
      size = 16384;
      calls = every 4 16;
      expected =
          record {
            start = cyclic;
            replies = shut (1 ∷ 2 ∷ 4 ∷ 8 ∷ []) (every 4 16);
            end = kept (1 ∷ 2 ∷ 4 ∷ 8 ∷ []) (1 ∷ 2 ∷ 4 ∷ 8 ∷ []);
          };
    }

-- atom 1 on 0, the host of bit 2 is atom 1: the move of 0 to set 4 is rejected, and 4 is registered: it has no atom and no facade edge
abbrev pub P5 : MoveCase
P5 =
    record {
      load = record { A = 2; D = 1; E = 3; starts = 0 ∷ 0 ∷ 1 ∷ []; dependencies = 0 ∷ []; hosts = none ∷ none ∷ 1 ∷ [] };
      fixed = free 2;
      N = 3;
      sets = 3 ∷ 5 ∷ [];
      size = 16384;
      calls = try_move 0 (4 ∷ []) ∷ asks (atom_count (4 ∷ [])) ∷ asks (multiplicity (4 ∷ []) (5 ∷ [])) ∷ [];
      expected = record { start = acyclic; replies = rejected ∷ number 0 ∷ number 0 ∷ []; end = kept (3 ∷ 5 ∷ []) (3 ∷ 5 ∷ 4 ∷ []) };
    }

-- without the host: accepted
abbrev pub P6 : MoveCase
P6 =
    record {
      load = record { A = 2; D = 1; E = 3; starts = 0 ∷ 0 ∷ 1 ∷ []; dependencies = 0 ∷ []; hosts = nobody 3 };
      fixed = free 2;
      N = 3;
      sets = 3 ∷ 5 ∷ [];
      size = 16384;
      calls = try_move 0 (4 ∷ []) ∷ [];
      expected = record { start = acyclic; replies = moves 1 1 0 ∷ []; end = kept (4 ∷ 5 ∷ []) (3 ∷ 5 ∷ 4 ∷ []) };
    }

-- a repeated dependency: multiplicity 2
abbrev pub P7 : MoveCase
P7 =
    record {
      load = record { A = 2; D = 2; E = 2; starts = 0 ∷ 2 ∷ 2 ∷ []; dependencies = 1 ∷ 1 ∷ []; hosts = nobody 2 };
      fixed = free 2;
      N = 3;
      sets = 1 ∷ 2 ∷ [];
      size = 16384;
      calls = asks (multiplicity (1 ∷ []) (2 ∷ [])) ∷ asks (multiplicity (2 ∷ []) (1 ∷ [])) ∷ asks (multiplicity (1 ∷ []) (1 ∷ [])) ∷ asks (edge_at 0) ∷ [];
      expected = record { start = acyclic; replies = number 2 ∷ number 0 ∷ number 0 ∷ found 1 2 2 ∷ []; end = kept (1 ∷ 2 ∷ []) (1 ∷ 2 ∷ []) };
    }

-- N is A: refused, as N has to be A + 1 at least
abbrev pub P8 : MoveCase
P8 =
    record {
      load = record { A = 2; D = 1; E = 3; starts = 0 ∷ 0 ∷ 1 ∷ []; dependencies = 0 ∷ []; hosts = nobody 3 };
      fixed = free 2;
      N = 2;
      sets = 3 ∷ 5 ∷ [];
      size = 16384;
      calls = [];
      expected = record { start = refused 1; replies = []; end = kept (3 ∷ 5 ∷ []) (3 ∷ 5 ∷ []) };
    }
