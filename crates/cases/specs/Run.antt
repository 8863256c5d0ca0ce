-- What a case of the move graph is, and what comes out of it. Assumes nothing.
use Rattle.std.specs.Prelude.{ℕ, zero, suc, cond, List, [], ◌∷◌, ◌++◌, eqb}
use Rattle.entry_set.specs.Sets.{value}
use Rattle.move_ledger.specs.Graph.{Load, at}
use Rattle.move_ledger.specs.Answer.{Answer, refused, rejected}
use Rattle.move_ledger.specs.Ledger.{Ledger, loaded, Call, try_move, asks, answers, ledger}
use Rattle.move_ledger.specs.Loading.{entry_sets, loading}

-- what came out: the answer to loading, the calls' answers, and the ledger at the end
pub record MoveOutcome : Type 0 where
  pub start : Answer
  pub replies : List Answer
  pub end : Ledger

-- a load with its marks and N, the lent entry sets and the length of the area; the calls; and what must come out
pub record MoveCase : Type 0 where
  pub load : Load
  pub fixed : List ℕ
  pub N : ℕ
  pub sets : List ℕ
  pub size : ℕ
  pub calls : List Call
  pub expected : MoveOutcome

unfoldable pub move_outcome : MoveCase → MoveOutcome
move_outcome c =
    record {
      start = loading c.load c.fixed c.N c.sets c.size;
      replies = answers c.load c.fixed c.N (loaded (entry_sets c.load c.sets)) c.calls;
      end = ledger c.load c.fixed c.N (loaded (entry_sets c.load c.sets)) c.calls;
    }

-- the moves of atom a to each set below t, and of each atom below a
unfoldable pub tries : ℕ → ℕ → List Call
tries a zero = []
tries a (suc t) = tries a t ++ try_move a (t ∷ []) ∷ []

unfoldable pub every : ℕ → ℕ → List Call
every zero t = []
every (suc a) t = every a t ++ tries a t

-- what moves answer where every move that isn't refused is rejected: 12 for the present set, else rejected
unfoldable pub shut : List ℕ → List Call → List Answer
shut place [] = []
shut place (try_move a s ∷ cs) = cond (eqb (value s) (at place a)) (refused 12) rejected ∷ shut place cs
shut place (asks q ∷ cs) = shut place cs
