-- What a case of the merge graph is, and what comes out of it. Assumes nothing.
use Rattle.std.specs.Prelude.{ℕ, zero, suc, Bool, false, cond, ◌&&◌, ◌||◌, List, [], ◌∷◌, ◌++◌, eqb, leb}
use Rattle.merge_state.specs.declared.Sizes.{Sizes}
use Rattle.merge_state.specs.State.{None, Graph}
use Rattle.merge_state.specs.Table.{Answer, Call, first_fitting, later, acted, turned}

-- what came out: the calls' answers, and what each chunk depends on at the end, rising
pub record MergeOutcome : Type 0 where
  pub replies : List Answer
  pub end : List (List ℕ)

-- whether merged chunks stand for their target, how many chunks are initial and how many are made, pairs of a chunk and one that it depends on;
-- the calls; and what must come out
pub record MergeCase : Type 0 where
  pub mode : Bool
  pub initial : ℕ
  pub made : ℕ
  pub depends : List (ℕ × ℕ)
  pub calls : List Call
  pub expected : MergeOutcome

-- room for eight chunks, and no modules
abbrev pub sizes : Sizes
sizes = record { chunks = 8; modules = 0; entries = 0; bits = 0 }

-- the pair is listed
unfoldable pub among : List (ℕ × ℕ) → ℕ → ℕ → Bool
among [] x y = false
among (e ∷ l) x y = (eqb e.0 x && eqb e.1 y) || among l x y

-- the chunks that aren't initial need creation
abbrev pub begins : MergeCase → Graph
begins c =
    record {
      initial = c.initial;
      made = c.made;
      created = 0;
      depends = among c.depends;
      effects = λ x. false;
      needs = λ x. leb c.initial x;
      log = [];
      sets = [];
      home = λ m. None;
      keys = λ k. None;
      mode = c.mode;
      into = λ x. None;
    }

-- a call's answer, and the graph after it
unfoldable pub turn : Graph → Call → Answer × Graph
turn g c = turned (first_fitting (later sizes g c)) g (acted sizes g c)

unfoldable pub replies_to : Graph → List Call → List Answer
replies_to g [] = []
replies_to g (c ∷ cs) = (turn g c).0 ∷ replies_to (turn g c).1 cs

unfoldable pub left_by : Graph → List Call → Graph
left_by g [] = g
left_by g (c ∷ cs) = left_by (turn g c).1 cs

-- what chunk x depends on, of the chunks below k; the same for each chunk below n
unfoldable pub needed_by : Graph → ℕ → ℕ → List ℕ
needed_by g x zero = []
needed_by g x (suc k) = needed_by g x k ++ cond (g.depends x k) (k ∷ []) []

unfoldable pub dependencies : Graph → ℕ → List (List ℕ)
dependencies g zero = []
dependencies g (suc n) = dependencies g n ++ needed_by g n g.made ∷ []

unfoldable pub merge_outcome : MergeCase → MergeOutcome
merge_outcome c = record { replies = replies_to (begins c) c.calls; end = dependencies (left_by (begins c) c.calls) c.made }
