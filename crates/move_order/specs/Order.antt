-- The start order for a desk: which chunks an entry bit fetches, and in which order. Assumes nothing.
use Rattle.std.specs.Prelude.{ℕ, zero, suc, ◌^◌, ◌/◌, ◌%◌, Bool, not, cond, ◌&&◌, ◌||◌, List, [], ◌∷◌, ◌++◌, map, eqb, ltb, leb, length}
use Rattle.graphs.specs.Lists.{any, all, has}
use Rattle.graphs.specs.Walk.{via, cyclic}
use Rattle.layout.specs.Patch.{patch}
use Rattle.move_ledger.specs.Graph.{Load, edge, rising}
use Rattle.move_ledger.specs.Answer.{Answer, refused, is_refused}
use Rattle.move_ledger.specs.Answer as answer
use Rattle.move_ledger.specs.Ledger.{index}
use Rattle.move_area.specs.Area.{decode}
use Rattle.move_area.specs.Calls.{checked}

-- set X holds entry bit b
abbrev pub holds : ℕ → ℕ → Bool
holds b X = eqb (X / 2 ^ b % 2) 1

-- X is a chunk whose set holds the bit, or one that such a chunk reaches
unfoldable pub wanted : Load → List ℕ → ℕ → ℕ → Bool
wanted load place b X = has X place && (holds b X || any (λ Y. holds b Y && via (edge load place) place Y X) place)

-- of the sets ks that w wants, X is still to be listed, and its edges, those of facades too, all lead to listed ones
unfoldable pub ready : (ℕ → ℕ → Bool) → (ℕ → Bool) → List ℕ → List ℕ → ℕ → Bool
ready e w ks listed X = w X && (not (has X listed) && all (λ Y. not (e X Y) || has Y listed) ks)

-- the first member that passes, 0 where none does
unfoldable pub first : (ℕ → Bool) → List ℕ → ℕ
first p [] = 0
first p (x ∷ l) = cond (p x) x (first p l)

-- at every place stands the smallest set, as a number, of those that are ready: ks rises; at most k more are listed
unfoldable pub listing : (ℕ → ℕ → Bool) → (ℕ → Bool) → List ℕ → ℕ → List ℕ → List ℕ
listing e w ks zero listed = listed
listing e w ks (suc k) listed = cond (any (ready e w ks listed) ks) (listing e w ks k (listed ++ first (ready e w ks listed) ks ∷ [])) listed

-- the chunks to fetch for an entry bit: there are no more chunks than atoms
unfoldable pub start_order : Load → List ℕ → ℕ → List ℕ
start_order load place b = listing (edge load place) (wanted load place b) (rising place) (length place) []

-- each is named by its lowest atom
unfoldable pub names : Load → List ℕ → ℕ → List ℕ
names load place b = map (λ X. index X place) (start_order load place b)

-- an answer, and the lent list afterwards
pub record Started : Type 0 where
  pub answer : Answer
  pub chunks : List ℕ

-- row 26 where the bit is E or more or the graph is cyclic, then row 27 where the lent list has fewer than A numbers; else how many are listed
unfoldable pub told : Load → List ℕ → ℕ → List ℕ → Answer
told load place b chunks =
    cond (leb load.E b || cyclic (edge load place) place) (refused 26)
    (cond (ltb (length chunks) load.A) (refused 27)
    (answer.number (length (names load place b))))

-- the call. The rows 1 to 6 and 9 come first. The lent list's numbers past the last chunk stay, and all of it where the call is refused
unfoldable pub started : Load → List ℕ → ℕ → List ℕ → ℕ → List ℕ → Started
started load fixed N area b chunks =
    let place = (decode load N area).ledger.place in
    let x = checked load fixed N area (told load place b chunks) in
    record { answer = x; chunks = cond (is_refused x) chunks (patch 0 (names load place b) chunks) }
