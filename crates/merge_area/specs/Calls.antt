-- The table on the area: what a call answers and leaves, and lists of calls. Assumes nothing.
use Rattle.std.specs.Prelude.{ℕ, ◌≡◌, Bool, ◌||◌, List, [], ◌∷◌, length}
use Rattle.merge_state.specs.declared.Sizes.{Sizes}
use Rattle.merge_state.specs.Table.{Answer, done, refused, says, chunk, nothing, lists, Call, first_fitting, over_lists, bad_lists, later, acted, turned}
use Rattle.merge_area.specs.Read.{read}
use Rattle.merge_area.specs.Writes.{write}
use Rattle.merge_area.specs.Consistent.{over, short, inconsistent}

-- Every call checks 14, 15 and 21 first: many and faulty are what the call's own lists say to 14 and 15
unfoldable pub standing : Sizes → Bool → Bool → List ℕ → ℕ
standing z many faulty a = first_fitting ((over z || many, 14) ∷ (faulty || short z a, 15) ∷ (inconsistent z a, 21) ∷ [])

-- The first fitting row wins
unfoldable pub refusal : Sizes → List ℕ → Call → ℕ
refusal z a c = first_fitting ((over z || over_lists c, 14) ∷ (bad_lists z c || short z a, 15) ∷ (inconsistent z a, 21) ∷ later z (read z a) c)

-- a call's answer, and the area after it
unfoldable pub step : Sizes → List ℕ → Call → Answer × List ℕ
step z a c = turned (refusal z a c) a ((acted z (read z a) c).0, write z a c)

-- what a function that was called with area a answers and leaves
pub record Called (z : Sizes) (a : List ℕ) (c : Call) (told : Answer) (after : List ℕ) : Type 0 where
  pub answer : told ≡ (step z a c).0
  pub area : after ≡ (step z a c).1

-- The two lists that the pass is lent for its answer, after it answered
unfoldable pub lists_after : Answer → List ℕ × List ℕ → List ℕ × List ℕ
lists_after done l = l
lists_after (refused n) l = l
lists_after (says b) l = l
lists_after (chunk x) l = l
lists_after nothing l = l
lists_after (lists k n) l = (k, n)

-- how many candidates an answer assigns: its two lists have one entry for each
unfoldable pub candidates : Answer → ℕ
candidates done = 0
candidates (refused n) = 0
candidates (says b) = 0
candidates (chunk x) = 0
candidates nothing = 0
candidates (lists k n) = length k

-- what the pass answers and leaves, lent `before` for its two lists
pub record PassCalled (z : Sizes) (a : List ℕ) (c : Call) (before : List ℕ × List ℕ) (told : Answer) (count : ℕ) (after : List ℕ) (left : List ℕ × List ℕ) : Type 0 where
  pub called : Called z a c told after
  pub counted : count ≡ candidates (step z a c).0
  pub lists : left ≡ lists_after (step z a c).0 before

-- Lists of calls: each call is lent the area as the last one left it
unfoldable pub ends : Sizes → List ℕ → List Call → List ℕ
ends z a [] = a
ends z a (c ∷ l) = ends z (step z a c).1 l

unfoldable pub answers : Sizes → List ℕ → List Call → List Answer
answers z a [] = []
answers z a (c ∷ l) = (step z a c).0 ∷ answers z (step z a c).1 l
