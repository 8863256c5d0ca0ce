-- What the calls answer, refused or not. Assumes nothing.
use Rattle.std.specs.Prelude.{ℕ, ◌%◌, Bool, not, cond, ◌&&◌, ◌||◌, false, List, get_or, length, ltb, leb, eqb}
use Rattle.graphs.specs.Lists.{some_below}
use Rattle.merge_state.specs.State.{None}
use Rattle.merge_state.specs.Table.{Answer, refused, chunk, nothing, bad_starts, any_misfit, other_length}
use Rattle.merge_choice.specs.Choice.{Lists, Lent, choice, built_in}

-- n lists of numbers below top have faulty starts, or an index out of range
unfoldable pub bad_lists : ℕ → ℕ → Lists → Bool
bad_lists n top l = bad_starts n l.starts (length l.items) || any_misfit top false l.items

-- b's entry module is out of range; a common chunk's isn't read
unfoldable pub bad_entry : List ℕ → List ℕ → ℕ → ℕ → Bool
bad_entry kinds entries m b = not (eqb (get_or kinds b 0) 8) && leb m (get_or entries b 0)

-- over 1,024 kinds or 4,096 modules, or a list of the wrong length
unfoldable pub bad_lengths : ℕ → ℕ → List ℕ → List ℕ → List ℕ → List ℕ → Bool
bad_lengths k m kinds entries effects exports =
    ltb 1024 k || (ltb 4096 m || (other_length kinds k || (other_length entries k || (other_length effects k || other_length exports m))))

-- faulty starts, or an index out of range, in one of the four lists of lists
unfoldable pub bad_spans : ℕ → ℕ → Lists → Lists → Lists → Lists → Bool
bad_spans k m modules static dynamic reached = bad_lists k m modules || (bad_lists m m static || (bad_lists m m dynamic || bad_lists k k reached))

-- a kind or an index out of range
unfoldable pub bad_numbers : ℕ → List ℕ → List ℕ → List ℕ → Bool
bad_numbers m kinds entries candidate = any_misfit 9 false kinds || (any_misfit m false candidate || some_below (bad_entry kinds entries m) (length kinds))

-- Row 23, of k chunks and m modules: the only refusal where the classes are the built-in ones.
unfoldable pub row23 : ℕ → ℕ → List ℕ → Lent → Bool
row23 k m kinds l =
    bad_lengths k m kinds l.entries l.effects l.exports
    || (bad_spans k m l.modules l.static l.dynamic l.reached || bad_numbers m kinds l.entries l.candidate)

-- a target, or none
unfoldable pub told : ℕ → Answer
told x = cond (eqb x None) nothing (chunk x)

-- Row 25: there aren't eight classes, one is neither 0 nor 1, or an odd one isn't 1.
unfoldable pub row25 : List ℕ → Bool
row25 c = other_length c 8 || (any_misfit 2 false c || some_below (λ i. eqb (i % 2) 1 && not (eqb (get_or c i 0) 1)) 8)

unfoldable pub find : ℕ → ℕ → List ℕ → ℕ → Lent → Answer
find k m kinds set l = cond (row23 k m kinds l) (refused 23) (told (choice built_in kinds set l))

-- the same by eight classes that are lent; 25 is checked after 23
unfoldable pub find_by : List ℕ → ℕ → ℕ → List ℕ → ℕ → Lent → Answer
find_by c k m kinds set l = cond (row23 k m kinds l) (refused 23) (cond (row25 c) (refused 25) (told (choice c kinds set l)))
