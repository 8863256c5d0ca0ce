-- The choice of a merge target: a case for each guard and each reason to find none, on few chunks. Assumes nothing.
use Rattle.std.specs.Prelude.{ℕ, ◌≡◌, refl, List, [], ◌∷◌}
use Rattle.graphs.specs.Lists.{any, below}
use Rattle.merge_state.specs.State.{misfit}
use Rattle.merge_state.specs.Table.{Answer, refused, chunk, nothing, falling, bad_starts, any_misfit}
use Rattle.merge_choice.specs.Choice.{Lists, lists, some_in, some_from, bits, role, first_below, some_role, imports, wins, first_target, unreached, leaks, dynamic_module, pollutes, polluted, there, strayed, guarded, user_target, dynamic_target, chosen, choice}
use Rattle.merge_choice.specs.Find.{bad_lists, bad_entry, bad_lengths, bad_spans, bad_numbers, row23, row25, find, find_by}
use Rattle.merge_choice.specs.Find as found

-- chunks 0 and 1 are user entries of modules 0 and 1, chunk 2 is a dynamic entry of module 2, and chunk 3 a common chunk, whose entry module
-- isn't read; module 3 is in none
abbrev kinds : List ℕ
kinds = 1 ∷ 4 ∷ 2 ∷ 8 ∷ []

abbrev entries : List ℕ
entries = 0 ∷ 1 ∷ 2 ∷ 9 ∷ []

-- no list has anything, n of them
abbrev four : Lists
four = lists (0 ∷ 0 ∷ 0 ∷ 0 ∷ 0 ∷ []) []

-- module 1 imports module 0 statically
abbrev static : Lists
static = lists (0 ∷ 1 ∷ 1 ∷ 1 ∷ 1 ∷ []) (1 ∷ [])

-- each entry's module is in its chunk
abbrev modules : Lists
modules = lists (0 ∷ 1 ∷ 2 ∷ 3 ∷ 3 ∷ []) (0 ∷ 1 ∷ 2 ∷ [])

-- module 2 is imported dynamically by module m
abbrev loaded_by : ℕ → Lists
loaded_by m = lists (0 ∷ 0 ∷ 0 ∷ 1 ∷ 1 ∷ []) (m ∷ [])

-- chunk 0 reaches entry 2; so does chunk 1
abbrev one_reaches : Lists
one_reaches = lists (0 ∷ 1 ∷ 1 ∷ 1 ∷ 1 ∷ []) (2 ∷ [])

abbrev both_reach : Lists
both_reach = lists (0 ∷ 1 ∷ 2 ∷ 2 ∷ 2 ∷ []) (2 ∷ 2 ∷ [])

-- of these chunks and four modules
abbrev asked : List ℕ → ℕ → Lists → Lists → Lists → List ℕ → List ℕ → Answer
asked ks set st dynamic reached effects candidate =
    find 4 4 ks set (record { entries = entries; modules = modules; static = st; dynamic = dynamic; reached = reached; effects = effects; exports = 0 ∷ 0 ∷ 1 ∷ 0 ∷ []; candidate = candidate })

abbrev none : List ℕ
none = 0 ∷ 0 ∷ 0 ∷ 0 ∷ []

abbrev first : List ℕ
first = 1 ∷ 0 ∷ 0 ∷ 0 ∷ []

abbrev common : List ℕ
common = 3 ∷ []

-- all are dynamic entries, but for the common chunk
abbrev dynamics : List ℕ
dynamics = 2 ∷ 0 ∷ 2 ∷ 8 ∷ []

abbrev pub answers : List Answer
answers =
    -- nothing is named; a common chunk is; only bits past the kinds are
    asked kinds 0 static four one_reaches first common
    ∷ asked kinds 9 static four one_reaches first common
    ∷ asked kinds 240 static four one_reaches first common
    -- the module of 0 is imported by that of 1, not the other way round; by nobody, none
    ∷ asked kinds 3 static four one_reaches first common
    ∷ asked kinds 3 four four one_reaches first common
    -- a dynamic entry that 0 reaches, and that nobody reaches
    ∷ asked kinds 7 static four one_reaches first common
    ∷ asked kinds 7 static four four first common
    -- side effects that would leak by 1, which is named, or isn't; no side effects
    ∷ asked kinds 7 static four both_reach first common
    ∷ asked kinds 5 static four both_reach first common
    ∷ asked kinds 7 static four both_reach none common
    -- the candidate's module 2 is imported dynamically: by 0, in the target; by 1, elsewhere; by 1, which comes along
    ∷ asked kinds 3 static (loaded_by 0) one_reaches none (2 ∷ [])
    ∷ asked kinds 3 static (loaded_by 1) one_reaches none (2 ∷ [])
    ∷ asked kinds 3 static (loaded_by 1) one_reaches none (2 ∷ 1 ∷ [])
    -- no user entry: 2's module has exports and would come into 0's chunk; it is the target's own
    ∷ asked dynamics 5 (lists (0 ∷ 1 ∷ 1 ∷ 1 ∷ 1 ∷ []) (2 ∷ [])) four four none (2 ∷ [])
    ∷ asked dynamics 5 (lists (0 ∷ 1 ∷ 1 ∷ 1 ∷ 1 ∷ []) (2 ∷ [])) four four none common
    ∷ asked dynamics 4 four four four first (2 ∷ [])
    -- a kind that isn't one, an entry module that is read and isn't one, a candidate's module that isn't one
    ∷ asked (1 ∷ 4 ∷ 9 ∷ 8 ∷ []) 3 static four one_reaches first common
    ∷ asked (1 ∷ 4 ∷ 2 ∷ 2 ∷ []) 3 static four one_reaches first common
    ∷ asked kinds 3 static four one_reaches first (4 ∷ [])
    ∷ []

abbrev pub expected : List Answer
expected =
    nothing ∷ nothing ∷ nothing ∷ chunk 0 ∷ nothing ∷ chunk 0 ∷ nothing ∷ nothing ∷ nothing ∷ chunk 0 ∷ chunk 0 ∷ nothing ∷ chunk 0 ∷ nothing ∷ chunk 0 ∷ chunk 2
    ∷ refused 23 ∷ refused 23 ∷ refused 23 ∷ []

pub targets_right : answers ≡ expected
unfolding any below misfit falling bad_starts any_misfit some_in some_from bits role first_below some_role imports wins first_target unreached leaks dynamic_module pollutes polluted there strayed guarded user_target dynamic_target chosen choice bad_lists bad_entry bad_lengths bad_spans bad_numbers row23 found.told find
targets_right = refl

-- by a bank's own classes, of the same chunks: two user entries or, where emitted ones are dynamic, one of each
abbrev by : List ℕ → ℕ → Lists → Answer
by classes set reached =
    find_by classes 4 4 kinds set (record { entries = entries; modules = modules; static = static; dynamic = four; reached = reached; effects = none; exports = none; candidate = common })

abbrev pub class_answers : List Answer
class_answers =
    -- the built-in rows; emitted entries are dynamic: chunk 0 doesn't reach 1, and does
    by (0 ∷ 1 ∷ 0 ∷ 1 ∷ 1 ∷ 1 ∷ 1 ∷ 1 ∷ []) 3 four
    ∷ by (0 ∷ 1 ∷ 0 ∷ 1 ∷ 0 ∷ 1 ∷ 0 ∷ 1 ∷ []) 3 four
    ∷ by (0 ∷ 1 ∷ 0 ∷ 1 ∷ 0 ∷ 1 ∷ 0 ∷ 1 ∷ []) 3 (lists (0 ∷ 1 ∷ 1 ∷ 1 ∷ 1 ∷ []) (1 ∷ []))
    -- seven rows, nine, a row of 2, an odd row of 0; and 23 before all of these
    ∷ by (0 ∷ 1 ∷ 0 ∷ 1 ∷ 1 ∷ 1 ∷ 1 ∷ []) 3 four
    ∷ by (0 ∷ 1 ∷ 0 ∷ 1 ∷ 1 ∷ 1 ∷ 1 ∷ 1 ∷ 1 ∷ []) 3 four
    ∷ by (2 ∷ 1 ∷ 0 ∷ 1 ∷ 1 ∷ 1 ∷ 1 ∷ 1 ∷ []) 3 four
    ∷ by (0 ∷ 1 ∷ 0 ∷ 0 ∷ 1 ∷ 1 ∷ 1 ∷ 1 ∷ []) 3 four
    ∷ by [] 3 (lists (0 ∷ 1 ∷ 1 ∷ 1 ∷ 1 ∷ []) (4 ∷ []))
    ∷ []

abbrev pub class_expected : List Answer
class_expected = chunk 0 ∷ nothing ∷ chunk 0 ∷ refused 25 ∷ refused 25 ∷ refused 25 ∷ refused 25 ∷ refused 23 ∷ []

pub class_targets_right : class_answers ≡ class_expected
unfolding any below misfit falling bad_starts any_misfit some_in some_from bits role first_below some_role imports wins first_target unreached leaks dynamic_module pollutes polluted there strayed guarded user_target dynamic_target chosen choice bad_lists bad_entry bad_lengths bad_spans bad_numbers row23 row25 found.told find_by
class_targets_right = refl
