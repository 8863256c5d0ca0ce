-- The choice of a candidate's merge target. Assumes nothing.
use Rattle.std.specs.Prelude.{ℕ, zero, suc, ◌+◌, ◌-◌, ◌/◌, ◌%◌, ◌^◌, Bool, not, cond, ◌&&◌, ◌||◌, List, [], ◌∷◌, get_or, length, ltb, eqb}
use Rattle.graphs.specs.Lists.{some_below}
use Rattle.merge_state.specs.State.{None, flag}

-- Lists of numbers in one: list x is the items from start x up to start x + 1
pub record Lists : Type 0 where
  pub starts : List ℕ
  pub items : List ℕ

abbrev pub lists : List ℕ → List ℕ → Lists
lists starts items = record { starts = starts; items = items }

-- some number of a list passes; some of the n numbers from `at` on
unfoldable pub some_in : List ℕ → (ℕ → Bool) → Bool
some_in l p = some_below (λ i. p (get_or l i 0)) (length l)

unfoldable pub some_from : List ℕ → ℕ → ℕ → (ℕ → Bool) → Bool
some_from l at n p = some_below (λ i. p (get_or l (at + i) 0)) n

abbrev pub start : Lists → ℕ → ℕ
start l x = get_or l.starts x 0

abbrev pub size : Lists → ℕ → ℕ
size l x = start l (x + 1) - start l x

-- an item of list x passes; y is one
abbrev pub some_of : Lists → ℕ → (ℕ → Bool) → Bool
some_of l x p = some_from l.items (start l x) (size l x) p

abbrev pub in_list : Lists → ℕ → ℕ → Bool
in_list l x y = some_of l x (eqb y)

-- What is lent beside the kinds: each chunk's entry module and its modules, who imports each module statically and who dynamically, the
-- dynamic entries that each chunk reaches, which chunks have side effects and which modules observable exports; and the candidate's own
-- modules, which two guards read.
pub record Lent : Type 0 where
  pub entries : List ℕ
  pub modules : Lists
  pub static : Lists
  pub dynamic : Lists
  pub reached : Lists
  pub effects : List ℕ
  pub exports : List ℕ
  pub candidate : List ℕ

-- How many of k chunks the bits of a set can name: it has 256 of them, and a bit past the list of kinds names nothing.
unfoldable pub bits : ℕ → ℕ
bits k = cond (ltb 256 k) 256 k

-- What bit b names: 0 nothing, 1 a dynamic entry, 2 a user entry, 3 a common chunk. Kind 8 is a common chunk's; the class of another
-- kind is 1 for a user entry.
unfoldable pub role : List ℕ → List ℕ → ℕ → ℕ → ℕ
role classes kinds set b =
    let kind = get_or kinds b 0 in
    cond (ltb b (bits (length kinds)) && eqb (set / 2 ^ b % 2) 1) (cond (eqb kind 8) 3 (cond (eqb (get_or classes kind 0) 1) 2 1)) 0

-- the least number below n that passes, or None
unfoldable pub first_below : (ℕ → Bool) → ℕ → ℕ
first_below p zero = None
first_below p (suc n) = let r = first_below p n in cond (eqb r None) (cond (p n) n None) r

-- of chunks by their roles, those below n named by a bit
module _ (role : ℕ → ℕ) (n : ℕ) where
  unfoldable pub some_role : ℕ → Bool
  some_role v = some_below (λ b. eqb (role b) v) n

  -- o's entry module imports t's, or is the same
  unfoldable pub imports : List ℕ → Lists → ℕ → ℕ → Bool
  imports entries static t o = eqb (get_or entries o 0) (get_or entries t 0) || in_list static (get_or entries t 0) (get_or entries o 0)

  -- t has role v, and all others that have it import its module
  unfoldable pub wins : List ℕ → Lists → ℕ → ℕ → Bool
  wins entries static v t = eqb (role t) v && not (some_below (λ o. eqb (role o) v && not (imports entries static t o)) n)

  -- the first that wins, or None
  unfoldable pub first_target : List ℕ → Lists → ℕ → ℕ
  first_target entries static v = first_below (wins entries static v) n

  -- a guard on reached entries: t doesn't reach every dynamic entry that is named
  unfoldable pub unreached : Lists → ℕ → Bool
  unreached reached t = some_below (λ d. eqb (role d) 1 && not (in_list reached t d)) n

  -- one on leaked side effects: t has some, and another of the k chunks, named or not, reaches a dynamic entry that is named
  unfoldable pub leaks : Lists → List ℕ → ℕ → ℕ → Bool
  leaks reached effects k t = flag effects t && some_below (λ o. not (eqb o t) && some_of reached o (λ d. eqb (role d) 1)) k

  -- m is the entry module of a dynamic entry that is named
  unfoldable pub dynamic_module : List ℕ → ℕ → Bool
  dynamic_module entries m = some_below (λ d. eqb (role d) 1 && eqb m (get_or entries d 0)) n

  -- one on exports: m isn't t's entry module but another dynamic entry's, and has observable exports
  unfoldable pub pollutes : List ℕ → List ℕ → ℕ → ℕ → Bool
  pollutes entries exports t m = not (eqb m (get_or entries t 0)) && (flag exports m && dynamic_module entries m)

  unfoldable pub polluted : List ℕ → List ℕ → List ℕ → ℕ → Bool
  polluted entries exports candidate t = some_in candidate (pollutes entries exports t)

-- one on importers: module y is in chunk t, or is the candidate's and nobody imports it dynamically
unfoldable pub there : Lists → Lists → List ℕ → ℕ → ℕ → Bool
there modules dynamic candidate t y = in_list modules t y || (some_in candidate (eqb y) && eqb (size dynamic y) 0)

-- a dynamic importer of a candidate's module is elsewhere
unfoldable pub strayed : Lists → Lists → List ℕ → ℕ → Bool
strayed modules dynamic candidate t =
    some_in candidate (λ m. some_of dynamic m (λ y. not (there modules dynamic candidate t y)))

-- what wins, unless a guard bars it; then the next isn't tried
unfoldable pub guarded : (ℕ → Bool) → ℕ → ℕ
guarded bars t = cond (eqb t None || bars t) None t

unfoldable pub user_target : (ℕ → ℕ) → ℕ → List ℕ → Lists → Lists → Lists → Lists → List ℕ → List ℕ → ℕ
user_target role k entries modules static dynamic reached effects candidate =
    guarded (λ t. unreached role (bits k) reached t || (leaks role (bits k) reached effects k t || strayed modules dynamic candidate t))
    (first_target role (bits k) entries static 2)

unfoldable pub dynamic_target : (ℕ → ℕ) → ℕ → List ℕ → Lists → List ℕ → List ℕ → ℕ
dynamic_target role k entries static exports candidate = guarded (polluted role (bits k) entries exports candidate) (first_target role (bits k) entries static 1)

-- A common chunk among those named means no target. Else it is one of the user entries, or of the dynamic ones where there is no user entry.
unfoldable pub chosen : (ℕ → ℕ) → ℕ → Lent → ℕ
chosen role k l =
    cond (some_role role (bits k) 3) None
    (cond (some_role role (bits k) 2)
    (user_target role k l.entries l.modules l.static l.dynamic l.reached l.effects l.candidate)
    (dynamic_target role k l.entries l.static l.exports l.candidate))

-- the target, or None, by the classes of the entry kinds
unfoldable pub choice : List ℕ → List ℕ → ℕ → Lent → ℕ
choice classes kinds set l = chosen (role classes kinds set) (length kinds) l

-- A kind is 1 for UserDefinedEntry plus 2 for DynamicImported plus 4 for EmittedChunk. Entries with UserDefinedEntry or EmittedChunk are
-- user entries, other entries are dynamic.
abbrev pub built_in : List ℕ
built_in = 0 ∷ 1 ∷ 0 ∷ 1 ∷ 1 ∷ 1 ∷ 1 ∷ 1 ∷ []
