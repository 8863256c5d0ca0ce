-- What is read from tables of roles and of marks, as the definitions have it. Assumes nothing.
use Rattle.std.specs.Prelude.{ℕ, ◌≡◌, refl, ◌<◌, ◌≤◌, Bool, true, false, not, ◌&&◌, ◌||◌, List, length, get_or, eqb, All}
use Rattle.std.specs.List.{list_any, zip, range_with_len}
use Rattle.std.proofs.Common.{sym, ap, ap₂}
use Rattle.std.proofs.lemmas.List.{get_or-map}
use Rattle.graphs.specs.Lists.{some_below}
use Rattle.merge_choice.specs.Choice.{lists, some_in, some_of, start, size}
use Rattle.merge_choice.specs.Choice as choice
use Rattle.merge_choice.specs.Guards.{stands, unmarked, reaches_named, outside, polluting}
use Rattle.merge_choice.specs.Search.{misses}
use Rattle.merge_choice.specs.Spans.{Span}
use Rattle.merge_target.specs.declared.roles.Role.{Role}
use Rattle.merge_target.specs.declared.roles.Role.TheVariants.{Nothing}
use Rattle.merge_target.specs.Lent.{list_of}
use Rattle.merge_target.specs.Roles.{role_number, numbers}
use Rattle.merge_target.proofs.Any.{any_is_some, any_is_in, range_is_some, zip_is_some}
use Rattle.merge_target.proofs.Parts.{any_is_of}

pub number-at : (roles : List Role) (o : ℕ) → o < length roles → role_number (get_or roles o Nothing) ≡ get_or (numbers roles) o 0
number-at roles o h = sym (get_or-map role_number roles o Nothing 0 h)

-- the dynamic entries that aren't marked
pub unmarked_entries : (roles : List Role) (marks : List ℕ) → length roles ≤ length marks → list_any (λ p. eqb (role_number p.0) 1 && eqb p.1 0) (zip roles marks) ≡ some_below (unmarked (numbers roles) marks) (length roles)
unfolding unmarked
unmarked_entries roles marks h =
    zip_is_some (λ p. eqb (role_number p.0) 1 && eqb p.1 0) roles marks Nothing (unmarked (numbers roles) marks) h (λ i b. ap (λ v. eqb v 1 && eqb (get_or marks i 0) 0) (number-at roles i b))

-- the chunks other than t that reach a dynamic entry
pub other_reaching : (roles : List Role) (l : choice.Lists) (t k : ℕ) → ((x : ℕ) → x < k → Span l.starts l.items x)
    → list_any (λ o. not (eqb o t) && list_any (λ d. eqb (get_or (numbers roles) d 0) 1) (list_of l o)) (range_with_len 0 k) ≡ some_below (reaches_named (numbers roles) l.starts l.items t) k
unfolding reaches_named
other_reaching roles l t k s =
    range_is_some (λ o. not (eqb o t) && list_any (λ d. eqb (get_or (numbers roles) d 0) 1) (list_of l o)) (reaches_named (numbers roles) l.starts l.items t) k
    (λ o b. ap (λ r. not (eqb o t) && r) (any_is_of l o (s o b) (stands (numbers roles) 1)))

-- the modules with a number in their list that isn't marked
pub unmarked_lists : (modules marks : List ℕ) (l : choice.Lists) → All (λ m. Span l.starts l.items m) modules
    → list_any (λ m. list_any (λ y. eqb (get_or marks y 0) 0) (list_of l m)) modules ≡ some_in modules (outside l.starts l.items marks)
unfolding some_in
unmarked_lists modules marks l s =
    any_is_some (λ m. list_any (λ y. eqb (get_or marks y 0) 0) (list_of l m)) modules 0 (λ i. outside l.starts l.items marks (get_or modules i 0))
    (λ i b. any_is_of l (get_or modules i 0) (s i 0 b) (stands marks 0))

pub polluting_modules : (modules exports marks : List ℕ) (e : ℕ)
    → list_any (λ m. not (eqb m e) && (not (eqb (get_or exports m 0) 0) && not (eqb (get_or marks m 0) 0))) modules ≡ some_in modules (polluting e exports marks)
unfolding polluting
polluting_modules modules exports marks e = any_is_in (λ m. not (eqb m e) && (not (eqb (get_or exports m 0) 0) && not (eqb (get_or marks m 0) 0))) modules

neither : (a b : Bool) → (not a && not b) ≡ not (a || b)
neither true b = refl
neither false b = refl

-- the chunks of role v whose entry module neither is e nor has the mark
pub missing_chunks : (roles : List Role) (v : Role) (entries : List ℕ) (e : ℕ) (marks : List ℕ) (mark : ℕ)
    → list_any (λ o. eqb (role_number (get_or roles o Nothing)) (role_number v) && (not (eqb (get_or entries o 0) e) && not (eqb (get_or marks (get_or entries o 0) 0) mark))) (range_with_len 0 (length roles))
    ≡ some_below (misses (numbers roles) (role_number v) entries e marks mark) (length roles)
unfolding misses
missing_chunks roles v entries e marks mark =
    range_is_some (λ o. eqb (role_number (get_or roles o Nothing)) (role_number v) && (not (eqb (get_or entries o 0) e) && not (eqb (get_or marks (get_or entries o 0) 0) mark)))
    (misses (numbers roles) (role_number v) entries e marks mark) (length roles)
    (λ o b. ap₂ (λ r s. eqb r (role_number v) && s) (number-at roles o b) (neither (eqb (get_or entries o 0) e) (eqb (get_or marks (get_or entries o 0) 0) mark)))
