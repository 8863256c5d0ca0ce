-- What bars a target, read from tables of marks. Assumes nothing.
use Rattle.std.specs.Prelude.{ℕ, ◌<◌, ◌≤◌, ◌≡◌, refl, Bool, true, false, ◌&&◌, List, get_or, length}
use Rattle.std.proofs.Common.{◌∙◌}
use Rattle.std.proofs.Math.Path.{ap, fun_ext}
use Rattle.std.proofs.Math.Bool.{not, cond}
use Rattle.std.proofs.Math.Dec.{eqb}
use borrow.Author.Tests.{eq-eqb, ne_eqb}
use Rattle.graphs.specs.Lists.{some_below}
use Rattle.merge_state.specs.State.{flag}
use Rattle.merge_choice.specs.Choice.{lists, size, some_from, some_of, some_in, in_list, unreached, leaks, dynamic_module, pollutes, polluted}
use Rattle.merge_choice.specs.Spans.{Span}
use Rattle.merge_choice.specs.Marks.{Marked, hits, all, part, dynamic}
use Rattle.merge_choice.specs.Named.{reads}

-- v stands in the table at y
abbrev pub stands : List ℕ → ℕ → ℕ → Bool
stands table v y = eqb (get_or table y 0) v

-- d is a dynamic entry that is named, and isn't marked
unfoldable pub unmarked : List ℕ → List ℕ → ℕ → Bool
unmarked roles marks d = eqb (get_or roles d 0) 1 && eqb (get_or marks d 0) 0

-- o isn't t and reaches a dynamic entry that is named
unfoldable pub reaches_named : List ℕ → List ℕ → List ℕ → ℕ → ℕ → Bool
reaches_named roles starts reached t o = not (eqb o t) && some_of (lists starts reached) o (stands roles 1)

-- a number of list m isn't marked
abbrev pub outside : List ℕ → List ℕ → List ℕ → ℕ → Bool
outside starts items marks m = some_of (lists starts items) m (stands marks 0)

-- m isn't e, is flagged and is marked
unfoldable pub polluting : ℕ → List ℕ → List ℕ → ℕ → Bool
polluting e exports marks m = not (eqb m e) && (flag exports m && not (eqb (get_or marks m 0) 0))

pub record CanReach (n : ℕ) (roles starts reached : List ℕ) (t : ℕ) : Type 0 where
  pub few : n ≤ 256
  pub named : n ≤ length roles
  pub span : Span starts reached t
  pub below : (i : ℕ) → i < length reached → get_or reached i 0 < 1024

pub record CanLeakFrom (k : ℕ) (roles starts reached : List ℕ) : Type 0 where
  pub spans : (x : ℕ) → x < k → Span starts reached x
  pub below : (i : ℕ) → i < length reached → get_or reached i 0 < length roles

pub record CanStray (homes modules starts items candidate : List ℕ) (t : ℕ) : Type 0 where
  pub home : Span homes modules t
  pub inside : (i : ℕ) → i < length modules → get_or modules i 0 < 4096
  pub spans : (i : ℕ) → i < length candidate → Span starts items (get_or candidate i 0)
  pub below : (i : ℕ) → i < length items → get_or items i 0 < 4096
  pub own : (i : ℕ) → i < length candidate → get_or candidate i 0 < 4096

pub record CanPollute (n : ℕ) (roles entries exports candidate : List ℕ) (t : ℕ) : Type 0 where
  pub named : n ≤ length roles
  pub listed : n ≤ length entries
  pub inside : (d : ℕ) → d < n → get_or roles d 0 ≡ 1 → get_or entries d 0 < 4096
  pub target : t < length entries
  pub flagged : (i : ℕ) → i < length candidate → get_or candidate i 0 < length exports
  pub own : (i : ℕ) → i < length candidate → get_or candidate i 0 < 4096

-- a mark of 1 on a table of zeros
pub one_or_none : (h : Bool) (v : ℕ) → v ≡ 0 → eqb (cond h 1 v) 0 ≡ not h
one_or_none true v e = refl
one_or_none false v e = rw e

one_is : (h : Bool) (v : ℕ) → v ≡ 0 → not (eqb (cond h 1 v) 0) ≡ h
one_is true v e = refl
one_is false v e = rw e

-- all zeros at first
abbrev pub Zero : List ℕ → Type 0
Zero l = (y : ℕ) → get_or l y 0 ≡ 0

-- reached entries
module _ (n : ℕ) (roles starts reached : List ℕ) (t : ℕ) {old marks : List ℕ} (z : Zero old)
    (m : Marked all (part reached (get_or starts t 0)) (size (lists starts reached) t) 1 old marks) where
  unreached-at : (d : ℕ) → unmarked roles marks d ≡ (eqb (reads roles d) 1 && not (in_list (lists starts reached) t d))
  unfolding unmarked hits some_from
  unreached-at d = ap (λ b. eqb (reads roles d) 1 && b) (ap (λ v. eqb v 0) (m.at d) ∙ one_or_none (in_list (lists starts reached) t d) (get_or old d 0) (z d))

  pub unreached_is : {r : Bool} → r ≡ some_below (unmarked roles marks) n → r ≡ unreached (reads roles) n (lists starts reached) t
  unfolding unreached
  unreached_is e = e ∙ ap (λ p. some_below p n) (fun_ext unreached-at)

-- leaked side effects
module _ (roles starts reached effects : List ℕ) (n k t : ℕ) where
  pub no_leak : get_or effects t 0 ≡ 0 → false ≡ leaks (reads roles) n (lists starts reached) effects k t
  unfolding leaks
  no_leak h = rw (eq-eqb (get_or effects t 0) 0 h)

  pub leak_is : {r : Bool} → (get_or effects t 0 ≡ 0 → ⊥) → r ≡ some_below (reaches_named roles starts reached t) k → r ≡ leaks (reads roles) n (lists starts reached) effects k t
  unfolding leaks reaches_named
  leak_is h e = rw (ne_eqb (get_or effects t 0) 0 h) e

pub leak_self : (roles starts reached : List ℕ) (t o : ℕ) → o ≡ t → false ≡ reaches_named roles starts reached t o
unfolding reaches_named
leak_self roles starts reached t o h = rw (eq-eqb o t h)

pub leak_other : (roles starts reached : List ℕ) (t o : ℕ) {r : Bool} → (o ≡ t → ⊥) → r ≡ some_of (lists starts reached) o (stands roles 1) → r ≡ reaches_named roles starts reached t o
unfolding reaches_named
leak_other roles starts reached t o h e = rw (ne_eqb o t h) e

-- exports
module _ (n : ℕ) (roles entries exports candidate : List ℕ) (t : ℕ) {old marks : List ℕ} (z : Zero old) (m : Marked (dynamic roles) (reads entries) n 1 old marks) where
  polluting-at : (y : ℕ) → polluting (get_or entries t 0) exports marks y ≡ pollutes (reads roles) n entries exports t y
  unfolding polluting pollutes dynamic_module hits
  polluting-at y = ap (λ b. not (eqb y (get_or entries t 0)) && (flag exports y && b)) (ap (λ v. not (eqb v 0)) (m.at y) ∙ one_is (some_below (λ d. eqb (reads roles d) 1 && eqb y (get_or entries d 0)) n) (get_or old y 0) (z y))

  pub polluted_is : {r : Bool} → r ≡ some_in candidate (polluting (get_or entries t 0) exports marks) → r ≡ polluted (reads roles) n entries exports candidate t
  unfolding polluted
  polluted_is e = e ∙ ap (some_in candidate) (fun_ext polluting-at)

module _ (e : ℕ) (exports marks : List ℕ) (m : ℕ) where
  pub own_module : m ≡ e → false ≡ polluting e exports marks m
  unfolding polluting
  own_module h = rw (eq-eqb m e h)

  pub no_exports : (m ≡ e → ⊥) → get_or exports m 0 ≡ 0 → false ≡ polluting e exports marks m
  unfolding polluting
  no_exports h q = rw (ne_eqb m e h, eq-eqb (get_or exports m 0) 0 q)

  pub by_mark : (m ≡ e → ⊥) → (get_or exports m 0 ≡ 0 → ⊥) → not (eqb (get_or marks m 0) 0) ≡ polluting e exports marks m
  unfolding polluting
  by_mark h q = rw (ne_eqb m e h, ne_eqb (get_or exports m 0) 0 q)

-- the cases of an entry without a mark
module _ (roles marks : List ℕ) (d : ℕ) where
  pub other-role : (get_or roles d 0 ≡ 1 → ⊥) → false ≡ unmarked roles marks d
  unfolding unmarked
  other-role h = rw (ne_eqb (get_or roles d 0) 1 h)

  pub by_its_mark : get_or roles d 0 ≡ 1 → eqb (get_or marks d 0) 0 ≡ unmarked roles marks d
  unfolding unmarked
  by_its_mark h = rw (eq-eqb (get_or roles d 0) 1 h)
