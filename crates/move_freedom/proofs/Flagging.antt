-- Flagging the targets of slots, one slot after the other. Assumes nothing.
use Rattle.std.proofs.Common.{◌≡◌, refl, sym, ap, subst, ◌∙◌, Bool, true, false, not, cond, ◌&&◌, ◌||◌, ℕ, ◌+◌, ◌<◌, List, length, get_or, set, eqb, arith, add-one, length-set, get_or-set_same, get_or-set_other, eq-eqb, ne_eqb, true≢false}
use Rattle.std.proofs.Math.Decide.{ℕ_discrete}
use Rattle.graphs.specs.Lists.{some_zero, some_suc}
use Rattle.move_freedom.specs.Steps.{goes, stepped, Flagged}

pub flagged-none : (test : ℕ → ℕ → Bool) (s t : List ℕ) (flags : List Bool) → Flagged test s t 0 flags flags
unfolding stepped
flagged-none test s t flags = record { each = λ x l. rw some_zero refl; long = refl }

module _ {test : ℕ → ℕ → Bool} {s t : List ℕ} {k : ℕ} {flags flags' : List Bool} (v : Flagged test s t k flags flags') where
  -- one more slot
  more : (x : ℕ) → stepped test s t (k + 1) x ≡ ((test (get_or s k 0) (get_or t k 0) && eqb (get_or t k 0) x) || stepped test s t k x)
  unfolding stepped
  more x = rw (add-one, some_suc) refl

  pub flagged-miss : test (get_or s k 0) (get_or t k 0) ≡ false → Flagged test s t (k + 1) flags flags'
  flagged-miss e = record { each = λ x l. rw (more x, e) (v.each x l); long = v.long }

  pub flagged-hit : get_or t k 0 < length flags → test (get_or s k 0) (get_or t k 0) ≡ true → Flagged test s t (k + 1) flags (set flags' (get_or t k 0) true)
  flagged-hit b e = record { each = λ x l. rw (more x, e) (go x l (ℕ_discrete (get_or t k 0) x)); long = length-set flags' (get_or t k 0) true ∙ v.long }
    where
      go : (x : ℕ) → x < length flags → Dec (get_or t k 0 ≡ x) → get_or (set flags' (get_or t k 0) true) x false ≡ ((eqb (get_or t k 0) x || stepped test s t k x) || get_or flags x false)
      go x l (yes h) = rw (eq-eqb (get_or t k 0) x h) (ap (λ j. get_or (set flags' (get_or t k 0) true) j false) (sym h) ∙ get_or-set_same flags' (get_or t k 0) true false (omega (arith, v.long)))
      go x l (no h) = rw (ne_eqb (get_or t k 0) x h) (get_or-set_other flags' (get_or t k 0) x true false (λ j. h (sym j)) ∙ v.each x l)

  -- both at once
  module _ (b : get_or t k 0 < length flags) {flags'' : List Bool} (e : flags'' ≡ cond (test (get_or s k 0) (get_or t k 0)) (set flags' (get_or t k 0) true) flags') where
    pub flagged-more : {k' : ℕ} → k' ≡ k + 1 → Flagged test s t k' flags flags''
    flagged-more q = rw (q, e) (go (test (get_or s k 0) (get_or t k 0)) refl)
      where
        go : (u : Bool) → test (get_or s k 0) (get_or t k 0) ≡ u → Flagged test s t (k + 1) flags (cond u (set flags' (get_or t k 0) true) flags')
        go true h = flagged-hit b h
        go false h = flagged-miss h

pub flagged_upto : {test : ℕ → ℕ → Bool} {s t : List ℕ} {k m : ℕ} {flags flags' : List Bool} → Flagged test s t k flags flags' → k ≡ m → Flagged test s t m flags flags'
flagged_upto {test} {s} {t} {k} {m} {flags} {flags'} v e = subst (λ j. Flagged test s t j flags flags') e v

-- a slot that goes on
pub goes_on : (marks : List ℕ) (skip u v : ℕ) → (u ≡ v → ⊥) → (u ≡ skip → ⊥) → (v ≡ skip → ⊥) → (get_or marks u 0 ≡ 0 → ⊥) → goes marks skip u v ≡ true
goes_on marks skip u v a b c d = rw (ne_eqb u v a, ne_eqb u skip b, ne_eqb v skip c, ne_eqb (get_or marks u 0) 0 d) refl

-- what the slot from u to v leaves of the flags
module _ (marks : List ℕ) (flags : List Bool) (skip u v : ℕ) where
  not_going : goes marks skip u v ≡ false → flags ≡ cond (goes marks skip u v) (set flags v true) flags
  not_going h = sym (ap (λ t. cond t (set flags v true) flags) h)

  first_false : (x y : Bool) → x ≡ true → (not x && y) ≡ false
  first_false true y e = refl
  first_false false y e = absurd (true≢false (sym e))

  later_false : (x y : Bool) → y ≡ false → (x && y) ≡ false
  later_false true y e = e
  later_false false y e = refl

  pub stays_same : u ≡ v → flags ≡ cond (goes marks skip u v) (set flags v true) flags
  stays_same h = not_going (first_false (eqb u v) _ (eq-eqb u v h))

  pub stays-source : u ≡ skip → flags ≡ cond (goes marks skip u v) (set flags v true) flags
  stays-source h = not_going (later_false (not (eqb u v)) _ (first_false (eqb u skip) _ (eq-eqb u skip h)))

  pub stays-target : v ≡ skip → flags ≡ cond (goes marks skip u v) (set flags v true) flags
  stays-target h = not_going (later_false (not (eqb u v)) _ (later_false (not (eqb u skip)) _ (first_false (eqb v skip) _ (eq-eqb v skip h))))

  pub stays-unmarked : get_or marks u 0 ≡ 0 → flags ≡ cond (goes marks skip u v) (set flags v true) flags
  stays-unmarked h =
      not_going (later_false (not (eqb u v)) _ (later_false (not (eqb u skip)) _ (later_false (not (eqb v skip)) _ (ap not (eq-eqb (get_or marks u 0) 0 h)))))

  pub steps_on : (u ≡ v → ⊥) → (u ≡ skip → ⊥) → (v ≡ skip → ⊥) → (get_or marks u 0 ≡ 0 → ⊥) → set flags v true ≡ cond (goes marks skip u v) (set flags v true) flags
  steps_on a b c d = sym (ap (λ t. cond t (set flags v true) flags) (goes_on marks skip u v a b c d))
