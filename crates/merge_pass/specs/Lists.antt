-- The two answer lists of the pass, as far as it has come. Assumes nothing.
use Rattle.std.specs.Prelude.{ℕ, zero, suc, ◌+◌, ◌<◌, ◌≡◌, Bool, List, [], ◌∷◌, ◌++◌, get_or, length, set}
use Rattle.std.proofs.Common.{arith, zero-add, add-one, sym, ap₂, subst, ◌∙◌, length-append}
use Rattle.std.proofs.Math.Path.{refl, ap}
use Rattle.std.proofs.Math.Bool.{true, false, cond}
use Rattle.layout.specs.Patch.{patch, is_part, patch_long, patch_in, patch-none, patch-over, patch_append, patch_one, patch-all}
use Rattle.graphs.specs.Count.{count, count_none, count_yes, count_no}
use Rattle.merge_state.specs.State.{None, Graph}
use Rattle.merge_state.specs.Merges.{waits}
use Rattle.merge_state.specs.Methods.{Passed, merges, candidate, passed}
use Rattle.merge_pass.specs.Turns.{kind_of, number_of}

-- one more number behind those that are written
patch-next : (r l : List ℕ) (v : ℕ) → length r < length l → set (patch 0 r l) (length r) v ≡ patch 0 (r ++ (v ∷ [])) l
patch-next r l v h =
    patch_one (length r) v (patch 0 r l) (omega (arith, patch_long 0 r l)) ∙ ap (λ n. patch n (v ∷ []) (patch 0 r l)) (sym (zero-add (length r)))
    ∙ patch_append 0 r (v ∷ []) (patch 0 r l) (is_part 0 (patch 0 r l) r (λ i b. patch_in 0 r l i b (omega arith)))
    ∙ patch-over 0 (r ++ (v ∷ [])) r l (omega (arith, length-append r (v ∷ [])))

-- f is one of the two answer lists, v what a candidate adds to it
pub record Answers (f : Passed → List ℕ) (v : Graph → ℕ → ℕ → ℕ → ℕ) : Type 0 where
  pub none : (g : Graph) → f (record { graph = g; kinds = []; numbers = [] }) ≡ []
  pub more : (r : Passed) (x p b : ℕ) → f (candidate r x p b) ≡ f r ++ (v r.graph x p b ∷ [])

either : (f : Passed → List ℕ) (l : List ℕ) (t : Bool) (u w : Passed) (m n : ℕ) → f u ≡ l ++ (m ∷ []) → f w ≡ l ++ (n ∷ []) → f (cond t u w) ≡ l ++ (cond t m n ∷ [])
either f l true u w m n d e = d
either f l false u w m n d e = e

pub kinds-listed : Answers (λ r. r.kinds) kind_of
unfolding candidate kind_of
kinds-listed = record { none = λ g. refl; more = λ r x p b. either (λ r. r.kinds) r.kinds (merges r.graph x p b) _ _ 0 1 refl refl }

pub numbers-listed : Answers (λ r. r.numbers) number_of
unfolding candidate number_of
numbers-listed = record { none = λ g. refl; more = λ r x p b. either (λ r. r.numbers) r.numbers (merges r.graph x p b) _ _ p (r.graph.initial + r.graph.created) refl refl }

module _ (f : Passed → List ℕ) (v : Graph → ℕ → ℕ → ℕ → ℕ) (w : Answers f v) (g : Graph) (props bars : List ℕ) where
  abbrev so_far : ℕ → Passed
  so_far k = passed g props bars k

  -- the proposal and the bar for chunk k
  abbrev p : ℕ → ℕ
  p k = get_or props (count (waits g) k) None

  abbrev b : ℕ → ℕ
  b k = get_or bars (count (waits g) k) 0

  list_begin : f (so_far 0) ≡ []
  unfolding passed
  list_begin = w.none g

  list_next : (k : ℕ) → f (so_far (k + 1)) ≡ cond (waits g k) (f (so_far k) ++ (v (so_far k).graph k (p k) (b k) ∷ [])) (f (so_far k))
  unfolding passed
  list_next k = ap (λ n. f (so_far n)) (add-one k) ∙ go (waits g k)
    where
      go : (t : Bool) → f (cond t (candidate (so_far k) k (p k) (b k)) (so_far k)) ≡ cond t (f (so_far k) ++ (v (so_far k).graph k (p k) (b k) ∷ [])) (f (so_far k))
      go true = w.more (so_far k) k (p k) (b k)
      go false = refl

  pub list_length : (k : ℕ) → length (f (so_far k)) ≡ count (waits g) k
  list_length zero = ap length list_begin ∙ sym (count_none (waits g))
  list_length (suc k) = subst (λ n. length (f (so_far n)) ≡ count (waits g) n) (add-one k) (ap length (list_next k) ∙ go (waits g k) refl (list_length k))
    where
      go : (t : Bool) → waits g k ≡ t → length (f (so_far k)) ≡ count (waits g) k → length (cond t (f (so_far k) ++ (v (so_far k).graph k (p k) (b k) ∷ [])) (f (so_far k))) ≡ count (waits g) (k + 1)
      go true q e = omega (arith, length-append (f (so_far k)) (v (so_far k).graph k (p k) (b k) ∷ []), count_yes (waits g) k q)
      go false q e = omega (arith, count_no (waits g) k q)

  pub list_none : (l : List ℕ) → l ≡ patch 0 (f (so_far 0)) l
  list_none l = sym (ap (λ r. patch 0 r l) list_begin ∙ patch-none 0 l)

  pub list_more : (l m m' : List ℕ) (k : ℕ) → m ≡ patch 0 (f (so_far k)) l → (waits g k ≡ true → count (waits g) k < length l)
      → m' ≡ cond (waits g k) (set m (count (waits g) k) (v (so_far k).graph k (p k) (b k))) m → m' ≡ patch 0 (f (so_far (k + 1))) l
  list_more l m m' k e h d = d ∙ go (waits g k) refl ∙ ap (λ r. patch 0 r l) (sym (list_next k))
    where
      go : (t : Bool) → waits g k ≡ t → cond t (set m (count (waits g) k) (v (so_far k).graph k (p k) (b k))) m ≡ patch 0 (cond t (f (so_far k) ++ (v (so_far k).graph k (p k) (b k) ∷ [])) (f (so_far k))) l
      go true q =
          ap₂ (λ x n. set x n (v (so_far k).graph k (p k) (b k))) e (sym (list_length k)) ∙ patch-next (f (so_far k)) l (v (so_far k).graph k (p k) (b k)) (omega (arith, list_length k, h q))
      go false q = e

  pub list_same : (l m : List ℕ) (k : ℕ) → m ≡ patch 0 (f (so_far k)) l → length m ≡ length l
  list_same l m k e = ap length e ∙ patch_long 0 (f (so_far k)) l

  pub list_done : (l m : List ℕ) (k : ℕ) → m ≡ patch 0 (f (so_far k)) l → count (waits g) k ≡ length l → m ≡ f (so_far k)
  list_done l m k e h = e ∙ patch-all (f (so_far k)) l (list_length k ∙ h)
