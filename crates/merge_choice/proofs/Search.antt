-- Theorems on the definitions of specs/Search: they stand here, so that the crate can be read with a definition changed. Assumes nothing.
use Prim.Native.Nat.{ℕ, ◌+◌, ◌≤◌}
use Rattle.std.proofs.Common.{arith, ◌∙◌}
use Rattle.std.specs.Prelude.{◌≡◌, Bool, true, false, ◌&&◌, ◌||◌, List}
use Rattle.std.proofs.Math.Path.{refl, ap, fun_ext}
use Rattle.std.proofs.Math.Bool.{not, cond}
use Rattle.std.proofs.Math.ListN.{get_or}
use Rattle.std.proofs.Math.Dec.{eqb}
use borrow.Author.Tests.{eq-eqb, ne_eqb}
use Rattle.graphs.specs.Lists.{some_below}
use Rattle.merge_choice.specs.Choice.{lists, size, some_from, in_list, imports, wins}
use Rattle.merge_choice.specs.Marks.{Marked, hits, all, part}
use Rattle.merge_choice.specs.Named.{reads}
use Rattle.merge_choice.specs.Search.{misses, CanWin, Won}

-- the answer r to whether a mark is the last one
last_mark : (h : Bool) (t v : ℕ) → v ≤ t → eqb (cond h (t + 1) v) (t + 1) ≡ h
last_mark true t v b = eq-eqb (t + 1) (t + 1) refl
last_mark false t v b = ne_eqb v (t + 1) (λ e. omega arith)

kept_low : (h : Bool) (t v : ℕ) → v ≤ t → cond h (t + 1) v ≤ t + 1
kept_low true t v b = omega arith
kept_low false t v b = omega arith

module _ {n : ℕ} {roles : List ℕ} {v : ℕ} {entries starts items marks : List ℕ} {t : ℕ} (c : CanWin n roles v entries starts items marks t) where
  module _ {marks' : List ℕ} (m : Marked all (part items (get_or starts (get_or entries t 0) 0)) (size (lists starts items) (get_or entries t 0)) (t + 1) marks marks') where
    listed : (y : ℕ) → get_or marks' y 0 ≡ cond (in_list (lists starts items) (get_or entries t 0) y) (t + 1) (get_or marks y 0)
    unfolding hits some_from
    listed y = m.at y

    missing : (o : ℕ) → misses roles v entries (get_or entries t 0) marks' (t + 1) o ≡ (eqb (reads roles o) v && not (imports (reads roles) n entries (lists starts items) t o))
    unfolding misses imports
    missing o =
        let y = get_or entries o 0 in
        let e : eqb (get_or marks' y 0) (t + 1) ≡ in_list (lists starts items) (get_or entries t 0) y = ap (λ k. eqb k (t + 1)) (listed y) ∙ last_mark _ t (get_or marks y 0) (c.old y) in
        ap (λ b. eqb (get_or roles o 0) v && not (eqb y (get_or entries t 0) || b)) e

    pub won : {r : Bool} → get_or roles t 0 ≡ v → r ≡ some_below (misses roles v entries (get_or entries t 0) marks' (t + 1)) n → Won n roles v entries starts items marks t marks' (not r)
    unfolding wins
    won {r} q e = record {
      long = m.long;
      old = λ y. rw (listed y) (kept_low (in_list (lists starts items) (get_or entries t 0) y) t (get_or marks y 0) (c.old y));
      answer = rw (eq-eqb (get_or roles t 0) v q) (ap not (e ∙ ap (λ p. some_below p n) (fun_ext missing)));
    }
