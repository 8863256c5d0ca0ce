-- The lowest atom of a chunk. Assumes nothing.
use Rattle.std.specs.Prelude.{ℕ, zero, suc, ◌<◌, ◌≡◌, refl, Bool, true, false, cond, List, [], ◌∷◌, map, eqb, length}
use Rattle.std.proofs.Common.{arith, sym, subst}
use Rattle.std.proofs.Math.Decide.{dec_lt}
use Rattle.std.proofs.lemmas.Bool.{eqb-false}
use Rattle.graphs.specs.Lists.{has, has-at}
use Rattle.move_ledger.specs.Graph.{at}
use Rattle.move_ledger.specs.Ledger.{index}
use Rattle.move_ledger.specs.Places.{index-has}

-- no lower place of a list than its index has x
pub index_low : (x : ℕ) (l : List ℕ) (i : ℕ) → i < index x l → at l i ≡ x → ⊥
unfolding index
index_low x [] i h e = omega arith
index_low x (y ∷ l) i h e = go (eqb x y) refl i h e (λ k. index_low x l k)
  where
    go : (t : Bool) → eqb x y ≡ t → (i : ℕ) → i < cond t 0 (suc (index x l)) → at (y ∷ l) i ≡ x → ((k : ℕ) → k < index x l → at l k ≡ x → ⊥) → ⊥
    go true q i h e f = omega arith
    go false q zero h e f = eqb-false x y q (sym e)
    go false q (suc i) h e f = f i (omega arith) e

-- and the place that has x where no lower one does is its index
pub index_is : (x : ℕ) (l : List ℕ) (i : ℕ) → i < length l → at l i ≡ x → ((k : ℕ) → k < i → at l k ≡ x → ⊥) → index x l ≡ i
index_is x l i b e f =
    let r = index-has x l (subst (λ u. has u l ≡ true) e (has-at l i b)) in
    elim (dec_lt (index x l) i) [
      | yes h ↦ absurd (f (index x l) h r.1)
      | no h ↦ elim (dec_lt i (index x l)) [ yes k ↦ absurd (index_low x l i k e) | no k ↦ omega arith ]
    ]

pub map_at : (f : ℕ → ℕ) (l : List ℕ) (i : ℕ) → i < length l → at (map f l) i ≡ f (at l i)
map_at f [] i h = absurd (omega arith)
map_at f (x ∷ l) zero h = refl
map_at f (x ∷ l) (suc i) h = map_at f l i (omega arith)
