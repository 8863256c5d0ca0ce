-- Theorems on the definitions of specs/Edges: they stand here, so that the crate can be read with a definition changed. Assumes nothing.
use Prim.Native.Nat.{ℕ}
use Rattle.std.specs.Prelude.{◌≡◌, Bool, ◌&&◌}
use Rattle.std.proofs.Math.Path.{refl, sym, ap, ap₂}
use Rattle.std.proofs.Common.{◌∙◌}
use Rattle.std.proofs.Math.Bool.{true, false, cond, true≢false, and-false}
use mathlib.Core.List.{List, [], ◌∷◌, ◌++◌}
use Rattle.std.proofs.Math.ListN.{length}
use Rattle.graphs.specs.Lists.{has}
use Rattle.move_ledger.specs.Graph.{Load, mult, edge, rising, row, rows, edges}
use Rattle.move_ledger.proofs.GraphLaws.{edge-source, edge-target}
use Rattle.move_ledger.specs.Ledger.{kept}
use Rattle.move_ledger.specs.Places.{has_kept}
use Rattle.move_ledger.specs.Listing.{Rising, rising-rising, has-rising, one_rising}
use Rattle.move_ledger.specs.Edges.{kept-rising}

module _ (load : Load) (p : List ℕ) where
  -- sets without edges may be left out
  row_kept : (q : ℕ → Bool) (X : ℕ) → ((Y : ℕ) → edge load p X Y ≡ true → q Y ≡ true) → (Ys : List ℕ) → row load p X (kept q Ys) ≡ row load p X Ys
  unfolding row kept
  row_kept q X f [] = refl
  row_kept q X f (Y ∷ Ys) = go (q Y) refl (edge load p X Y) refl (row_kept q X f Ys)
    where
      go : (t : Bool) → q Y ≡ t → (u : Bool) → edge load p X Y ≡ u → row load p X (kept q Ys) ≡ row load p X Ys
          → row load p X (cond t (Y ∷ kept q Ys) (kept q Ys)) ≡ cond u (record { from = X; to = Y; multiplicity = mult load p X Y } ∷ row load p X Ys) (row load p X Ys)
      go true a true b h = rw b (ap (λ r. record { from = X; to = Y; multiplicity = mult load p X Y } ∷ r) h)
      go true a false b h = rw b h
      go false a true b h = absurd (true≢false (sym (f Y b) ∙ a))
      go false a false b h = h

  row-none : (X : ℕ) → ((Y : ℕ) → edge load p X Y ≡ true → ⊥) → (Ys : List ℕ) → row load p X Ys ≡ []
  unfolding row
  row-none X f [] = refl
  row-none X f (Y ∷ Ys) = go (edge load p X Y) refl (row-none X f Ys)
    where
      go : (t : Bool) → edge load p X Y ≡ t → row load p X Ys ≡ [] → cond t (record { from = X; to = Y; multiplicity = mult load p X Y } ∷ row load p X Ys) (row load p X Ys) ≡ []
      go true e h = absurd (f Y e)
      go false e h = h

  rows-kept : (q : ℕ → Bool) → ((X Y : ℕ) → edge load p X Y ≡ true → q X ≡ true) → ((X Y : ℕ) → edge load p X Y ≡ true → q Y ≡ true)
      → (Xs Ys : List ℕ) → rows load p (kept q Xs) (kept q Ys) ≡ rows load p Xs Ys
  unfolding rows kept
  rows-kept q f g [] Ys = refl
  rows-kept q f g (X ∷ Xs) Ys = go (q X) refl (rows-kept q f g Xs Ys)
    where
      go : (t : Bool) → q X ≡ t → rows load p (kept q Xs) (kept q Ys) ≡ rows load p Xs Ys → rows load p (cond t (X ∷ kept q Xs) (kept q Xs)) (kept q Ys) ≡ row load p X Ys ++ rows load p Xs Ys
      go true e h = ap₂ ◌++◌ (row_kept q X (g X) Ys) h
      go false e h = h ∙ ap (λ r. r ++ rows load p Xs Ys) (sym (row-none X (λ Y b. true≢false (sym (f X Y b) ∙ e)) Ys))

  -- so any rising list that holds the placement's sets lists the edges
  pub edges-over : length p ≡ load.A → {Xs : List ℕ} → Rising 0 Xs → ((X : ℕ) → has X p ≡ true → has X Xs ≡ true) → rows load p Xs Xs ≡ edges load p
  unfolding edges
  edges-over n {Xs} r f =
      sym (rows-kept (λ X. has X p) (edge-source load p n) (edge-target load p n) Xs Xs)
      ∙ ap (λ l. rows load p l l) (one_rising (kept-rising (λ X. has X p) r) (rising-rising p) same)
    where
      same : (z : ℕ) → has z (kept (λ X. has X p) Xs) ≡ has z (rising p)
      same z = has_kept (λ X. has X p) z Xs ∙ go (has z p) refl ∙ sym (has-rising z p)
        where
          go : (t : Bool) → has z p ≡ t → (has z Xs && t) ≡ t
          go true q = rw (f z q) refl
          go false q = and-false (has z Xs)
