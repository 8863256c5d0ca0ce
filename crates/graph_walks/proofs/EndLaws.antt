-- A walk over rows of flags whose nodes stand for their ends: what each look and each row does. Assumes nothing.
use Prim.Native.Nat.{ℕ, zero, suc, ◌+◌, ◌*◌, ◌/◌, ◌%◌, ◌<◌, ◌≤◌}
use native.Mathlib.Omega.{arith}
use native.Mathlib.Numerals.{add-one}
use native.Mathlib.Decide.{dec_lt}
use mathlib.Core.Path.{◌≡◌, refl, sym, ap, subst, ◌∙◌}
use mathlib.Core.Bool.{Bool, true, false, true≢false}
use mathlib.Core.List.{List}
use lib.ListN.{get_or}
use borrow.Author.Tests.{eq-eqb, ne_eqb}
use Rattle.graphs.specs.Square.{row_in}
use Rattle.graph_walks.specs.Closed.{flag_edge}
use Rattle.graph_walks.specs.ClosedLaws.{flag_is}
use Rattle.graph_walks.specs.Places.{square, reached, holds, passes, at_row, at_column, next_row, offers_without}
use Rattle.graph_walks.proofs.Places.{offers}
use Rattle.graph_walks.specs.Spread.{Offers, Ready, Looked, LookedWhere}
use Rattle.graph_walks.specs.Ends.{end_at, end_edge, end_place, looked_at, EndRows, CanScanEndRow, ScannedTo, Swept}
use Rattle.graph_walks.proofs.Layer.{push_ready, scan_none, turn_skip, turn_more}

-- the stack has room after a look
looked_ready : {n mark : ℕ} {l s : List ℕ} {sp y : ℕ} → Ready n mark l s sp → y < n → {l' s' : List ℕ} {sp' : ℕ} → Looked l s mark sp y l' s' sp' → Ready n mark l' s' sp'
looked_ready {n} {mark} {l} {s} {sp} {y} v b w = elim (dec_lt (get_or l y 0) mark) [
  | yes k ↦ let q = w.new k in rw (q.0, q.1, q.2) (push_ready v b k)
  | no k ↦ let q = w.old (omega arith) in rw (q.0, q.1, q.2) v
]

end-ready : {n mark : ℕ} {l s : List ℕ} {sp y : ℕ} → Ready n mark l s sp → y < n → {l' s' : List ℕ} {sp' : ℕ} (b : Bool) → LookedWhere b l s mark sp y l' s' sp' → Ready n mark l' s' sp'
end-ready v b true w = looked_ready v b (w.looked refl)
end-ready v b false w = let q = w.skipped refl in rw (q.0, q.1, q.2) v

module _ {l : List ℕ} {c n : ℕ} {ends : List ℕ} (s t : ℕ) (r : EndRows l c n ends) where
  pub offers_ends : Offers (end_edge l c n ends s t) n (square n) (reached (end_at ends) n) (end_place l c n ends s t)
  offers_ends = offers_without (offers (flag_edge l c n) (end_at ends) n r.each) s t

  module _ (i j x : ℕ) (a : i < n) (b : j < n) where
    abbrev row_at : (i * n + j) / n ≡ i
    row_at = at_row (flag_edge l c n) (end_at ends) n r.each i j b

    abbrev column_at : (i * n + j) % n ≡ j
    column_at = at_column (flag_edge l c n) (end_at ends) n r.each i j b

    -- a place of a row of another node
    pub place-off : (end_at ends i ≡ x → ⊥) → end_place l c n ends s t x (i * n + j) ≡ true → ⊥
    unfolding passes holds
    place-off q h = true≢false (sym h ∙ (rw (row_at, ne_eqb (end_at ends i) x q)))

    -- a place of one of x's rows
    pub place_on : end_at ends i ≡ x → end_place l c n ends s t x (i * n + j) ≡ looked_at (get_or l (i * c + j) 0) s t x (end_at ends j)
    unfolding passes holds looked_at
    place_on q = rw (row_at, column_at, eq-eqb (end_at ends i) x q, flag_is l c n i j a b)

  -- t's place in row i, column j, is looked at
  module _ {mark : ℕ} {l₀ s₀ l₁ s₁ : List ℕ} {sp₀ sp₁ x i j : ℕ} (a : i < n) (b : j < n) (v : ScannedTo l c n ends s t mark l₀ s₀ sp₀ x (i * n + j) l₁ s₁ sp₁) where
    next : {l₂ s₂ : List ℕ} {sp₂ : ℕ} → ScannedTo l c n ends s t mark l₀ s₀ sp₀ x (i * n + j + 1) l₂ s₂ sp₂ → ScannedTo l c n ends s t mark l₀ s₀ sp₀ x (i * n + (j + 1)) l₂ s₂ sp₂
    next {l₂} {s₂} {sp₂} = subst (λ k. ScannedTo l c n ends s t mark l₀ s₀ sp₀ x k l₂ s₂ sp₂) (omega arith)

    pub place_skip : (end_at ends i ≡ x → ⊥) → ScannedTo l c n ends s t mark l₀ s₀ sp₀ x (i * n + (j + 1)) l₁ s₁ sp₁
    place_skip q = next (turn_skip offers_ends v (λ h. absurd (place-off i j x a b q h)))

    pub place-more : x < n → end_at ends i ≡ x → {l₂ s₂ : List ℕ} {sp₂ : ℕ} → LookedWhere (looked_at (get_or l (i * c + j) 0) s t x (end_at ends j)) l₁ s₁ mark sp₁ (end_at ends j) l₂ s₂ sp₂
        → ScannedTo l c n ends s t mark l₀ s₀ sp₀ x (i * n + (j + 1)) l₂ s₂ sp₂
    place-more xn q {l₂} {s₂} {sp₂} w = go (looked_at (get_or l (i * c + j) 0) s t x (end_at ends j)) refl w
      where
        go : (p : Bool) → looked_at (get_or l (i * c + j) 0) s t x (end_at ends j) ≡ p → LookedWhere p l₁ s₁ mark sp₁ (end_at ends j) l₂ s₂ sp₂
            → ScannedTo l c n ends s t mark l₀ s₀ sp₀ x (i * n + (j + 1)) l₂ s₂ sp₂
        go true e w = next (turn_more offers_ends v xn (Rattle.graph_walks.specs.Places.inside (flag_edge l c n) (end_at ends) n r.each i j a b) (place_on i j x a b q ∙ e) (ap (end_at ends) (sym (column_at i j x a b))) (w.looked refl))
        go false e w = let k = w.skipped refl in rw (k.0, k.1, k.2) (next (turn_skip offers_ends v (λ h. absurd (true≢false (sym h ∙ place_on i j x a b q ∙ e)))))

  -- row i, up to column j
  pub swept_none : {mark : ℕ} {l₁ s₁ : List ℕ} {sp₁ : ℕ} (x i : ℕ) → Ready n mark l₁ s₁ sp₁ → Swept l c n ends s t mark l₁ s₁ sp₁ x i 0 l₁ s₁ sp₁
  swept_none {mark} {l₁} {s₁} {sp₁} x i v = record { ready = v; more = λ l₀ s₀ sp₀. subst (λ k. ScannedTo l c n ends s t mark l₀ s₀ sp₀ x k l₁ s₁ sp₁) (omega arith) }

  pub swept_more : {mark : ℕ} {l₁ s₁ l₂ s₂ l₃ s₃ : List ℕ} {sp₁ sp₂ sp₃ x i j : ℕ} → Swept l c n ends s t mark l₁ s₁ sp₁ x i j l₂ s₂ sp₂ → x < n → i < n → j < n → end_at ends i ≡ x
      → LookedWhere (looked_at (get_or l (i * c + j) 0) s t x (end_at ends j)) l₂ s₂ mark sp₂ (end_at ends j) l₃ s₃ sp₃ → Swept l c n ends s t mark l₁ s₁ sp₁ x i (j + 1) l₃ s₃ sp₃
  swept_more {i} {j} v xn a b q w = record { ready = end-ready v.ready (r.each j b) _ w; more = λ l₀ s₀ sp₀ k. place-more a b (v.more l₀ s₀ sp₀ k) xn q w }

  -- a row that isn't x's
  pub swept_off : {mark : ℕ} {l₁ s₁ : List ℕ} {sp₁ : ℕ} (x i : ℕ) → Ready n mark l₁ s₁ sp₁ → i < n → (end_at ends i ≡ x → ⊥) → Swept l c n ends s t mark l₁ s₁ sp₁ x i n l₁ s₁ sp₁
  swept_off {mark} {l₁} {s₁} {sp₁} x i v a q = record { ready = v; more = λ l₀ s₀ sp₀ w. go l₀ s₀ sp₀ w n (omega arith) }
    where
      go : (l₀ s₀ : List ℕ) (sp₀ : ℕ) → ScannedTo l c n ends s t mark l₀ s₀ sp₀ x (i * n) l₁ s₁ sp₁ → (j : ℕ) → j ≤ n → ScannedTo l c n ends s t mark l₀ s₀ sp₀ x (i * n + j) l₁ s₁ sp₁
      go l₀ s₀ sp₀ w zero b = subst (λ k. ScannedTo l c n ends s t mark l₀ s₀ sp₀ x k l₁ s₁ sp₁) (omega arith) w
      go l₀ s₀ sp₀ w (suc j) b = subst (λ k. ScannedTo l c n ends s t mark l₀ s₀ sp₀ x (i * n + k) l₁ s₁ sp₁) (add-one j) (place_skip a (omega arith) (go l₀ s₀ sp₀ w j (omega arith)) q)

  -- all rows up to the i-th
  pub rows_none : {mark : ℕ} {l₁ s₁ : List ℕ} {sp₁ : ℕ} (x : ℕ) → Ready n mark l₁ s₁ sp₁ → ScannedTo l c n ends s t mark l₁ s₁ sp₁ x (0 * n) l₁ s₁ sp₁
  rows_none {mark} {l₁} {s₁} {sp₁} x v = subst (λ k. ScannedTo l c n ends s t mark l₁ s₁ sp₁ x k l₁ s₁ sp₁) (sym (none n)) (scan_none offers_ends v)
    where
      none : (n : ℕ) → 0 * n ≡ 0
      none n = omega arith

  pub rows_more : {mark : ℕ} {l₀ s₀ l₁ s₁ l₂ s₂ : List ℕ} {sp₀ sp₁ sp₂ x i : ℕ} → ScannedTo l c n ends s t mark l₀ s₀ sp₀ x (i * n) l₁ s₁ sp₁ → Swept l c n ends s t mark l₁ s₁ sp₁ x i n l₂ s₂ sp₂
      → ScannedTo l c n ends s t mark l₀ s₀ sp₀ x ((i + 1) * n) l₂ s₂ sp₂
  rows_more {mark} {l₀} {s₀} {l₁} {s₁} {l₂} {s₂} {sp₀} {sp₁} {sp₂} {x} {i} v w =
      subst (λ k. ScannedTo l c n ends s t mark l₀ s₀ sp₀ x k l₂ s₂ sp₂) (sym (next_row (flag_edge l c n) (end_at ends) n r.each i)) (w.more l₀ s₀ sp₀ v)

pub end-row_can : {q : List ℕ} {c n : ℕ} {ends : List ℕ} {mark : ℕ} {l s : List ℕ} {sp t i : ℕ} → EndRows q c n ends → Ready n mark l s sp → t < n → i < n → CanScanEndRow q c n mark l s sp t i
end-row_can {c} {n} {i} r v h b = record { ready = v; node = h; row = b; inside = omega (arith, row_in n c i b, r.rows.narrow, r.rows.cells) }
