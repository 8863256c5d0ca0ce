-- A row counted, compared and wiped, and the rows one after the other. Assumes nothing.
use mathlib.Core.Path.{◌≡◌, refl, sym, ap, ◌∙◌}
use mathlib.Core.List.{List}
use mathlib.Core.Bool.{Bool, true, false, not}
use Prim.Native.Nat.{ℕ, zero, suc, ◌+◌, ◌*◌, ◌≤◌, ◌<◌}
use native.Mathlib.Omega.{arith}
use native.Mathlib.Decide.{dec_lt}
use lib.Dec.{eqb, ltb}
use lib.ListN.{length, get_or, set, length-set, take}
use lib.Seq.{get_or-set_same, get_or-set_other, length-take-le}
use borrow.Author.Tests.{lt-ltb, le-ltb, eq-eqb, ne_eqb, eqb-true}
use Rattle.graphs.specs.Bools.{Same, it, other, same?}
use Rattle.graphs.specs.Count.{ind, count, ind_le, count_ext, count_pos, count-all_no}
use Rattle.graph_neighbours.specs.Groups.{occ, occ-more, occ_le}
use Rattle.graph_neighbours.specs.Parts.{part_of}
use Rattle.move_edges.specs.Rows.{CanTally, Tallied, CanWipe, Wiped, differing, nonzero, numbers_of, CanCompare, Compared, Clean, CanCheckRow, RowIs}

-- two counts of tests that differ at v alone
count_change : (p q : ℕ → Bool) (v : ℕ) → ((y : ℕ) → (y ≡ v → ⊥) → q y ≡ p y) → (n : ℕ) → v < n → count q n + ind (p v) ≡ count p n + ind (q v)
unfolding count
count_change p q v h zero z = absurd (omega arith)
count_change p q v h (suc n) z = go (same? n v) (λ b. count_change p q v h n b)
  where
    go : Same n v → (v < n → count q n + ind (p v) ≡ count p n + ind (q v)) → count q n + ind (q n) + ind (p v) ≡ count p n + ind (p n) + ind (q v)
    go (it e) r = omega (arith, count_ext q p n (λ j b. h j (omega (arith, b, e))), ap (λ (k : ℕ). ind (p k)) e, ap (λ (k : ℕ). ind (q k)) e)
    go (other e) r = omega (arith, r (omega (arith, z, e)), ap ind (h n e))

some_or_none : (x : ℕ) → ind (ltb 0 x) + ind (eqb x 0) ≡ 1
some_or_none x = go (dec_lt 0 x)
  where
    go : Dec (0 < x) → ind (ltb 0 x) + ind (eqb x 0) ≡ 1
    go (yes h) = rw (lt-ltb 0 x h, ne_eqb x 0 (omega arith)) refl
    go (no h) = rw (le-ltb 0 x (omega arith), eq-eqb x 0 (omega arith)) refl

-- one more at v is one more number that isn't 0, if it was 0
nonzero-more : (row : List ℕ) (v n : ℕ) → v < n → v < length row
    → nonzero (λ y. get_or (set row v (get_or row v 0 + 1)) y 0) n ≡ nonzero (λ y. get_or row y 0) n + ind (eqb (get_or row v 0) 0)
nonzero-more row v n z w =
    let c = count_change (λ y. ltb 0 (get_or row y 0)) (λ y. ltb 0 (get_or (set row v (get_or row v 0 + 1)) y 0)) v
    (λ y d. ap (ltb 0) (get_or-set_other row v y (get_or row v 0 + 1) 0 d)) n z in
    let one : ind (ltb 0 (get_or (set row v (get_or row v 0 + 1)) v 0)) ≡ 1 =
    ap ind (lt-ltb 0 (get_or (set row v (get_or row v 0 + 1)) v 0) (omega (arith, get_or-set_same row v (get_or row v 0 + 1) 0 w))) in
    omega (arith, c, one, some_or_none (get_or row v 0))

-- the first k neighbours are counted
pub record Some (part row₀ row : List ℕ) (k found : ℕ) : Type 0 where
  pub at : (y : ℕ) → get_or row y 0 ≡ get_or row₀ y 0 + occ y (take k part)
  pub more : (n : ℕ) → ((j : ℕ) → j < length part → get_or part j 0 < n) → nonzero (λ y. get_or row y 0) n ≡ nonzero (λ y. get_or row₀ y 0) n + found
  pub few : found ≤ k
  pub long : length row ≡ length row₀

pub some_none : (part row : List ℕ) → Some part row row 0 0
some_none part row = record { at = λ y. omega (arith, occ_le y (take 0 part)); more = λ n h. omega arith; few = omega arith; long = refl }

module _ {part row₀ row : List ℕ} {k f : ℕ} (can : CanTally part row₀) (h : Some part row₀ row k f) (z : k < length part) where
  some_within : get_or part k 0 < length row
  some_within = omega (arith, can.within k z, h.long)

  pub some_can : get_or row (get_or part k 0) 0 < 4294967295
  some_can = omega (arith, can.room k z, h.at (get_or part k 0), occ_le (get_or part k 0) (take k part), length-take-le k part (omega arith))

  pub some_more : {b : ℕ} → b ≡ ind (eqb (get_or row (get_or part k 0) 0) 0) → Some part row₀ (set row (get_or part k 0) (get_or row (get_or part k 0) 0 + 1)) (k + 1) (f + b)
  some_more {b} p = record {
    at = λ y. rw (occ-more y part k z) (go y (same? y v));
    more = λ n w. omega (arith, nonzero-more row v n (w k z) some_within, h.more n w, p);
    few = omega (arith, h.few, p, ind_le (eqb (get_or row (get_or part k 0) 0) 0));
    long = length-set row v (get_or row v 0 + 1) ∙ h.long;
  }
    where
      v : ℕ
      v = get_or part k 0

      go : (y : ℕ) → Same y v → get_or (set row v (get_or row v 0 + 1)) y 0 ≡ get_or row₀ y 0 + (occ y (take k part) + ind (eqb v y))
      go y (it e) = rw (eq-eqb v y (sym e)) (rw e (get_or-set_same row v (get_or row v 0 + 1) 0 some_within ∙ omega (arith, h.at v)))
      go y (other e) = rw (ne_eqb v y (λ f. e (sym f))) (get_or-set_other row v y (get_or row v 0 + 1) 0 e ∙ omega (arith, h.at y))

-- the first k neighbours are wiped
pub record Less (part row₀ row : List ℕ) (k : ℕ) : Type 0 where
  pub zero : (y : ℕ) → 1 ≤ occ y (take k part) → get_or row y 0 ≡ 0
  pub kept : (y : ℕ) → occ y (take k part) ≡ 0 → get_or row y 0 ≡ get_or row₀ y 0
  pub long : length row ≡ length row₀

pub less_none : (part row : List ℕ) → Less part row row 0
less_none part row = record { zero = λ y h. absurd (omega (arith, occ_le y (take 0 part))); kept = λ y h. refl; long = refl }

pub less-more : {part row₀ row : List ℕ} {k : ℕ} → CanWipe part row₀ → Less part row₀ row k → k < length part → Less part row₀ (set row (get_or part k 0) 0) (k + 1)
less-more {part} {row₀} {row} {k} can h z = record {
  zero = λ y q. go y (same? y v) (omega (arith, q, occ-more y part k z));
  kept = λ y q. stay y (same? y v) (omega (arith, q, occ-more y part k z));
  long = length-set row v 0 ∙ h.long;
}
  where
    v : ℕ
    v = get_or part k 0

    go : (y : ℕ) → Same y v → 1 ≤ occ y (take k part) + ind (eqb v y) → get_or (set row v 0) y 0 ≡ 0
    go y (it e) q = rw e (get_or-set_same row v 0 0 (omega (arith, can.within k z, h.long)))
    go y (other e) q = get_or-set_other row v y 0 0 e ∙ h.zero y (omega (arith, rw (ne_eqb v y (λ f. e (sym f))) at q))

    stay : (y : ℕ) → Same y v → occ y (take k part) + ind (eqb v y) ≡ 0 → get_or (set row v 0) y 0 ≡ get_or row₀ y 0
    stay y (it e) q = absurd (omega (arith, rw (eq-eqb v y (sym e)) at q))
    stay y (other e) q = get_or-set_other row v y 0 0 e ∙ h.kept y (omega (arith, rw (ne_eqb v y (λ f. e (sym f))) at q))

-- how many numbers of a row differ from what they are to be, and how many edges it has
pub record RowTold (numbers part : List ℕ) (unequal edges : ℕ) : Type 0 where
  pub differ : unequal ≡ differing (numbers_of numbers) (λ y. occ y part) (length numbers)
  pub found : edges ≡ nonzero (λ y. occ y part) (length numbers)

-- one row
module _ {numbers part row : List ℕ} (can : CanCheckRow numbers part row) where
  pub row_tally : CanTally part row
  row_tally = record {
    within = λ k z. omega (arith, can.within k z, can.rows);
    room = λ k z. omega (arith, can.clean.at (get_or part k 0) (can.within k z), can.few);
  }

  -- no neighbours, so the row is right where it is empty
  pub row-bare : {u : ℕ} → length part ≡ 0 → Compared numbers (λ y. 0) u → RowTold numbers part u 0
  row-bare q c = record {
    differ = c.differ ∙ count_ext _ _ (length numbers) (λ y z. ap (λ (v : ℕ). not (eqb (get_or numbers y 0) v)) (sym (none_of y)));
    found = sym (count-all_no (λ y. ltb 0 (occ y part)) (length numbers) (λ y z. ap (ltb 0) (none_of y) ∙ le-ltb 0 0 (omega arith)));
  }
    where
      none_of : (y : ℕ) → occ y part ≡ 0
      none_of y = omega (arith, occ_le y part, q)

  module _ {row₁ : List ℕ} {f : ℕ} (t : Tallied part row row₁ f) where
    pub row_compare : CanCompare numbers row₁
    row_compare = record { rows = omega (arith, t.long, can.rows); few = can.nodes }

    pub row_wipe : CanWipe part row₁
    row_wipe = record { within = λ k z. omega (arith, t.long, row_tally.within k z) }

    counts : (y : ℕ) → y < length numbers → get_or row₁ y 0 ≡ occ y part
    counts y z = omega (arith, t.at y, can.clean.at y z)

    pub row_told : {u : ℕ} → Compared numbers (numbers_of row₁) u → RowTold numbers part u f
    row_told {u} c = record {
      differ = c.differ ∙ count_ext _ _ (length numbers) (λ y z. ap (λ (v : ℕ). not (eqb (get_or numbers y 0) v)) (counts y z));
      found = found_all;
    }
      where
        -- nothing was counted in the row before
        found_all : f ≡ nonzero (λ y. occ y part) (length numbers)
        found_all =
            let n = length numbers in
            let before : nonzero (λ y. get_or row y 0) n ≡ 0 = count-all_no (λ y. ltb 0 (get_or row y 0)) n (λ y z. ap (ltb 0) (can.clean.at y z) ∙ le-ltb 0 0 (omega arith)) in
            let after : nonzero (λ y. get_or row₁ y 0) n ≡ nonzero (λ y. occ y part) n = count_ext _ _ n (λ y z. ap (λ (v : ℕ). ltb 0 v) (counts y z)) in
            omega (arith, t.more n can.within, before, after)

    pub row_clean : {row₂ : List ℕ} → Wiped part row₁ row₂ → Clean row₂ (length numbers)
    row_clean {row₂} w = record { at = λ y z. go y z (dec_lt 0 (occ y part)) }
      where
        go : (y : ℕ) → y < length numbers → Dec (0 < occ y part) → get_or row₂ y 0 ≡ 0
        go y z (yes p) = w.zero y p
        go y z (no p) = w.kept y (omega arith) ∙ counts y z ∙ omega arith

-- no number differs exactly where two rows are alike
alike_rows : (f g : ℕ → ℕ) (n : ℕ) → differing f g n ≡ 0 → (y : ℕ) → y < n → f y ≡ g y
alike_rows f g n h y z = go (eqb (f y) (g y)) refl
  where
    go : (t : Bool) → eqb (f y) (g y) ≡ t → f y ≡ g y
    go true e = eqb-true (f y) (g y) e
    go false e = absurd (omega (arith, h, count_pos (λ y. not (eqb (f y) (g y))) n y z (rw e refl)))

rows_alike : (f g : ℕ → ℕ) (n : ℕ) → ((y : ℕ) → y < n → f y ≡ g y) → differing f g n ≡ 0
rows_alike f g n h = count-all_no (λ y. not (eqb (f y) (g y))) n (λ y z. rw (eq-eqb (f y) (g y) (h y z)) refl)

module _ {numbers part : List ℕ} {u f : ℕ} (t : RowTold numbers part u f) where
  pub row_right : u ≡ 0 → RowIs numbers part × (f ≡ nonzero (λ y. occ y part) (length numbers))
  row_right q = (record { at = alike_rows (numbers_of numbers) (λ y. occ y part) (length numbers) (sym t.differ ∙ q) }, t.found)

  pub row_wrong : (u ≡ 0 → ⊥) → RowIs numbers part → ⊥
  row_wrong q r = q (t.differ ∙ rows_alike (numbers_of numbers) (λ y. occ y part) (length numbers) r.at)

-- the rows below x are right
pub record Rows (e : List ℕ) (n : ℕ) (starts list row degrees : List ℕ) (x : ℕ) : Type 0 where
  pub at : (z : ℕ) → z < x → (y : ℕ) → y < n → get_or e (z * n + y) 0 ≡ occ y (part_of starts list z)
  pub edges : (z : ℕ) → z < x → get_or degrees z 0 ≡ nonzero (λ y. occ y (part_of starts list z)) n
  pub clean : Clean row n
  pub rows : n ≤ length row
  pub answers : n ≤ length degrees
