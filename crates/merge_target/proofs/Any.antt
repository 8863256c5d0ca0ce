-- A test on the elements of a list is one on the numbers below its length. Assumes nothing.
use Rattle.std.specs.Prelude.{ℕ, ◌≡◌, refl, ◌<◌, ◌≤◌, Bool, true, false, not, ◌&&◌, List, length, get_or, eqb, leb}
use Rattle.std.specs.List.{list_any, zip, range_with_len}
use Rattle.std.proofs.Common.{arith, sym, ap, ◌∙◌, true≢false, zero-add}
use Rattle.std.proofs.lemmas.List.Elements.{All-from_get_or}
use Rattle.std.proofs.lemmas.List.Folds.{list_any_at, list_any_none}
use Rattle.std.proofs.lemmas.List.FromFn.{length-range_with_len, get_or-range_with_len}
use Rattle.std.proofs.lemmas.Slice.Zip.{length-zip, get_or-zip}
use Rattle.graphs.specs.Bools.{alike}
use Rattle.graphs.specs.Lists.{some_below, some_take, some_none}
use Rattle.merge_choice.specs.Choice.{some_in}
use Rattle.merge_choice.specs.Find.{bad_entry}

module _ {X : Type 0} (q : X → Bool) (xs : List X) (d : X) (p : ℕ → Bool) (e : (i : ℕ) → i < length xs → q (get_or xs i d) ≡ p i) where
  pub any_is_some : list_any q xs ≡ some_below p (length xs)
  any_is_some = alike _ _ (λ h. there h (some_below p (length xs)) refl) back
    where
      there : list_any q xs ≡ true → (t : Bool) → some_below p (length xs) ≡ t → some_below p (length xs) ≡ true
      there h true f = f
      there h false f =
          let none = list_any_none q xs (All-from_get_or (λ x. q x ≡ false) xs d (λ i b. e i b ∙ some_none p (length xs) f i b)) in
          absurd (true≢false (sym h ∙ none))

      back : some_below p (length xs) ≡ true → list_any q xs ≡ true
      back h = let r = some_take p (length xs) h in list_any_at q xs r.0 d r.1 (e r.0 r.1 ∙ r.2)

pub range_is_some : (q p : ℕ → Bool) (n : ℕ) → ((i : ℕ) → i < n → q i ≡ p i) → list_any q (range_with_len 0 n) ≡ some_below p n
range_is_some q p n e =
    let long : length (range_with_len 0 n) ≡ n = length-range_with_len 0 n in
    any_is_some q (range_with_len 0 n) 0 p (λ i b. let b' : i < n = omega arith in ap q (get_or-range_with_len 0 n i 0 b' ∙ zero-add i) ∙ e i b') ∙ ap (some_below p) long

pub any_is_in : (p : ℕ → Bool) (l : List ℕ) → list_any p l ≡ some_in l p
unfolding some_in
any_is_in p l = any_is_some p l 0 (λ i. p (get_or l i 0)) (λ i b. refl)

-- two lists side by side, the first no longer than the second
module _ {X : Type 0} (q : X × ℕ → Bool) (xs : List X) (ys : List ℕ) (d : X) (p : ℕ → Bool) (short : length xs ≤ length ys)
    (e : (i : ℕ) → i < length xs → q (get_or xs i d, get_or ys i 0) ≡ p i) where
  pub zip_is_some : list_any q (zip xs ys) ≡ some_below p (length xs)
  zip_is_some =
      let long : length (zip xs ys) ≡ length xs = omega (arith, length-zip xs ys) in
      any_is_some q (zip xs ys) (d, 0) p (λ i b. let b' : i < length xs = omega arith in rw (get_or-zip xs ys i (d, 0) b' (omega arith)) (e i b'))
      ∙ ap (some_below p) long

-- the chunks whose entry module is read and out of range
pub bad_entries : (kinds entries : List ℕ) (m : ℕ) → length entries ≡ length kinds → list_any (λ p. not (eqb p.0 8) && leb m p.1) (zip kinds entries) ≡ some_below (bad_entry kinds entries m) (length kinds)
unfolding bad_entry
bad_entries kinds entries m h = zip_is_some (λ p. not (eqb p.0 8) && leb m p.1) kinds entries 0 (bad_entry kinds entries m) (omega arith) (λ i b. refl)
