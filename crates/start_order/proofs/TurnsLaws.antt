-- Theorems on the definitions of specs/Turns: they stand here, so that the crate can be read with a definition changed. Assumes nothing.
use Prim.Native.Nat.{ℕ, suc, ◌+◌, ◌-◌, ◌≤◌, ◌<◌}
use native.Mathlib.Omega.{arith}
use Rattle.std.proofs.Math.Decide.{ℕ_discrete, dec_lt}
use Rattle.std.specs.Prelude.{◌≡◌, refl, Bool, ◌||◌, List, [], ◌∷◌, ◌++◌, map, eqb, length, set}
use Rattle.std.proofs.Common.{sym, ◌∙◌, ⊎_elim, get_or-set_same, get_or-set_other, eqb-true, eq-eqb, ne_eqb}
use Rattle.std.proofs.Math.Path.{ap}
use Rattle.std.proofs.Math.Bool.{true, false, cond, true≢false}
use Rattle.std.proofs.lemmas.List.{map_push}
use Rattle.graphs.specs.Bools.{or_cases, or_right}
use Rattle.graphs.specs.Count.{ind}
use Rattle.graphs.specs.Lists.{any, has, any_give}
use Rattle.move_ledger.specs.Graph.{at}
use Rattle.move_order.specs.Order.{first, listing}
use Rattle.move_order.specs.Listing.{snoc_length, has_snoc, first_is, first_least}
use Rattle.start_order.specs.Turns.{Setting, Fits, whole, Row, is_ready, Turn, sets, test, to_node, z, zr, test-z, fit_z, left_over}
use Rattle.start_order.specs.Turns as turns_here

module _ {s : Setting} {n r a k : ℕ} {listed marks degrees : List ℕ} (fits : Fits s r) (few : r ≤ n) (t : Turn s n r a k listed marks degrees) where
  module _ {order : List ℕ} (row : Row s r order) {i : ℕ} (here : i < r) (can : is_ready marks degrees (at order i) ≡ true)
      (before : (j : ℕ) → j < i → is_ready marks degrees (at order j) ≡ false) (less : k < a) where
    in_chunks : has (s.set (turns_here.z fits few t row here can before less)) s.chunks ≡ true
    in_chunks = fits.member (turns_here.z fits few t row here can before less) (turns_here.fit_z fits few t row here can before less).want

    some : any (turns_here.test fits few t) s.chunks ≡ true
    some = any_give (turns_here.test fits few t) s.chunks (s.set (turns_here.z fits few t row here can before less)) in_chunks (turns_here.test-z fits few t row here can before less)

    -- no ready set is smaller
    least : (X : ℕ) → has X s.chunks ≡ true → (turns_here.test fits few t) X ≡ true → s.set (turns_here.z fits few t row here can before less) ≤ X
    least X m h =
        let x = fits.node X m in
        let q = (turns_here.to_node fits few t) x.0 x.1 (ap (turns_here.test fits few t) x.2 ∙ h) in
        let p = row.place x.0 x.1 in
        let no-earlier : p.0 < i → ⊥ = λ l. true≢false (sym q ∙ ap (is_ready marks degrees) (sym p.2) ∙ before p.0 l) in
        elim (ℕ_discrete p.0 i) [
          | yes g ↦ omega (arith, ap s.set (ap (at order) (sym g) ∙ p.2) ∙ x.2)
          | no g ↦ elim (dec_lt p.0 i) [
            | yes l ↦ absurd (no-earlier l)
            | no l ↦ omega (arith, row.rise i p.0 (omega arith) p.1, ap s.set p.2 ∙ x.2)
          ]
        ]

    chosen : first (turns_here.test fits few t) s.chunks ≡ s.set (turns_here.z fits few t row here can before less)
    chosen =
        let f = first_is (turns_here.test fits few t) s.chunks some in
        omega (arith, first_least (turns_here.test fits few t) fits.rises (s.set (turns_here.z fits few t row here can before less)) in_chunks (turns_here.test-z fits few t row here can before less), least (first (turns_here.test fits few t) s.chunks) f.0 f.1)

    goes_on : whole s a ≡ listing s.over s.wanted s.chunks (a - (k + 1)) (map s.set (listed ++ (turns_here.z fits few t row here can before less) ∷ []))
    unfolding listing
    goes_on =
        let e : a - k ≡ suc (a - (k + 1)) = omega arith in
        t.goes ∙ ap (λ j. listing s.over s.wanted s.chunks j (turns_here.sets fits few t)) e
        ∙ ap (λ u. cond u (listing s.over s.wanted s.chunks (a - (k + 1)) ((turns_here.sets fits few t) ++ first (turns_here.test fits few t) s.chunks ∷ [])) (turns_here.sets fits few t)) some
        ∙ ap (λ X. listing s.over s.wanted s.chunks (a - (k + 1)) ((turns_here.sets fits few t) ++ X ∷ [])) chosen
        ∙ ap (listing s.over s.wanted s.chunks (a - (k + 1))) (sym (map_push s.set listed (turns_here.z fits few t row here can before less)))

    pub turn_more : {marks' degrees' : List ℕ} → marks' ≡ set marks (turns_here.z fits few t row here can before less) 2 → r ≤ length marks → ((x : ℕ) → x < r → at degrees' x + ind (s.edge x (turns_here.z fits few t row here can before less)) ≡ at degrees x)
        → Turn s n r a (k + 1) (listed ++ (turns_here.z fits few t row here can before less) ∷ []) marks' degrees'
    turn_more {marks'} {degrees'} m long d = record {
      most = omega arith;
      many = omega (arith, snoc_length listed (turns_here.z fits few t row here can before less), t.many);
      inside = λ x h. ⊎_elim (t.inside x) (λ q. omega (arith, eqb-true x (turns_here.z fits few t row here can before less) q, (turns_here.zr fits few t row here can before less))) (or_cases (has x listed) _ (sym (has_snoc x (turns_here.z fits few t row here can before less) listed) ∙ h));
      wanted = λ x h. ⊎_elim (t.wanted x) (λ q. rw (eqb-true x (turns_here.z fits few t row here can before less) q) (turns_here.fit_z fits few t row here can before less).want) (or_cases (has x listed) _ (sym (has_snoc x (turns_here.z fits few t row here can before less) listed) ∙ h));
      goes = goes_on;
      mark_at = λ x b. ap (λ l. at l x) m ∙ marks-at x b (ℕ_discrete x (turns_here.z fits few t row here can before less));
      degree_at = λ x b. omega (arith, d x b, (turns_here.left_over fits few t row here can before less) x b);
    }
      where
        marks-at : (x : ℕ) → x < r → Dec (x ≡ (turns_here.z fits few t row here can before less)) → at (set marks (turns_here.z fits few t row here can before less) 2) x ≡ cond (has x (listed ++ (turns_here.z fits few t row here can before less) ∷ [])) 2 (ind (s.wanted (s.set x)))
        marks-at x b (yes e) =
            ap (at (set marks (turns_here.z fits few t row here can before less) 2)) e ∙ get_or-set_same marks (turns_here.z fits few t row here can before less) 2 0 (omega (arith, (turns_here.zr fits few t row here can before less)))
            ∙ sym (ap (λ u. cond u 2 (ind (s.wanted (s.set x)))) (has_snoc x (turns_here.z fits few t row here can before less) listed ∙ or_right (has x listed) _ (eq-eqb x (turns_here.z fits few t row here can before less) e)))
        marks-at x b (no e) =
            get_or-set_other marks (turns_here.z fits few t row here can before less) x 2 0 e ∙ t.mark_at x b ∙ sym (ap (λ u. cond u 2 (ind (s.wanted (s.set x)))) (has_snoc x (turns_here.z fits few t row here can before less) listed ∙ keep (has x listed) (eqb x (turns_here.z fits few t row here can before less)) (ne_eqb x (turns_here.z fits few t row here can before less) e)))
          where
            keep : (p q : Bool) → q ≡ false → (p || q) ≡ p
            keep true q h = refl
            keep false q h = h
