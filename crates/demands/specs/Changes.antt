-- What a move reports of the edges that come and go. Assumes nothing.
use Prim.Native.Nat.{ℕ, ◌+◌}
use native.Mathlib.Omega.{arith}
use Rattle.std.specs.Prelude.{◌≡◌, Bool, cond, ◌&&◌, ◌||◌, eqb, set}
use Rattle.std.proofs.Math.Path.{refl, ap₂}
use Rattle.std.proofs.Common.{sym, ap, ◌∙◌}
use Rattle.std.proofs.Math.Bool.{true, false, not, true≢false, and-false}
use mathlib.Core.List.{List, [], ◌∷◌, ◌++◌}
use Rattle.std.proofs.Math.ListN.{length, length-append}
use Rattle.graphs.specs.Bools.{fails}
use Rattle.graphs.specs.Count.{ind}
use Rattle.graphs.specs.Lists.{any, has}
use Rattle.entry_set.specs.Sets.{value}
use Rattle.move_ledger.specs.Graph.{Load, mult, edge, rising, row, rows, edges, sum, gained}
use Rattle.move_ledger.proofs.GraphLaws.{edge-source, edge-target}
use Rattle.move_ledger.specs.Answer.{Report, zeros, Answer, refused, accepted, rejected, is_accepted, reported}
use Rattle.move_ledger.specs.Answer as answer
use Rattle.move_ledger.specs.Ledger.{Ledger, report, decide, move}
use Rattle.move_ledger.proofs.MoveLaws.{decide_accepted, decide-late, place_after}
use Rattle.move_ledger.specs.Loading.{refusal}
use Rattle.move_ledger.specs.Places.{has_kept}
use Rattle.move_ledger.specs.Listing.{Rising, rising-rising, has-rising, one_rising}
use Rattle.move_ledger.specs.Edges.{kept-rising}
use Rattle.move_ledger.proofs.Edges.{edges-over}
use Rattle.move_ledger.specs.Chunks.{sum_kept}
use Rattle.move_area.specs.Area.{decode}
use Rattle.move_area.specs.Fixed.{checks_out}
use Rattle.move_area.specs.Calls as on-area
use Rattle.demands.specs.Areas.{holding, step-answer, step_after}

-- sums over one list
sum_alike : (f g : ℕ → ℕ) (l : List ℕ) → ((x : ℕ) → f x ≡ g x) → sum f l ≡ sum g l
unfolding sum
sum_alike f g [] h = refl
sum_alike f g (x ∷ l) h = ap₂ ◌+◌ (h x) (sum_alike f g l h)

sum-none : (f : ℕ → ℕ) (l : List ℕ) → ((x : ℕ) → f x ≡ 0) → sum f l ≡ 0
unfolding sum
sum-none f [] h = refl
sum-none f (x ∷ l) h = omega (arith, h x, sum-none f l h)

sum_balance : (f g h k : ℕ → ℕ) (l : List ℕ) → ((x : ℕ) → f x + g x ≡ h x + k x) → sum f l + sum g l ≡ sum h l + sum k l
unfolding sum
sum_balance f g h k [] e = refl
sum_balance f g h k (x ∷ l) e = omega (arith, e x, sum_balance f g h k l e)

-- what is 0 of sets that aren't the placement's may be added up over any rising list that holds these
sum_over : (f : ℕ → ℕ) (p : List ℕ) {R : List ℕ} → Rising 0 R → ((X : ℕ) → has X p ≡ true → has X R ≡ true) → ((X : ℕ) → has X p ≡ false → f X ≡ 0) → sum f (rising p) ≡ sum f R
sum_over f p {R} r inside out =
    ap (sum f) (one_rising (rising-rising p) (kept-rising (λ X. has X p) r) (λ z. has-rising z p ∙ sym (has_kept (λ X. has X p) z R ∙ go z (has z p) refl)))
    ∙ sum_kept f (λ X. has X p) R ∙ sum_alike _ _ R (λ X. one X (has X p) refl)
  where
    go : (z : ℕ) (t : Bool) → has z p ≡ t → (has z R && t) ≡ t
    go z true q = rw (inside z q) refl
    go z false q = and-false (has z R)

    one : (X : ℕ) (t : Bool) → has X p ≡ t → cond t (f X) 0 ≡ f X
    one X true q = refl
    one X false q = sym (out X q)

module _ (load : Load) (p : List ℕ) where
  row-sum : (X : ℕ) (Ys : List ℕ) → length (row load p X Ys) ≡ sum (λ Y. ind (edge load p X Y)) Ys
  unfolding row sum
  row-sum X [] = refl
  row-sum X (Y ∷ Ys) = go (edge load p X Y) (row-sum X Ys)
    where
      go : (t : Bool) → length (row load p X Ys) ≡ sum (λ Y. ind (edge load p X Y)) Ys
          → length (cond t (record { from = X; to = Y; multiplicity = mult load p X Y } ∷ row load p X Ys) (row load p X Ys)) ≡ ind t + sum (λ Y. ind (edge load p X Y)) Ys
      go true h = omega arith
      go false h = omega arith

  rows-sum : (Xs Ys : List ℕ) → length (rows load p Xs Ys) ≡ sum (λ X. sum (λ Y. ind (edge load p X Y)) Ys) Xs
  unfolding rows sum
  rows-sum [] Ys = refl
  rows-sum (X ∷ Xs) Ys =
      let h : length (row load p X Ys ++ rows load p Xs Ys) ≡ length (row load p X Ys) + length (rows load p Xs Ys) = length-append (row load p X Ys) (rows load p Xs Ys) in
      h ∙ ap₂ ◌+◌ (row-sum X Ys) (rows-sum Xs Ys)

-- sets that hold those of a placement
abbrev Covers : List ℕ → List ℕ → Type 0
Covers p R = (X : ℕ) → has X p ≡ true → has X R ≡ true

module _ (load : Load) {R : List ℕ} (r : Rising 0 R) where
  edges-sum : (p : List ℕ) → length p ≡ load.A → Covers p R → length (edges load p) ≡ sum (λ X. sum (λ Y. ind (edge load p X Y)) R) R
  edges-sum p n c = ap length (sym (edges-over load p n r c)) ∙ rows-sum load p R R

  gained-sum : (p q : List ℕ) → length q ≡ load.A → Covers q R → gained load p q ≡ sum (λ X. sum (λ Y. ind (edge load q X Y && not (edge load p X Y))) R) R
  unfolding gained
  gained-sum p q n c =
      sum_alike _ _ (rising q) (λ X. sum_over (λ Y. new X Y) q r c (λ Y h. none X Y (fails _ (λ e. true≢false (sym (edge-target load q n X Y e) ∙ h)))))
      ∙ sum_over (λ X. sum (new X) R) q r c (λ X h. sum-none (new X) R (λ Y. none X Y (fails _ (λ e. true≢false (sym (edge-source load q n X Y e) ∙ h)))))
    where
      new : ℕ → ℕ → ℕ
      new X Y = ind (edge load q X Y && not (edge load p X Y))

      none : (X Y : ℕ) → edge load q X Y ≡ false → new X Y ≡ 0
      none X Y h = rw h refl

has_left : (X : ℕ) (l m : List ℕ) → has X l ≡ true → has X (l ++ m) ≡ true
unfolding has any
has_left X [] m h = absurd (true≢false (sym h))
has_left X (x ∷ l) m h = by (eqb X x) h (has_left X l m)
  where
    by : (t : Bool) → (t || any (eqb X) l) ≡ true → (any (eqb X) l ≡ true → any (eqb X) (l ++ m) ≡ true) → (t || any (eqb X) (l ++ m)) ≡ true
    by true h f = refl
    by false h f = f h

has_right : (X : ℕ) (l m : List ℕ) → has X m ≡ true → has X (l ++ m) ≡ true
unfolding has any
has_right X [] m h = h
has_right X (x ∷ l) m h = by (eqb X x) (has_right X l m h)
  where
    by : (t : Bool) → any (eqb X) (l ++ m) ≡ true → (t || any (eqb X) (l ++ m)) ≡ true
    by true f = refl
    by false f = f

-- distinct edges after and those that vanished are distinct edges before and those that appeared
pub edges_change : (load : Load) (p q : List ℕ) → length p ≡ load.A → length q ≡ load.A
    → length (edges load q) + gained load q p ≡ length (edges load p) + gained load p q
edges_change load p q n m =
    ap₂ ◌+◌ (edges-sum load r q m right) (gained-sum load r q p n left)
    ∙ sum_balance _ _ _ _ R (λ X. sum_balance _ _ _ _ R (λ Y. one (edge load p X Y) (edge load q X Y)))
    ∙ sym (ap₂ ◌+◌ (edges-sum load r p n left) (gained-sum load r p q m right))
  where
    R : List ℕ
    R = rising (p ++ q)

    r : Rising 0 R
    r = rising-rising (p ++ q)

    left : Covers p R
    left X h = has-rising X (p ++ q) ∙ has_left X p q h

    right : Covers q R
    right X h = has-rising X (p ++ q) ∙ has_right X p q h

    one : (e f : Bool) → ind f + ind (e && not f) ≡ ind e + ind (f && not e)
    one true true = refl
    one true false = refl
    one false true = refl
    one false false = refl

-- an edge in both graphs counts as neither
gained-same : (load : Load) (p : List ℕ) → gained load p p ≡ 0
unfolding gained
gained-same load p = sum-none _ (rising p) (λ X. sum-none _ (rising p) (λ Y. one (edge load p X Y)))
  where
    one : (t : Bool) → ind (t && not t) ≡ 0
    one true = refl
    one false = refl

-- the two numbers of a report, of the placements p and then q
pub record Told (load : Load) (p q : List ℕ) (r : Report) : Type 0 where
  pub appeared : r.appeared ≡ gained load p q
  pub vanished : r.vanished ≡ gained load q p

-- what a move reports: a refused or rejected one zeros, an accepted one what the ledger says
pub reports : (load : Load) (fixed : List ℕ) (N : ℕ) (l : Ledger) (a : ℕ) (s : List ℕ)
    → reported (move load fixed N l a s).answer ≡ cond (is_accepted (move load fixed N l a s).answer) (report load l.place (move load fixed N l a s).after.place (value s)) zeros
unfolding move
reports load fixed N l a s = go (is_accepted x) refl
  where
    x : Answer
    x = decide load fixed l.place a s

    nothing : (x : Answer) → is_accepted x ≡ false → reported x ≡ zeros
    nothing (refused n) h = refl
    nothing answer.acyclic h = refl
    nothing answer.cyclic h = refl
    nothing (accepted r) h = absurd (true≢false h)
    nothing rejected h = refl
    nothing (answer.set s) h = refl
    nothing (answer.number n) h = refl
    nothing (answer.edge e) h = refl
    nothing answer.none h = refl

    go : (t : Bool) → is_accepted x ≡ t → reported x ≡ cond t (report load l.place (move load fixed N l a s).after.place (value s)) zeros
    go true h =
        let y = decide_accepted load fixed l.place a s h in
        let e : decide load fixed l.place a s ≡ accepted (report load l.place (set l.place a (value s)) (value s)) = decide-late load fixed l.place a s y.passed ∙ rw (y.inside, y.no_cycle) refl in
        ap reported e ∙ ap (λ q. report load l.place q (value s)) (sym (place_after load fixed N l a s ∙ rw h refl))
    go false h = nothing x h

-- an accepted move reports how many distinct edges appeared and vanished between the two graphs, and a rejected one noughts: whatever the answer is,
-- the numbers are of the placements before and after
pub move-reports : (load : Load) (fixed : List ℕ) (N : ℕ) (l : Ledger) (a : ℕ) (s : List ℕ)
    → Told load l.place (move load fixed N l a s).after.place (reported (move load fixed N l a s).answer)
unfolding move
move-reports load fixed N l a s = rw (reports load fixed N l a s) (go (is_accepted (decide load fixed l.place a s)) refl)
  where
    go : (t : Bool) → is_accepted (decide load fixed l.place a s) ≡ t
        → Told load l.place (move load fixed N l a s).after.place (cond t (report load l.place (move load fixed N l a s).after.place (value s)) zeros)
    go true h = record { appeared = refl; vanished = refl }
    go false h =
        let stays : (move load fixed N l a s).after.place ≡ l.place = place_after load fixed N l a s ∙ rw h refl in
        rw stays (record { appeared = sym (gained-same load l.place); vanished = sym (gained-same load l.place) })

-- and so on the areas that the calls are lent
pub changes_on_areas : (load : Load) (fixed : List ℕ) (N : ℕ) (area : List ℕ) (a : ℕ) (s : List ℕ) → refusal load fixed N (length area) ≡ 0 → checks_out load fixed N area ≡ true
    → let called = on-area.try_move load fixed N area a s in
    Told load (decode load N area).ledger.place (decode load N called.area).ledger.place (reported called.answer)
changes_on_areas load fixed N area a s q c =
    let h = holding load fixed N area q c in
    rw (step-answer load fixed N area a s h, step_after load fixed N area a s h) (move-reports load fixed N (decode load N area).ledger a s)
