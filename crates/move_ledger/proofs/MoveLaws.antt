-- Theorems on the definitions of specs/MoveLaws: they stand here, so that the crate can be read with a definition changed. Assumes nothing.
use Rattle.std.specs.Prelude.{ℕ, ◌≡◌, Bool, not, ◌||◌, List, [], ◌∷◌, leb, eqb, length, set}
use Rattle.std.proofs.Math.Path.{refl}
use Rattle.std.proofs.Common.{sym, ap, subst, ◌∙◌, true≢false, length-set, get_or-set_other}
use Rattle.std.proofs.Math.Bool.{true, false, cond}
use Rattle.std.proofs.lemmas.Bool.{not-true}
use Rattle.graphs.specs.Bools.{and_left, and_right}
use Rattle.graphs.specs.Walk.{cyclic}
use Rattle.entry_set.specs.Sets.{value, legal}
use Rattle.move_ledger.specs.Graph.{Load, at, edge}
use Rattle.move_ledger.proofs.GraphLaws.{outside-stays}
use Rattle.move_ledger.specs.Answer.{Report, accepted, rejected, is_refused, is_accepted}
use Rattle.move_ledger.specs.Ledger.{Ledger, step1, step2, step3, stays, report, decide, move, Call, try_move, asks, call, ledger}
use Rattle.move_ledger.specs.MoveLaws.{choose, Passed, Accepted, decide_chooses, x, move_keeps}
use Rattle.move_ledger.specs.MoveLaws as moveLaws_here

choose-passed : (r10 r24 r11 r12 s1 s3 : Bool) (r : Report) → is_refused (choose r10 r24 r11 r12 s1 s3 r) ≡ false → Passed r10 r24 r11 r12
unfolding choose
choose-passed true r24 r11 r12 s1 s3 r h = absurd (true≢false h)
choose-passed false true r11 r12 s1 s3 r h = absurd (true≢false h)
choose-passed false false true r12 s1 s3 r h = absurd (true≢false h)
choose-passed false false false true s1 s3 r h = absurd (true≢false h)
choose-passed false false false false s1 s3 r h = record { at10 = refl; at24 = refl; at11 = refl; at12 = refl }

choose_accepted : (r10 r24 r11 r12 s1 s3 : Bool) (r : Report) → is_accepted (choose r10 r24 r11 r12 s1 s3 r) ≡ true → Accepted r10 r24 r11 r12 s1 s3
unfolding choose
choose_accepted true r24 r11 r12 s1 s3 r h = absurd (true≢false (sym h))
choose_accepted false true r11 r12 s1 s3 r h = absurd (true≢false (sym h))
choose_accepted false false true r12 s1 s3 r h = absurd (true≢false (sym h))
choose_accepted false false false true s1 s3 r h = absurd (true≢false (sym h))
choose_accepted false false false false true s3 r h = absurd (true≢false (sym h))
choose_accepted false false false false false true r h = absurd (true≢false (sym h))
choose_accepted false false false false false false r h = record { passed = record { at10 = refl; at24 = refl; at11 = refl; at12 = refl }; inside = refl; no_cycle = refl }

module _ (load : Load) (fixed place : List ℕ) (a : ℕ) (s : List ℕ) where
  pub decide-passed : is_refused (decide load fixed place a s) ≡ false → Passed (leb load.A a) (stays fixed a) (not (legal load.E s)) (eqb (value s) (at place a))
  decide-passed h = choose-passed _ _ _ _ _ _ _ (subst (λ x. is_refused x ≡ false) (moveLaws_here.decide_chooses load fixed place a s) h)

  pub decide_accepted : is_accepted (decide load fixed place a s) ≡ true
      → Accepted (leb load.A a) (stays fixed a) (not (legal load.E s)) (eqb (value s) (at place a)) (step1 load place a) (cyclic (edge load (set place a (value s))) (set place a (value s)))
  decide_accepted h = choose_accepted _ _ _ _ _ _ _ (subst (λ x. is_accepted x ≡ true) (moveLaws_here.decide_chooses load fixed place a s) h)

  -- past its rows a move is decided by its steps
  pub decide-late : Passed (leb load.A a) (stays fixed a) (not (legal load.E s)) (eqb (value s) (at place a))
      → decide load fixed place a s ≡ cond (step1 load place a || cyclic (edge load (set place a (value s))) (set place a (value s))) rejected (accepted (report load place (set place a (value s)) (value s)))
  unfolding choose
  decide-late p = (moveLaws_here.decide_chooses load fixed place a s) ∙ rw (p.at10, p.at24, p.at11, p.at12) refl

  pub decide_unrefused : Passed (leb load.A a) (stays fixed a) (not (legal load.E s)) (eqb (value s) (at place a)) → is_refused (decide load fixed place a s) ≡ false
  decide_unrefused p = ap is_refused (decide-late p) ∙ go (step1 load place a || cyclic (edge load (set place a (value s))) (set place a (value s)))
    where
      go : (t : Bool) → is_refused (cond t rejected (accepted (report load place (set place a (value s)) (value s)))) ≡ false
      go true = refl
      go false = refl

  -- what step 1 rejects, step 3 would reject too: the moved graph alone decides
  pub decide_exactly : length place ≡ load.A → is_refused (decide load fixed place a s) ≡ false
      → decide load fixed place a s ≡ cond (cyclic (edge load (set place a (value s))) (set place a (value s))) rejected (accepted (report load place (set place a (value s)) (value s)))
  decide_exactly n u = decide-late (decide-passed u) ∙ ap (λ t. cond t rejected (accepted (report load place (set place a (value s)) (value s)))) (go (step1 load place a) refl)
    where
      go : (t : Bool) → step1 load place a ≡ t → (t || cyclic (edge load (set place a (value s))) (set place a (value s))) ≡ cyclic (edge load (set place a (value s))) (set place a (value s))
      go true h = sym (outside-stays load place a (value s) n (and_left (cyclic (edge load place) place) _ h) (not-true _ (and_right (cyclic (edge load place) place) _ h)))
      go false h = refl

module _ (load : Load) (fixed : List ℕ) (N : ℕ) (l : Ledger) (a : ℕ) (s : List ℕ) where
  -- the atom has moved where the move is accepted
  pub place_after : (move load fixed N l a s).after.place ≡ cond (is_accepted (decide load fixed l.place a s)) (set l.place a (value s)) l.place
  unfolding move
  place_after = go (is_accepted (moveLaws_here.x load fixed N l a s)) refl
    where
      go : (t : Bool) → is_accepted (moveLaws_here.x load fixed N l a s) ≡ t → (move load fixed N l a s).after.place ≡ cond t (set l.place a (value s)) l.place
      go true h = let y = decide_accepted load fixed l.place a s h in rw (decide_unrefused load fixed l.place a s y.passed, y.inside, h) refl
      go false h = keeps (is_refused (moveLaws_here.x load fixed N l a s)) (step1 load l.place a)
        where
          keeps : (r s1 : Bool) → (cond (not (r || s1)) (cond (is_accepted (moveLaws_here.x load fixed N l a s)) (step3 load N l a (value s)) (step2 load N l (value s))) l).place ≡ l.place
          keeps true s1 = refl
          keeps false true = refl
          keeps false false = rw h refl

  -- a fixed atom keeps its set
  pub fixed_atom : (b : ℕ) → stays fixed b ≡ true → at (move load fixed N l a s).after.place b ≡ at l.place b
  fixed_atom b h = ap (λ p. at p b) place_after ∙ go (is_accepted (moveLaws_here.x load fixed N l a s)) refl
    where
      go : (t : Bool) → is_accepted (moveLaws_here.x load fixed N l a s) ≡ t → at (cond t (set l.place a (value s)) l.place) b ≡ at l.place b
      go true e = get_or-set_other l.place a b (value s) 0 (λ z. true≢false (sym h ∙ ap (stays fixed) z ∙ (decide_accepted load fixed l.place a s e).passed.at24))
      go false e = refl

-- the ledger goes on with as many atoms
pub call_length : (load : Load) (fixed : List ℕ) (N : ℕ) (l : Ledger) (c : Call) → length l.place ≡ load.A → length (call load fixed N l c).after.place ≡ load.A
unfolding call
call_length load fixed N l (try_move a s) h = move_keeps load fixed N l a s (λ m. length m.place ≡ load.A) h (λ u. h) (λ u. rw length-set h)
call_length load fixed N l (asks q) h = h

pub ledger-length : (load : Load) (fixed : List ℕ) (N : ℕ) (l : Ledger) (cs : List Call) → length l.place ≡ load.A → length (ledger load fixed N l cs).place ≡ load.A
unfolding ledger
ledger-length load fixed N l [] h = h
ledger-length load fixed N l (c ∷ cs) h = ledger-length load fixed N (call load fixed N l c).after cs (call_length load fixed N l c h)
