-- Theorems on the definitions of specs/Sound: they stand here, so that the crate can be read with a definition changed. Assumes nothing.
use Rattle.std.specs.Prelude.{ℕ, ◌^◌, ◌<◌, ◌≡◌, Bool, List, [], ◌∷◌, eqb, set}
use Rattle.std.proofs.Common.{arith, sym, ap, subst, ◌∙◌, true≢false, length-set, get_or-set_same, get_or-set_other, ltb-true, leb-false}
use Rattle.std.proofs.Math.Decide.{ℕ_discrete}
use Rattle.std.proofs.Math.Path.{refl}
use Rattle.std.proofs.Math.Bool.{true, false, cond}
use Rattle.std.proofs.Math.ListN.{length}
use Rattle.std.proofs.lemmas.Bool.{not-false}
use Rattle.graphs.specs.Bools.{and_right}
use Rattle.graphs.specs.Lists.{has, has-at, has-place}
use Rattle.entry_set.specs.Sets.{value, width}
use Rattle.move_ledger.specs.Graph.{Load, at}
use Rattle.move_ledger.specs.GraphLaws.{occupy}
use Rattle.move_ledger.specs.Answer.{is_refused}
use Rattle.move_ledger.specs.Ledger.{Ledger, put, register, step2, step3, decide, Call, try_move, asks, call, ledger}
use Rattle.move_ledger.specs.Places.{put_grows, put_most, put_same, put_other, put_apart}
use Rattle.move_ledger.specs.Evict.{Free, place-free}
use Rattle.move_ledger.proofs.Evict.{registered}
use Rattle.move_ledger.specs.MoveLaws.{move_keeps}
use Rattle.move_ledger.proofs.MoveLaws.{decide-passed}
use Rattle.move_ledger.specs.Sound.{Sound, r}
use Rattle.move_ledger.specs.Sound as sound_here

module _ {load : Load} {N : ℕ} {l : Ledger} (v : Sound load N l) (more : load.A < N) (T : ℕ) (small : T < 2 ^ load.E) where
  abbrev seen : List ℕ
  seen = l.registered

  free : Free load N l.place seen (sound_here.r v more T small)
  free = place-free load N l.place seen v.distinct v.room more

  -- step 2 keeps it: the set that goes has no atom
  pub step2_sound : Sound load N (step2 load N l T)
  unfolding register
  step2_sound = go (has T seen) refl
    where
      go : (t : Bool) → has T seen ≡ t → Sound load N (record { place = l.place; registered = cond t seen (put (sound_here.r v more T small) T seen) })
      go true q = v
      go false q =
          record {
            atoms = v.atoms;
            room = put_most (sound_here.r v more T small) T seen free.within N v.room free.room;
            distinct = put_apart (sound_here.r v more T small) T seen free.within q v.distinct;
            in_range = λ i b. range i b (ℕ_discrete i (sound_here.r v more T small));
            registered = λ i b. stays i b (has-place (at l.place i) seen (v.registered i b));
          }
        where
          range : (i : ℕ) → i < length (put (sound_here.r v more T small) T seen) → Dec (i ≡ (sound_here.r v more T small)) → at (put (sound_here.r v more T small) T seen) i < 2 ^ load.E
          range i b (yes e) = rw (e, put_same (sound_here.r v more T small) T seen free.within) small
          range i b (no d) = let x = put_other (sound_here.r v more T small) T seen free.within i b d in rw x.1 (v.in_range i x.0)

          stays : (i : ℕ) → i < load.A → (k : ℕ) × (k < length seen) × (at seen k ≡ at l.place i) → has (at l.place i) (put (sound_here.r v more T small) T seen) ≡ true
          stays i b k = other k.0 k.1 k.2 (ℕ_discrete k.0 (sound_here.r v more T small))
            where
              other : (x : ℕ) → x < length seen → at seen x ≡ at l.place i → Dec (x ≡ (sound_here.r v more T small)) → has (at l.place i) (put (sound_here.r v more T small) T seen) ≡ true
              other x c e (yes f) = absurd (true≢false (sym (occupy load l.place (at seen (sound_here.r v more T small)) i b (sym e ∙ ap (at seen) f)) ∙ free.empty (omega arith)))
              other x c e (no f) =
                  let z : x < length (put (sound_here.r v more T small) T seen) = omega (arith, put_grows (sound_here.r v more T small) T seen free.within) in
                  subst (λ u. has u (put (sound_here.r v more T small) T seen) ≡ true) ((put_other (sound_here.r v more T small) T seen free.within x z f).1 ∙ e) (has-at (put (sound_here.r v more T small) T seen) x z)

  -- step 3 keeps it
  pub step3_sound : (a : ℕ) → a < load.A → Sound load N (step3 load N l a T)
  step3_sound a b =
      record {
        atoms = rw length-set v.atoms;
        room = step2_sound.room;
        distinct = step2_sound.distinct;
        in_range = step2_sound.in_range;
        registered = λ i c. pick i c (ℕ_discrete i a);
      }
    where
      pick : (i : ℕ) → i < load.A → Dec (i ≡ a) → has (at (set l.place a T) i) (register load N l.place T l.registered) ≡ true
      pick i c (yes e) = rw (e, get_or-set_same l.place a T 0 (omega (arith, v.atoms))) (registered load N l.place seen v.distinct v.room more T).has_target
      pick i c (no d) = rw (get_or-set_other l.place a i T 0 d) (step2_sound.registered i c)

pub call_sound : (load : Load) (fixed : List ℕ) (N : ℕ) (l : Ledger) (c : Call) → load.A < N → Sound load N l → Sound load N (call load fixed N l c).after
unfolding call
call_sound load fixed N l (try_move a s) more v =
    move_keeps load fixed N l a s (Sound load N) v (λ u. step2_sound v more (value s) (range u))
    (λ u. step3_sound v more (value s) (range u) a (leb-false _ _ (decide-passed load fixed l.place a s u).at10))
  where
    range : is_refused (decide load fixed l.place a s) ≡ false → value s < 2 ^ load.E
    range u = ltb-true _ _ (and_right (eqb (length s) (width load.E)) _ (not-false _ (decide-passed load fixed l.place a s u).at11))
call_sound load fixed N l (asks q) more v = v

-- every ledger after a loading
pub ledger_sound : (load : Load) (fixed : List ℕ) (N : ℕ) (l : Ledger) (cs : List Call) → load.A < N → Sound load N l → Sound load N (ledger load fixed N l cs)
unfolding ledger
ledger_sound load fixed N l [] more v = v
ledger_sound load fixed N l (c ∷ cs) more v = ledger_sound load fixed N (call load fixed N l c).after cs more (call_sound load fixed N l c more v)
