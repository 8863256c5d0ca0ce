-- Laws of a single move: what its answer tells, and what it leaves. Assumes nothing.
use Rattle.std.specs.Prelude.{ℕ, ◌≡◌, Bool, not, ◌||◌, List, leb, eqb, set}
use Rattle.std.proofs.Math.Path.{refl}
use Rattle.std.proofs.Math.Bool.{true, false, cond}
use Rattle.graphs.specs.Walk.{cyclic}
use Rattle.entry_set.specs.Sets.{value, legal}
use Rattle.move_ledger.specs.Graph.{Load, at, edge}
use Rattle.move_ledger.specs.Answer.{Report, Answer, refused, accepted, rejected, is_refused, is_accepted}
use Rattle.move_ledger.specs.Ledger.{Ledger, register, step1, step2, step3, stays, report, decide, tried, move}

-- the choice that a move makes by its rows 10, 24, 11 and 12 and its steps 1 and 3
unfoldable pub choose : Bool → Bool → Bool → Bool → Bool → Bool → Report → Answer
choose r10 r24 r11 r12 s1 s3 r =
    cond r10 (refused 10) (cond r24 (refused 24) (cond r11 (refused 11) (cond r12 (refused 12) (cond (s1 || s3) rejected (accepted r)))))

-- what an unrefused move has passed
pub record Passed (r10 r24 r11 r12 : Bool) : Type 0 where
  pub at10 : r10 ≡ false
  pub at24 : r24 ≡ false
  pub at11 : r11 ≡ false
  pub at12 : r12 ≡ false

-- and what an accepted one has
pub record Accepted (r10 r24 r11 r12 s1 s3 : Bool) : Type 0 where
  pub passed : Passed r10 r24 r11 r12
  pub inside : s1 ≡ false
  pub no_cycle : s3 ≡ false

module _ (load : Load) (fixed place : List ℕ) (a : ℕ) (s : List ℕ) where
  pub decide_chooses : decide load fixed place a s
      ≡ choose (leb load.A a) (stays fixed a) (not (legal load.E s)) (eqb (value s) (at place a)) (step1 load place a) (cyclic (edge load (set place a (value s))) (set place a (value s)))
      (report load place (set place a (value s)) (value s))
  unfolding decide choose
  decide_chooses = refl

-- what a move leaves
module _ (load : Load) (fixed : List ℕ) (N : ℕ) (l : Ledger) (a : ℕ) (s : List ℕ) where
  abbrev pub x : Answer
  x = decide load fixed l.place a s

  -- a refused move changes nothing
  pub refused_keeps : is_refused (decide load fixed l.place a s) ≡ true → (move load fixed N l a s).after ≡ l
  unfolding move
  refused_keeps h = rw h refl

  -- nor does one that step 1 rejects
  pub step1_keeps : step1 load l.place a ≡ true → (move load fixed N l a s).after ≡ l
  unfolding move
  step1_keeps h = rw h (go (is_refused x) _)
    where
      go : (r : Bool) (m : Ledger) → cond (not (r || true)) m l ≡ l
      go true m = refl
      go false m = refl

  -- a tried one leaves what its answer says
  pub tried-after : is_refused (decide load fixed l.place a s) ≡ false → step1 load l.place a ≡ false
      → (move load fixed N l a s).after ≡ cond (is_accepted (decide load fixed l.place a s)) (step3 load N l a (value s)) (step2 load N l (value s))
  unfolding move
  tried-after u h = rw (u, h) refl

  -- the target is registered where the move is tried, accepted or not; which sets are empty is a matter of the placement before the move
  pub registered-after : (move load fixed N l a s).after.registered ≡ cond (tried load fixed l.place a s) (register load N l.place (value s) l.registered) l.registered
  unfolding move
  registered-after = go (is_refused x || step1 load l.place a) (is_accepted x)
    where
      go : (u t : Bool) → (cond (not u) (cond t (step3 load N l a (value s)) (step2 load N l (value s))) l).registered ≡ cond (not u) (register load N l.place (value s) l.registered) l.registered
      go true t = refl
      go false true = refl
      go false false = refl

  -- what holds of the ledger before, and of what steps 2 and 3 make of it, holds afterwards
  pub move_keeps : (P : Ledger → Type 0) → P l → (is_refused (decide load fixed l.place a s) ≡ false → P (step2 load N l (value s)))
      → (is_refused (decide load fixed l.place a s) ≡ false → P (step3 load N l a (value s))) → P (move load fixed N l a s).after
  unfolding move
  move_keeps P p₁ p₂ p₃ = go (is_refused x) refl (step1 load l.place a) (is_accepted x)
    where
      go : (r : Bool) → is_refused x ≡ r → (s1 t : Bool) → P (cond (not (r || s1)) (cond t (step3 load N l a (value s)) (step2 load N l (value s))) l)
      go true q s1 t = p₁
      go false q true t = p₁
      go false q false true = p₃ q
      go false q false false = p₂ q
