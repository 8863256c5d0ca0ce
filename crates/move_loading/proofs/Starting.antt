-- The writes of the start are the fields of an area. Assumes nothing.
use mathlib.Core.Path.{◌≡◌, refl, ap}
use mathlib.Core.List.{List, [], ◌∷◌}
use Prim.Native.Nat.{ℕ, zero, suc, ◌+◌, ◌*◌, ◌≤◌, ◌<◌}
use native.Mathlib.Omega.{arith}
use native.Mathlib.Nat.{mul-le-mul_right}
use lib.ListN.{length, get_or, take, replicate}
use Rattle.graphs.specs.Tab.{tab, tab_alike}
use Rattle.layout.specs.Patch.{patch, part, part_long, patch-same}
use Rattle.layout.specs.Fields.{lay}
use Rattle.entry_set.specs.Joined.{parts}
use Rattle.entry_set.specs.Sets.{width}
use Rattle.move_ledger.specs.Graph.{Load, at}
use Rattle.move_ledger.specs.Loading.{entry_sets}
use Rattle.move_ledger.specs.LoadLaws.{entry_sets-at}
use Rattle.move_area.specs.Bodies.{lane_at, atom_at, write}
use Rattle.move_loading.specs.Start.{lent_word, word_fields, start_bodies, CanWords, CanStart}

-- a lane of words ends before the atoms' lanes
pub lane_room : {area : List ℕ} {n : ℕ} {sets : List ℕ} {w a : ℕ} → CanWords area n sets w a → (j : ℕ) → j < 8 → n * n + 24 + j * n + a ≤ length area
lane_room {area} {n} can j h = omega (arith, can.room, can.few, mul-le-mul_right {m = j} {n = 7} n (omega arith))

-- one lane more is written
pub sets-next : (n w a : ℕ) (sets l : List ℕ) (j : ℕ) → j < 8
    → patch (lane_at n j) (tab (lent_word w sets j) a) (lay (take j (word_fields n w sets a)) l) ≡ lay (take (j + 1) (word_fields n w sets a)) l
unfolding lay
sets-next n w a sets l zero h = refl
sets-next n w a sets l (suc zero) h = refl
sets-next n w a sets l (suc (suc zero)) h = refl
sets-next n w a sets l (suc (suc (suc zero))) h = refl
sets-next n w a sets l (suc (suc (suc (suc zero)))) h = refl
sets-next n w a sets l (suc (suc (suc (suc (suc zero))))) h = refl
sets-next n w a sets l (suc (suc (suc (suc (suc (suc zero)))))) h = refl
sets-next n w a sets l (suc (suc (suc (suc (suc (suc (suc zero))))))) h = refl
sets-next n w a sets l (suc (suc (suc (suc (suc (suc (suc (suc j)))))))) h = absurd (omega arith)

-- the words of the lent sets are those of the entry sets
words_alike : (load : Load) (w : ℕ) (sets : List ℕ) → w ≡ width load.E → (j : ℕ) → tab (λ x. get_or (parts 32 8 (at (entry_sets load sets) x)) j 0) load.A ≡ tab (lent_word w sets j) load.A
words_alike load w sets q j = rw q (tab_alike _ _ load.A (λ x b. ap (λ X. get_or (parts 32 8 X) j 0) (entry_sets-at load sets x b)))

-- the start's writes
pub start_written : (load : Load) (n w : ℕ) (sets l₀ : List ℕ) {l₁ l₂ l₃ l₄ l₅ l₆ : List ℕ} → w ≡ width load.E → l₁ ≡ patch (n * n) (load.A ∷ 0 ∷ 0 ∷ load.A ∷ 0 ∷ []) l₀ → l₂ ≡ lay (word_fields n w sets load.A) l₁
    → l₃ ≡ patch (lane_at n 8) (replicate n 0) l₂ → l₄ ≡ patch (lane_at n 9) (replicate n 0) l₃ → l₅ ≡ patch (lane_at n 10) (replicate n 0) l₄
    → l₆ ≡ patch (atom_at n) (tab (λ i. i) load.A) l₅ → l₆ ≡ write n (start_bodies load.A n (entry_sets load sets) l₀) l₀
unfolding write lay
start_written load n w sets l₀ q e₁ e₂ e₃ e₄ e₅ e₆ =
    cc (front, word 0, word 1, word 2, word 3, word 4, word 5, word 6, word 7)
  where
    front : patch 0 (part 0 (n * n) l₀) l₀ ≡ l₀
    front = patch-same 0 (part 0 (n * n) l₀) l₀ (ap (λ k. part 0 k l₀) (part_long 0 (n * n) l₀))

    word : (j : ℕ) → tab (λ x. get_or (parts 32 8 (at (entry_sets load sets) x)) j 0) load.A ≡ tab (lent_word w sets j) load.A
    word = words_alike load w sets q

-- the sets may be written behind the header
pub words_can : {area l : List ℕ} {a e n : ℕ} {sets : List ℕ} {w : ℕ} → CanStart area a e n sets → length l ≡ length area → w ≡ width e → CanWords l n sets w a
words_can {area} {l} {a} {e} {n} {sets} {w} can q h =
    record { room = omega (arith, can.room); few = can.few; nodes = can.nodes; narrow = omega (arith, can.bits); lent = rw h (omega (arith, can.lent)) }
