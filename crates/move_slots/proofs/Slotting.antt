-- The loops that write slots. Assumes nothing.
use mathlib.Core.Path.{◌≡◌, refl, sym, ap, ◌∙◌}
use mathlib.Core.List.{List}
use mathlib.Core.Bool.{Bool, true, false, not, true≢false}
use Prim.Native.Nat.{ℕ, ◌+◌, ◌-◌, ◌≤◌, ◌<◌}
use native.Mathlib.Omega.{arith}
use native.Mathlib.Numerals.{add-one}
use lib.Dec.{eqb}
use lib.ListN.{length, replicate}
use borrow.Author.Tests.{eq-eqb, ne_eqb, lt-ltb, le-ltb}
use Rattle.graphs.specs.Bools.{fails, and_right}
use Rattle.layout.specs.Patch.{patch, part_long}
use Rattle.move_ledger.specs.Graph.{Load, none, at, owner}
use Rattle.move_ledger.specs.LoadLaws.{starts_up, owner_is}
use Rattle.move_load_view.specs.View.{CanPart, dependencies_of}
use Rattle.move_ledger.specs.Nodes.{faced}
use Rattle.move_slots.specs.Written.{Written}
use Rattle.move_slots.specs.Slots.{entry_source, entry_target, facade_source, facade_target, source_by, target_by, sources_by, targets_by}
use Rattle.move_slots.specs.Steps.{CanSources, CanSlots}
use Rattle.move_slots.proofs.Writing.{written_run, written_both}

-- the sources of the entries of the first i atoms
module _ {load : Load} {nodes l₀ : List ℕ} (can : CanSources load nodes l₀) where
  -- a start is at most D, and at most the next one
  start_le : (i : ℕ) → i ≤ load.A → at load.starts i ≤ load.D
  start_le i h = omega (arith, starts_up can.order load.A i h (omega arith), can.order.last)

  start_up : (i : ℕ) → i < load.A → at load.starts i ≤ at load.starts (i + 1)
  start_up i h = rw add-one (can.order.step i h)

  -- the entries of atom i
  pub entries_can : (i : ℕ) → i < load.A → CanPart load.starts load.dependencies i
  entries_can i h = record { inside = omega (arith, can.starts_long); rising = start_up i h; within = omega (arith, start_le (i + 1) (omega arith), can.dependencies_long) }

  module _ {i from : ℕ} {list l : List ℕ} (f : from ≡ at load.starts i) (e : list ≡ dependencies_of load.starts load.dependencies i)
      (v : Written (entry_source load nodes) 0 from l₀ l) (h : i < load.A) where
    pub entries-end : from + length list ≡ at load.starts (i + 1)
    entries-end = omega (arith, ap length e, part_long (at load.starts i) (at load.starts (i + 1) - at load.starts i) load.dependencies, start_up i h)

    entries_few : from + length list ≤ load.D
    entries_few = omega (arith, entries-end, start_le (i + 1) (omega arith))

    pub sources_can : from + length list ≤ length l
    sources_can = omega (arith, entries_few, can.room, v.long)

    pub sources-more : {l' : List ℕ} → l' ≡ patch from (replicate (length list) (at nodes i)) l → Written (entry_source load nodes) 0 (from + length list) l₀ l'
    sources-more q =
        written_run v (length list) (omega arith) sources_can q
        (λ k y z. ap (at nodes) (owner_is can.order k i h (omega arith) (rw (← add-one i) (omega (arith, entries-end)))))

-- a facade edge is there where neither its node nor its host is None
pub faced-yes : (f h : ℕ) → (f ≡ none → ⊥) → (h ≡ none → ⊥) → faced f h ≡ true
faced-yes f h p q = rw (ne_eqb f none p, ne_eqb h none q) refl

pub faced_no_front : (f h : ℕ) → f ≡ none → faced f h ≡ false
faced_no_front f h p = rw (eq-eqb f none p) refl

pub faced-no_host : (f h : ℕ) → h ≡ none → faced f h ≡ false
faced-no_host f h p = fails _ (λ t. let z : ◌≡◌ {A = Bool} true false = sym (and_right (not (eqb f none)) _ t) ∙ ap not (eq-eqb h none p) in true≢false z)

-- all slots, entries first
module _ {load : Load} {nodes facade s t s₁ t₁ : List ℕ} (can : CanSlots load nodes facade s t) (v : Written (entry_source load nodes) 0 load.D s s₁)
    (w : Written (entry_target load.dependencies nodes) 0 load.D t t₁) where
  pub slots_source : {s₂ : List ℕ} → Written (facade_source load.hosts facade) load.D load.E s₁ s₂ → s₂ ≡ patch 0 (sources_by load nodes facade) s
  unfolding sources_by source_by owner
  slots_source x =
      written_both v x can.room (λ i h. rw (lt-ltb i load.D h) refl)
      (λ i h. let z : load.D + i - load.D ≡ i = omega arith in rw (le-ltb (load.D + i) load.D (omega arith), z) refl)

  pub slots_target : {t₂ : List ℕ} → Written (facade_target load.hosts nodes facade) load.D load.E t₁ t₂ → t₂ ≡ patch 0 (targets_by load nodes facade) t
  unfolding targets_by target_by
  slots_target x =
      written_both w x can.room_target (λ i h. rw (lt-ltb i load.D h) refl)
      (λ i h. let z : load.D + i - load.D ≡ i = omega arith in rw (le-ltb (load.D + i) load.D (omega arith), z) refl)
