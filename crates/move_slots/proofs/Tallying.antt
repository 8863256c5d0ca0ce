-- The loop that counts each node's atoms. Assumes nothing.
use mathlib.Core.Path.{◌≡◌, refl, sym, ap, ◌∙◌}
use mathlib.Core.List.{List}
use Prim.Native.Nat.{ℕ, ◌+◌, ◌<◌}
use native.Mathlib.Omega.{arith}
use native.Mathlib.Decide.{ℕ_discrete}
use lib.Dec.{eqb}
use lib.ListN.{length, get_or, set, length-set, replicate}
use lib.Seq.{get_or-set_same, get_or-set_other}
use borrow.Author.Tests.{eq-eqb, ne_eqb}
use Rattle.graphs.specs.Count.{count_none, count_yes, count_no, count_le}
use Rattle.graphs.specs.Tab.{zeros}
use Rattle.move_ledger.specs.Graph.{at}
use Rattle.move_slots.specs.Slots.{atoms}
use Rattle.move_slots.specs.Steps.{CanTally}

-- each node's atoms, of the first k, stand in a list
abbrev pub Counts : List ℕ → ℕ → List ℕ → Type 0
Counts nodes k l = (x : ℕ) → x < length l → get_or l x 0 ≡ atoms nodes k x

pub tally_none : (nodes : List ℕ) (n : ℕ) {l : List ℕ} → l ≡ replicate n 0 → Counts nodes 0 l
tally_none nodes n {l} q x h = ap (λ (v : List ℕ). get_or v x 0) q ∙ zeros n x ∙ sym (count_none _)

pub tally_room : {counts nodes : List ℕ} (l : List ℕ) {k : ℕ} → CanTally counts nodes → Counts nodes k l → k < length nodes → at nodes k < length l → get_or l (at nodes k) 0 + 1 < 4294967296
tally_room {counts} {nodes} l {k} can v h b = omega (arith, v (at nodes k) b, count_le (λ i. eqb (at nodes i) (at nodes k)) k, can.few)

pub tally_more : (nodes : List ℕ) (k : ℕ) (l : List ℕ) → Counts nodes k l → Counts nodes (k + 1) (set l (at nodes k) (get_or l (at nodes k) 0 + 1))
tally_more nodes k l v x h = go (ℕ_discrete x (at nodes k))
  where
    y : ℕ
    y = at nodes k

    b : x < length l
    b = omega (arith, length-set l y (get_or l y 0 + 1))

    go : Dec (x ≡ y) → get_or (set l y (get_or l y 0 + 1)) x 0 ≡ atoms nodes (k + 1) x
    go (yes e) =
        let z : y < length l = omega (arith, b, e) in
        rw e (get_or-set_same l y _ 0 (omega arith) ∙ ap (λ (w : ℕ). w + 1) (v y (omega arith)) ∙ sym (count_yes (λ i. eqb (at nodes i) y) k (eq-eqb y y refl)))
    go (no e) = get_or-set_other l y x _ 0 e ∙ v x b ∙ sym (count_no (λ i. eqb (at nodes i) x) k (ne_eqb y x (λ w. e (sym w))))
