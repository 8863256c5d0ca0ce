-- The loop that finds each bit's facade node. Assumes nothing.
use mathlib.Core.Path.{◌≡◌, refl, sym, ap, ◌∙◌}
use mathlib.Core.List.{List}
use mathlib.Core.Bool.{true, false, cond}
use Prim.Native.Nat.{ℕ, ◌+◌, ◌^◌, ◌≤◌, ◌<◌}
use native.Mathlib.Omega.{arith}
use native.Mathlib.Decide.{ℕ_discrete}
use lib.Dec.{eqb}
use lib.ListN.{length, get_or, set, length-set, replicate, length-replicate, get_or-replicate}
use lib.Seq.{get_or-set_same, get_or-set_other}
use borrow.Author.Tests.{eq-eqb, eqb-true, lt-ltb}
use Rattle.graphs.specs.Bools.{fails, and_left, and_both}
use Rattle.entry_set.specs.Sets.{single_bit}
use Rattle.entry_set.specs.SingleLaws.{single_eqb}
use Rattle.entry_set.specs.Lanes.{lanes}
use Rattle.move_ledger.specs.Graph.{none}
use Rattle.move_ledger.specs.Nodes.{highest}
use Rattle.move_ledger.specs.NodeLaws.{highest-none, highest-more}
use Rattle.move_slots.specs.Facades.{is_front, fronting, Fronted}

-- nothing changes where the node is no front
front_same : {X count x : ℕ} (l : List ℕ) → ((b : ℕ) → b < length l → is_front X count b ≡ true → ⊥) → Fronted X count x l l
front_same l h = record { is = λ b z. rw (fails _ (h b z)) refl; long = refl }

module _ {X B : ℕ} (single : B ≡ single_bit X) {count x : ℕ} (l : List ℕ) (bits : length l ≤ 256) where
  pub front-other : length l ≤ B → Fronted X count x l l
  front-other z = front_same l (λ b h t. omega (arith, eqb-true (single_bit X) b (sym (single_eqb X b (omega arith)) ∙ and_left (eqb X (2 ^ b)) _ t)))

  pub front-found : (count ≡ 0 → ⊥) → B < length l → Fronted X count x l (set l B x)
  front-found some z = record {
    is = λ b h. go b h (ℕ_discrete b B);
    long = length-set l B x;
  }
    where
      go : (b : ℕ) → b < length l → Dec (b ≡ B) → get_or (set l B x) b 0 ≡ cond (is_front X count b) x (get_or l b 0)
      go b h (yes q) =
          let t : is_front X count b ≡ true = and_both (eqb X (2 ^ b)) _ (single_eqb X b (omega arith) ∙ eq-eqb (single_bit X) b (omega arith)) (lt-ltb 0 count (omega arith)) in
          rw t (rw q (get_or-set_same l B x 0 (omega arith)))
      go b h (no q) =
          let t : is_front X count b ≡ false = fails _ (λ t. q (omega (arith, eqb-true (single_bit X) b (sym (single_eqb X b (omega arith)) ∙ and_left (eqb X (2 ^ b)) _ t)))) in
          rw t (get_or-set_other l B b x 0 q)

-- no node yet
pub fronts-none : (area : List ℕ) (from stride : ℕ) (counts : List ℕ) (e : ℕ) {l : List ℕ} → l ≡ replicate e none
    → (b : ℕ) → b < length l → get_or l b 0 ≡ highest (fronting area from stride counts b) 0
fronts-none area from stride counts e {l} q b h =
    let z : b < e = omega (arith, ap length q, length-replicate {A = ℕ} e none) in
    ap (λ (v : List ℕ). get_or v b 0) q ∙ get_or-replicate e b none 0 z ∙ sym (highest-none (fronting area from stride counts b))

-- one node more
pub fronts-more : (area : List ℕ) (from stride : ℕ) (counts : List ℕ) {x count : ℕ} {l l' : List ℕ} → Fronted (lanes area (from + x) stride) count x l l' → count ≡ get_or counts x 0
    → ((b : ℕ) → b < length l → get_or l b 0 ≡ highest (fronting area from stride counts b) x)
    → (b : ℕ) → b < length l' → get_or l' b 0 ≡ highest (fronting area from stride counts b) (x + 1)
fronts-more area from stride counts {x} {count} {l} f e g b h =
    let z : b < length l = omega (arith, f.long) in
    f.is b z ∙ rw (g b z, e) (sym (highest-more (fronting area from stride counts b) x))
