-- For the code: the accepted pairs are, atom by atom, what is counted over nodes. Assumes nothing.
use Prim.Native.Nat.{ℕ, ◌^◌, ◌<◌}
use Rattle.std.proofs.Common.{arith, sym, ap, ◌∙◌, true≢false, eqb-true, eq-eqb}
use Rattle.std.specs.Prelude.{◌≡◌, true, false, not, cond, ◌&&◌, List, [], ◌∷◌, eqb, length}
use Rattle.std.proofs.Math.Path.{refl}
use Rattle.std.proofs.Math.Bool.{Bool}
use Rattle.graphs.specs.Bools.{alike}
use Rattle.graphs.specs.Count.{ind, count, count-all_no}
use Rattle.graphs.specs.Total.{total, total-same, count-total}
use Rattle.entry_set.specs.Sets.{words, width}
use Rattle.move_ledger.specs.Graph.{Load, at, occupied, rising, sum}
use Rattle.move_ledger.specs.Answer.{is_accepted}
use Rattle.move_ledger.specs.Ledger.{stays, decide}
use Rattle.move_ledger.specs.Nodes.{placed, Placing}
use Rattle.move_ledger.specs.NodeLaws.{placed-length, placed_at}
use Rattle.move_ledger.specs.Chunks.{chunk_sum}
use Rattle.move_free_walks.specs.HowFree.{targets, pairs}
use Rattle.move_free_walks.specs.Sums.{accepted_answer}
use Rattle.move_free_walks.specs.NodeFree.{fine, counted}

ones : (l : List ℕ) → length l ≡ sum (λ X. 1) l
unfolding sum
ones [] = refl
ones (x ∷ l) = omega (arith, ones l)

noughts : (n : ℕ) → total (λ x. 0) n ≡ 0
noughts n = sym (count-total (λ x. false) n) ∙ count-all_no (λ x. false) n (λ x l. refl)

module _ (load : Load) (fixed : List ℕ) {nodes sets : List ℕ} (p : Placing load nodes sets) (small : (x : ℕ) → x < length sets → at sets x < 2 ^ load.E) where
  long : length (placed nodes sets) ≡ load.A
  long = placed-length nodes sets ∙ p.atoms

  own : (a x : ℕ) → a < load.A → x < length sets → eqb (at sets x) (at (placed nodes sets) a) ≡ eqb x (at nodes a)
  own a x b l =
      let h = placed_at nodes sets a (omega (arith, p.atoms)) in
      alike _ _ (λ e. eq-eqb _ _ (p.distinct x (at nodes a) l (p.inside a b) (eqb-true _ _ e ∙ h))) (λ e. eq-eqb _ _ (ap (at sets) (eqb-true x (at nodes a) e) ∙ sym h))

  merge : (u v f t x : Bool) → (v ≡ false → x ≡ (not f && t)) → cond u (ind (not v && x)) 0 ≡ cond f 0 (ind (u && (not v && t)))
  merge true true true t x g = refl
  merge true true false t x g = refl
  merge true false true t x g = ap ind (g refl)
  merge true false false t x g = ap ind (g refl)
  merge false v true t x g = refl
  merge false v false t x g = refl

  -- one atom's accepted sets
  pub atom_accepted : (a : ℕ) → a < load.A
      → targets load fixed (placed nodes sets) is_accepted a ≡ cond (stays fixed a) 0 (counted load nodes a (length sets) (fine load nodes sets a))
  unfolding counted targets
  atom_accepted a b =
      chunk_sum p (λ X. ind (not (eqb X (at (placed nodes sets) a)) && is_accepted (decide load fixed (placed nodes sets) a (words (width load.E) X)))) (length sets) (omega arith)
      ∙ go (stays fixed a) refl
    where
      term : ℕ → Bool
      term x = occupied load nodes x && (not (eqb x (at nodes a)) && fine load nodes sets a x)

      each : (x : ℕ) → x < length sets
          → cond (occupied load nodes x) (ind (not (eqb (at sets x) (at (placed nodes sets) a)) && is_accepted (decide load fixed (placed nodes sets) a (words (width load.E) (at sets x))))) 0
          ≡ cond (stays fixed a) 0 (ind (occupied load nodes x && (not (eqb x (at nodes a)) && fine load nodes sets a x)))
      each x l =
          ap (λ v. cond (occupied load nodes x) (ind (not v && is_accepted (decide load fixed (placed nodes sets) a (words (width load.E) (at sets x))))) 0) (own a x b l)
          ∙ merge (occupied load nodes x) (eqb x (at nodes a)) (stays fixed a) (fine load nodes sets a x) _
          (λ e. accepted_answer load fixed (placed nodes sets) a (at sets x) long b (small x l) (λ q. true≢false (sym (eq-eqb _ _ q) ∙ own a x b l ∙ e)))

      go : (t : Bool) → stays fixed a ≡ t
          → total (λ x. cond (occupied load nodes x) (ind (not (eqb (at sets x) (at (placed nodes sets) a)) && is_accepted (decide load fixed (placed nodes sets) a (words (width load.E) (at sets x))))) 0) (length sets)
          ≡ cond t 0 (count (λ x. occupied load nodes x && (not (eqb x (at nodes a)) && fine load nodes sets a x)) (length sets))
      go true e = total-same (λ x. 0) _ (length sets) (λ x l. each x l ∙ ap (λ t. cond t 0 (ind (term x))) e) ∙ noughts (length sets)
      go false e =
          total-same (λ x. ind (term x)) _ (length sets) (λ x l. each x l ∙ ap (λ t. cond t 0 (ind (term x))) e)
          ∙ sym (count-total (λ x. occupied load nodes x && (not (eqb x (at nodes a)) && fine load nodes sets a x)) (length sets))

  -- all atoms'
  pub pairs_accepted : pairs load fixed (placed nodes sets) is_accepted ≡ total (λ a. cond (stays fixed a) 0 (counted load nodes a (length sets) (fine load nodes sets a))) load.A
  unfolding pairs
  pairs_accepted = total-same _ _ load.A (λ a b. atom_accepted a b)

  -- the chunks are the nodes with an atom
  pub chunk_count : length (rising (placed nodes sets)) ≡ count (λ x. occupied load nodes x) (length sets)
  chunk_count =
      ones (rising (placed nodes sets)) ∙ chunk_sum p (λ X. 1) (length sets) (omega arith)
      ∙ total-same _ _ (length sets) (λ x l. flag (occupied load nodes x)) ∙ sym (count-total (λ x. occupied load nodes x) (length sets))
    where
      flag : (t : Bool) → cond t 1 0 ≡ ind t
      flag true = refl
      flag false = refl
