-- Demand 3 of the merge graph: swapping two neighbouring merges. Assumes nothing.
use Prim.Native.Nat.{ℕ, zero, suc}
use Rattle.std.proofs.Common.{arith, sym, ap₂, ◌∙◌}
use Rattle.std.proofs.Math.Decide.{ℕ_discrete}
use Rattle.std.specs.Prelude.{◌≡◌, Bool, List, [], ◌∷◌, ◌++◌}
use Rattle.std.proofs.Math.Path.{refl, ap}
use Rattle.std.proofs.Math.Bool.{true, false, cond}
use Rattle.merge_state.specs.declared.Sizes.{Sizes}
use Rattle.merge_state.specs.State.{put, put_other}
use Rattle.merge_state.specs.Methods.{merged}
use Rattle.merge_state.specs.Table.{Answer, done, Call, merge_chunk_dependencies, later, acted, turned}
use Rattle.merge_area.specs.Layout.{head}
use Rattle.merge_area.specs.Read.{mode_in, into_in}
use Rattle.merge_area.specs.Writes.{merge_area, write}
use Rattle.merge_area.specs.Consistent.{short, inconsistent}
use Rattle.merge_area.specs.Calls.{refusal, step, ends, answers}
use Rattle.merge_laws.specs.Can.{CanMergeArea}
use Rattle.merge_laws.specs.Rows.{free}
use Rattle.merge_laws.specs.May.{may-merge}
use Rattle.demands.specs.MergeRefused.{free_step, stuck_step}
use Rattle.demands.specs.MergeKept.{write-holds, write-consistent}
use Rattle.merge_reads.specs.Cells.{area_length, area_rest}
use Rattle.demands.specs.MergeEither.{area_swap}

abbrev merge : ℕ → ℕ → Call
merge target source = merge_chunk_dependencies target source

-- a merge that no row refuses
module _ (z : Sizes) (a : List ℕ) (t s : ℕ) (h : refusal z a (merge t s) ≡ 0) where
  can_merge : CanMergeArea z a t s
  can_merge = may-merge z a t s refl h

  merged_area : (step z a (merge t s)).1 ≡ merge_area z a t s
  unfolding write
  merged_area = ap (λ r. r.1) (free_step z a (merge t s) h)

  -- another chunk's merge stays
  kept-into : (x : ℕ) → (x ≡ s → ⊥) → into_in z (merge_area z a t s) x ≡ into_in z a x
  unfolding write acted merged
  kept-into x n = ap (λ g. g.into x) (write-holds z a (merge t s) h).graph ∙ go (mode_in z a)
    where
      go : (m : Bool) → cond m (put (into_in z a) s t) (into_in z a) x ≡ into_in z a x
      go true = put_other (into_in z a) s t x n
      go false = refl

  -- it changes nothing that a later merge's rows ask, of chunks other than its source
  merged-row : (u v : ℕ) → (u ≡ s → ⊥) → (v ≡ s → ⊥) → refusal z (merge_area z a t s) (merge u v) ≡ refusal z a (merge u v)
  unfolding refusal later short write
  merged-row u v p q =
      rw (area_length z a t s can_merge, after, (free z a (merge t s) refl h).stood.consistent, area_rest z a t s can_merge (head z 1) (omega arith) (omega arith) (omega arith), kept-into u p, kept-into v q)
    where
      after : inconsistent z (merge_area z a t s) ≡ false
      after = write-consistent z a (merge t s) h

module _ (z : Sizes) (a : List ℕ) (t s u v : ℕ) (target : u ≡ s → ⊥) (source : v ≡ s → ⊥) where
  -- whether a merge is refused isn't changed by another whose source it doesn't name
  same_row : refusal z (step z a (merge t s)).1 (merge u v) ≡ refusal z a (merge u v)
  same_row = elim (ℕ_discrete (refusal z a (merge t s)) 0) [
    | yes q ↦ rw (merged_area z a t s q) (merged-row z a t s q u v target source)
    | no q ↦ ap (λ b. refusal z b (merge u v)) (stuck_step z a (merge t s) q)
  ]

  told : (q : ℕ) (b c d e : List ℕ) → (turned q b (done, d)).0 ≡ (turned q c (done, e)).0
  unfolding turned
  told zero b c d e = refl
  told (suc n) b c d e = refl

  -- nor is its answer
  same_answer : (step z (step z a (merge t s)).1 (merge u v)).0 ≡ (step z a (merge u v)).0
  unfolding step acted
  same_answer = rw same_row (told (refusal z a (merge u v)) _ a _ (write z a (merge u v)))

module _ (z : Sizes) (a : List ℕ) (t s u v : ℕ) (apart : s ≡ v → ⊥) (free : s ≡ u → ⊥) (alone : v ≡ t → ⊥) where
  abbrev one_row : refusal z (step z a (merge t s)).1 (merge u v) ≡ refusal z a (merge u v)
  one_row = same_row z a t s u v (λ k. free (sym k)) (λ k. apart (sym k))

  abbrev two_row : refusal z (step z a (merge u v)).1 (merge t s) ≡ refusal z a (merge t s)
  two_row = same_row z a u v t s (λ k. alone (sym k)) apart

  -- both merges, in either order
  same_area : (step z (step z a (merge t s)).1 (merge u v)).1 ≡ (step z (step z a (merge u v)).1 (merge t s)).1
  same_area = elim (ℕ_discrete (refusal z a (merge t s)) 0) [
    | yes p ↦ elim (ℕ_discrete (refusal z a (merge u v)) 0) [
      | yes q ↦ both p q
      | no q ↦
          stuck_step z (step z a (merge t s)).1 (merge u v) (λ k. q (sym (one_row) ∙ k))
          ∙ sym (ap (λ b. (step z b (merge t s)).1) (stuck_step z a (merge u v) q))
    ]
    | no p ↦
        ap (λ b. (step z b (merge u v)).1) (stuck_step z a (merge t s) p)
        ∙ sym (stuck_step z (step z a (merge u v)).1 (merge t s) (λ k. p (sym (two_row) ∙ k)))
  ]
    where
      both : refusal z a (merge t s) ≡ 0 → refusal z a (merge u v) ≡ 0 → (step z (step z a (merge t s)).1 (merge u v)).1 ≡ (step z (step z a (merge u v)).1 (merge t s)).1
      both p q =
          merged_area z (step z a (merge t s)).1 u v (one_row ∙ q) ∙ ap (λ b. merge_area z b u v) (merged_area z a t s p)
          ∙ area_swap z a t s u v (record { one = can_merge z a t s p; two = can_merge z a u v q; apart = apart; free = free; alone = alone })
          ∙ sym (merged_area z (step z a (merge u v)).1 t s (two_row ∙ p) ∙ ap (λ b. merge_area z b t s) (merged_area z a u v q))

-- a list of calls in two parts
pub ends_append : (z : Sizes) (a : List ℕ) (l m : List Call) → ends z a (l ++ m) ≡ ends z (ends z a l) m
unfolding ends
ends_append z a [] m = refl
ends_append z a (c ∷ l) m = ends_append z (step z a c).1 l m

pub answers_append : (z : Sizes) (a : List ℕ) (l m : List Call) → answers z a (l ++ m) ≡ answers z a l ++ answers z (ends z a l) m
unfolding answers ends
answers_append z a [] m = refl
answers_append z a (c ∷ l) m = ap (λ r. (step z a c).0 ∷ r) (answers_append z (step z a c).1 l m)

-- two neighbouring calls swapped, of a list from area a
pub record Swapped (z : Sizes) (a : List ℕ) (before : List Call) (first second : Call) (after : List Call) : Type 0 where
  -- the two calls' answers, and those of the calls after them
  pub one : Answer
  pub two : Answer
  pub rest : List Answer
  -- no call's answer changes:
  pub as_listed : answers z a (before ++ (first ∷ second ∷ after)) ≡ answers z a before ++ (one ∷ two ∷ rest)
  pub swapped : answers z a (before ++ (second ∷ first ∷ after)) ≡ answers z a before ++ (two ∷ one ∷ rest)
  -- and nothing of the merge graph at the end, nor any other number of the area
  pub area : ends z a (before ++ (first ∷ second ∷ after)) ≡ ends z a (before ++ (second ∷ first ∷ after))

-- for every list of merge graph calls, refused ones included, from any consistent merge area: swapping two neighbouring merges of distinct sources,
-- where neither source is the other's target, changes no call's answer and nothing of the merge graph at the end. It holds from any area: an
-- inconsistent one refuses every call.
pub swapped_merges : (z : Sizes) (a : List ℕ) (before after : List Call) (target source target' source' : ℕ)
    → (source ≡ source' → ⊥) → (source ≡ target' → ⊥) → (source' ≡ target → ⊥)
    → Swapped z a before (merge_chunk_dependencies target source) (merge_chunk_dependencies target' source') after
unfolding ends answers
swapped_merges z a before after t s u v apart free alone =
    let b = ends z a before in
    let e = same_area z b t s u v apart free alone in
    record {
      one = (step z b (merge t s)).0;
      two = (step z b (merge u v)).0;
      rest = answers z (step z (step z b (merge t s)).1 (merge u v)).1 after;
      as_listed = answers_append z a before (merge t s ∷ merge u v ∷ after)
          ∙ ap (λ r. answers z a before ++ ((step z b (merge t s)).0 ∷ r ∷ answers z (step z (step z b (merge t s)).1 (merge u v)).1 after)) (same_answer z b t s u v (λ k. free (sym k)) (λ k. apart (sym k)));
      swapped = answers_append z a before (merge u v ∷ merge t s ∷ after)
          ∙ ap₂ (λ r q. answers z a before ++ ((step z b (merge u v)).0 ∷ r ∷ answers z q after)) (same_answer z b u v t s (λ k. alone (sym k)) apart) (sym e);
      area = ends_append z a before (merge t s ∷ merge u v ∷ after) ∙ ap (λ r. ends z r after) e ∙ sym (ends_append z a before (merge u v ∷ merge t s ∷ after));
    }
