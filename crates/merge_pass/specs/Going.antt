-- The pass as far as it has come: after the chunks below k, j of them candidates. Assumes nothing.
use Rattle.std.specs.Prelude.{ℕ, ◌+◌, ◌<◌, ◌≤◌, ◌≡◌, refl, Bool, true, not, ◌&&◌, List, eqb, get_or, length, set}
use Rattle.std.proofs.Common.{arith, add-one, ◌∙◌, inr}
use Rattle.std.proofs.Math.Path.{sym, ap, ap₂}
use Rattle.std.proofs.Math.Bool.{cond}
use Rattle.graphs.specs.Count.{ind, count, count_none, count_yes, count_mono, count-more}
use Rattle.layout.specs.Patch.{patch}
use Rattle.merge_state.specs.declared.Sizes.{Sizes}
use Rattle.merge_state.specs.State.{None}
use Rattle.merge_state.specs.Merges.{waits}
use Rattle.merge_state.specs.Methods.{Passed, passed}
use Rattle.merge_state.specs.Kept.{Passing, proposal}
use Rattle.merge_state.proofs.Kept.{passed-kept}
use Rattle.merge_area.specs.Layout.{cell, head}
use Rattle.merge_area.specs.Read.{read}
use Rattle.merge_area.specs.Writes.{candidate_area, pass_area}
use Rattle.merge_laws.specs.Ordering.{ordered}
use Rattle.merge_reads.specs.Pass.{Holds, stood_again, can_place, pass_holds}
use Rattle.merge_pass.specs.Turns.{kind_of, number_of, CanTurn, TurnedIn, CanPass, PassedIn}
use Rattle.merge_pass.specs.Lists.{kinds-listed, numbers-listed, list_none, list_more, list_same, list_done}

pub record Going (z : Sizes) (a ps bs ks₀ ns₀ : List ℕ) (k j : ℕ) (r ks ns : List ℕ) : Type 0 where
  pub few : k ≤ cell a (head z 1)
  pub place : j ≡ count (waits (read z a)) k
  pub area : r ≡ pass_area z a ps bs k
  pub kinds : ks ≡ patch 0 (passed (read z a) ps bs k).kinds ks₀
  pub numbers : ns ≡ patch 0 (passed (read z a) ps bs k).numbers ns₀

pub going_none : (z : Sizes) (a ps bs ks ns : List ℕ) → Going z a ps bs ks ns 0 0 a ks ns
unfolding pass_area
going_none z a ps bs ks ns = record {
  few = omega arith;
  place = sym (count_none (waits (read z a)));
  area = refl;
  kinds = list_none (λ r. r.kinds) kind_of kinds-listed (read z a) ps bs ks;
  numbers = list_none (λ r. r.numbers) number_of numbers-listed (read z a) ps bs ns;
}

module _ {z : Sizes} {a ps bs ks₀ ns₀ : List ℕ} (c : CanPass z a ps bs ks₀ ns₀) {k j : ℕ} {r ks ns : List ℕ} (v : Going z a ps bs ks₀ ns₀ k j r ks ns) where
  abbrev R : Passed
  R = passed (read z a) ps bs k

  abbrev waiting : ℕ → Bool
  waiting = waits (read z a)

  holds : Holds z a r R.graph
  holds = rw v.area (pass_holds z a c.stood c.left ps bs c.proper c.unmerged k v.few)

  passing : Passing z (read z a) k R
  passing = passed-kept (ordered z a c.stood) c.left ps bs c.proper c.unmerged k v.few

  -- chunk k still waits as it did: only chunks that had their turn are merged
  same-waits : waits (read z r) k ≡ waiting k
  same-waits =
      ap₂ (λ n i. n && not (not (eqb i None))) (ap (λ g. g.needs k) holds.graph ∙ ap (λ f. f k) passing.needs) (ap (λ g. g.into k) holds.graph ∙ passing.into k (inr (omega arith)))

  below : k < cell a (head z 1) → waiting k ≡ true → count waiting k < count waiting (cell a (head z 1))
  below l n = omega (arith, count_yes waiting k n, count_mono waiting (k + 1) (cell a (head z 1)) (omega arith))

  pub going_length : length r ≡ length a
  going_length = holds.same

  pub going_kinds : length ks ≡ length ks₀
  going_kinds = list_same (λ r. r.kinds) kind_of kinds-listed (read z a) ps bs ks₀ ks k v.kinds

  pub going_numbers : length ns ≡ length ns₀
  going_numbers = list_same (λ r. r.numbers) number_of numbers-listed (read z a) ps bs ns₀ ns k v.numbers

  pub going_can : k < cell a (head z 1) → CanTurn z r ps bs ks ns k j
  going_can l =
      record {
        stood = stood_again z a r R.graph c.stood holds passing.ordered;
        source = omega (arith, ap (λ g. g.made) holds.graph, passing.made);
        answer = λ n.
            let q : waiting k ≡ true = sym same-waits ∙ n in
            let less = below l q in
            record {
              place = can_place z a c.stood c.left r R holds k passing l q (get_or ps j None) (rw v.place (proposal (read z a) ps c.proper (count waiting k)));
              proposals = omega (arith, v.place, c.proposals);
              bars = omega (arith, v.place, c.bars);
              kinds = omega (arith, v.place, going_kinds, c.kinds);
              numbers = omega (arith, v.place, going_numbers, c.numbers);
            };
      }

  pub going_more : {next : ℕ} {after ks' ns' : List ℕ} → k < cell a (head z 1) → TurnedIn z r ps bs ks ns k j next after ks' ns' → Going z a ps bs ks₀ ns₀ (k + 1) next after ks' ns'
  unfolding pass_area
  going_more l t = record {
    few = omega arith;
    place = t.next ∙ ap₂ (λ i f. i + ind f) v.place same-waits ∙ sym (count-more waiting k);
    area = t.area ∙ ap₂ (λ f x. cond f (candidate_area z x k (get_or ps j None) (get_or bs j 0)) x) same-waits v.area
        ∙ ap (λ i. cond (waiting k) (candidate_area z (pass_area z a ps bs k) k (get_or ps i None) (get_or bs i 0)) (pass_area z a ps bs k)) v.place ∙ sym (ap (pass_area z a ps bs) (add-one k));
    kinds = list_more (λ r. r.kinds) kind_of kinds-listed (read z a) ps bs ks₀ ks _ k v.kinds (λ n. omega (arith, below l n, c.kinds))
        (t.kinds ∙ ap₂ (λ f g. cond f (set ks j (kind_of g k (get_or ps j None) (get_or bs j 0))) ks) same-waits holds.graph
        ∙ ap (λ i. cond (waiting k) (set ks i (kind_of R.graph k (get_or ps i None) (get_or bs i 0))) ks) v.place);
    numbers = list_more (λ r. r.numbers) number_of numbers-listed (read z a) ps bs ns₀ ns _ k v.numbers (λ n. omega (arith, below l n, c.numbers))
        (t.numbers ∙ ap₂ (λ f g. cond f (set ns j (number_of g k (get_or ps j None) (get_or bs j 0))) ns) same-waits holds.graph
        ∙ ap (λ i. cond (waiting k) (set ns i (number_of R.graph k (get_or ps i None) (get_or bs i 0))) ns) v.place);
  }

  pub going_done : k ≡ cell a (head z 1) → PassedIn z a ps bs r ks ns
  going_done e = record {
    area = v.area ∙ ap (pass_area z a ps bs) e;
    kinds = list_done (λ r. r.kinds) kind_of kinds-listed (read z a) ps bs ks₀ ks k v.kinds (ap (count waiting) e ∙ sym c.kinds) ∙ ap (λ i. (passed (read z a) ps bs i).kinds) e;
    numbers = list_done (λ r. r.numbers) number_of numbers-listed (read z a) ps bs ns₀ ns k v.numbers (ap (count waiting) e ∙ sym c.numbers) ∙ ap (λ i. (passed (read z a) ps bs i).numbers) e;
  }
