-- The rows before a ranking: those of the first area, then of the second. Assumes nothing.
use Rattle.std.specs.Prelude.{ℕ, ◌≡◌, refl, List}
use Rattle.std.proofs.Math.Path.{sym, ap}
use Rattle.std.proofs.Common.{◌∙◌}
use Rattle.move_ledger.specs.Graph.{Load}
use Rattle.move_ledger.specs.Answer.{Answer, refused}
use Rattle.move_area.specs.Calls.{checked}
use Rattle.move_questions.specs.Answers.{place_in}
use Rattle.move_rows.specs.Later.{later, turned-back, goes_on}
use Rattle.move_rank.specs.Rank.{Rank, rank}
use Rattle.move_rank.specs.Ranking.{told, ranking}
use Rattle.move_rank.specs.Atoms.{Both}
use Rattle.reduced_chunk_graph.specs.Asked.{checks}

module _ (load : Load) (fixed : List ℕ) (N : ℕ) (first second : List ℕ) where
  -- the first area is turned back
  pub first_back : {q : ℕ} → q ≡ later load fixed N first → (q ≡ 0 → ⊥) → refused q ≡ ranking load fixed N first second
  unfolding ranking
  first_back e h = ap refused e ∙ sym (turned-back load fixed N first (λ z. h (e ∙ z)) _)

  module _ (none : 0 ≡ later load fixed N first) where
    first_on : (x : Answer) → x ≡ checked load fixed N first x
    first_on x = sym (goes_on load fixed N first (sym none) x)

    -- the second is
    pub second_back : {q : ℕ} → q ≡ later load fixed N second → (q ≡ 0 → ⊥) → refused q ≡ ranking load fixed N first second
    unfolding ranking
    second_back e h = ap refused e ∙ sym (turned-back load fixed N second (λ z. h (e ∙ z)) _) ∙ first_on _

    module _ (other : 0 ≡ later load fixed N second) where
      pub both : Both load load.A N first second
      both = record { atoms = refl; one = checks load fixed N first none; other = checks load fixed N second other }

      pub both_some : (load' : Load) × Both load' load.A N first second
      both_some = (load, both)

      pub rank-told : {r : Rank} → r ≡ rank load (place_in load N first) (place_in load N second) → told r ≡ ranking load fixed N first second
      unfolding ranking
      rank-told e = ap told e ∙ sym (goes_on load fixed N second (sym other) _) ∙ first_on _
