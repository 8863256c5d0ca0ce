-- Replies of calls whose answers are known. Assumes nothing.
use Rattle.std.specs.Prelude.{ℕ, ◌≡◌, List, Result, Ok, Err}
use Rattle.std.proofs.Common.{sym, ap, ◌∙◌}
use Rattle.refusals.specs.declared.Refusal.{Refusal}
use Rattle.merge_state.specs.declared.Sizes.{Sizes}
use Rattle.merge_state.specs.Loading.{Lent}
use Rattle.merge_state.specs.Table.{Answer, Call}
use Rattle.merge_area.specs.Calls.{Called, PassCalled, step, candidates, lists_after}
use Rattle.merge_loading.specs.Loading.{Loaded, load_step}
use Rattle.chunk_optimizer.specs.Answers.{pass_told, assigned}
use Rattle.nidskalm_replies.specs.declared.Reply.{Reply}
use Rattle.nidskalm_replies.specs.Replies.{answering, merge_reply, pass_reply}

-- a call of the merge graph with sizes z, which are y, and reply r
module _ {z y : Sizes} {a after : List ℕ} {c : Call} {told : Answer} {r : Reply} (e : z ≡ y) (called : Called z a c told after) (replied : r ≡ merge_reply told) where
  pub merge-told : r ≡ merge_reply (step y a c).0
  merge-told = replied ∙ ap merge_reply (called.answer ∙ ap (λ (x : Sizes). (step x a c).0) e)

  pub merge-left : after ≡ (step y a c).1
  merge-left = called.area ∙ ap (λ (x : Sizes). (step x a c).1) e

-- the same for a loading
module _ {z y : Sizes} {n : Lent} {a after : List ℕ} {told : Answer} {r : Reply} (e : z ≡ y) (loaded : Loaded z n a told after) (replied : r ≡ merge_reply told) where
  pub load_told : r ≡ merge_reply (load_step y n a).0
  load_told = replied ∙ ap merge_reply (loaded.answer ∙ ap (λ (x : Sizes). (load_step x n a).0) e)

  pub load-left : after ≡ (load_step y n a).1
  load-left = loaded.area ∙ ap (λ (x : Sizes). (load_step x n a).1) e

-- and for a pass: its count is that of the candidates, as many as each list has
pass_is : (x : Result ℕ Refusal) (l : List ℕ × List ℕ) {s : Answer} → pass_told x l ≡ s → assigned x ≡ candidates s → pass_reply x ≡ merge_reply s
unfolding merge_reply candidates
pass_is (Ok n) l e count = ap answering (count ∙ ap candidates (sym e)) ∙ ap merge_reply e
pass_is (Err r) l e count = ap merge_reply e

module _ {z y : Sizes} {a after : List ℕ} {c : Call} (x : Result ℕ Refusal) {before : List ℕ × List ℕ} (left : List ℕ × List ℕ) {r : Reply} (e : z ≡ y) (called : PassCalled z a c before (pass_told x left) (assigned x) after left) (replied : r ≡ pass_reply x) where
  pub pass_replied : r ≡ merge_reply (step y a c).0
  pass_replied = replied ∙ pass_is x left called.called.answer called.counted ∙ ap (λ (w : Sizes). merge_reply (step w a c).0) e

  pub pass_left : after ≡ (step y a c).1
  pass_left = called.called.area ∙ ap (λ (w : Sizes). (step w a c).1) e

  pub pass_lists : left ≡ lists_after (step y a c).0 before
  pass_lists = called.lists ∙ ap (λ (w : Sizes). lists_after (step w a c).0 before) e
