-- A list of lists' own part. Assumes nothing.
use Rattle.std.specs.Prelude.{ℕ, ◌≡◌, ◌<◌, ◌≤◌, ◌+◌, Bool, cond, List, eqb, length, get_or, drop, All}
use Rattle.std.specs.List.{list_any}
use Rattle.std.proofs.Common.{arith, sym, ap, ◌∙◌, length-take, length-drop}
use Rattle.std.proofs.lemmas.List.{get_or-take, get_or-drop}
use Rattle.std.proofs.lemmas.List.Elements.{All-from_get_or, All-take, All-drop}
use Rattle.merge_choice.specs.Choice.{start, size, some_in, some_from, some_of}
use Rattle.merge_choice.specs.Choice as choice
use Rattle.merge_choice.specs.Marks.{Marked, hits, all, part}
use Rattle.merge_choice.specs.Named.{reads}
use Rattle.merge_choice.specs.Spans.{Span, Spans}
use Rattle.merge_target.specs.Lent.{list_of}
use Rattle.merge_target.proofs.Any.{any_is_some, any_is_in}

module _ (l : choice.Lists) (x : ℕ) (s : Span l.starts l.items x) where
  pub part_long : length (list_of l x) ≡ size l x
  part_long = omega (arith, s.rising, s.ends, length-take (size l x) (drop (start l x) l.items), length-drop (start l x) l.items)

  pub part-at : (i : ℕ) → i < size l x → get_or (list_of l x) i 0 ≡ get_or l.items (start l x + i) 0
  part-at i h = get_or-take (size l x) (drop (start l x) l.items) i 0 h ∙ get_or-drop (start l x) l.items i 0

  pub any_is_of : (p : ℕ → Bool) → list_any p (list_of l x) ≡ some_of l x p
  unfolding some_from
  any_is_of p = any_is_some p (list_of l x) 0 _ (λ i b. ap p (part-at i (omega (arith, part_long)))) ∙ ap (λ n. choice.some_from l.items (start l x) n p) part_long

  -- so what is marked is in the list
  pub marked_list : {list : List ℕ} {v : ℕ} {old new : List ℕ} → list ≡ list_of l x → Marked all (reads list) (length list) v old new → Marked all (part l.items (start l x)) (size l x) v old new
  unfolding hits some_in some_from
  marked_list {list} {v} {old} {new} e m = record { long = m.long; at = λ y. m.at y ∙ ap (λ b. cond b v (get_or old y 0)) (same y) }
    where
      same : (y : ℕ) → hits all (reads list) (length list) y ≡ hits all (part l.items (start l x)) (size l x) y
      same y = sym (any_is_in (eqb y) list) ∙ ap (list_any (eqb y)) e ∙ any_is_of (eqb y)

-- a list of n lists of numbers below top
module _ {n top : ℕ} (l : choice.Lists) (s : Spans n top l.starts l.items) where
  pub part_below : (x m : ℕ) → top ≤ m → All (λ y. y < m) (list_of l x)
  part_below x m h =
      let P : ℕ → Type 0 = λ y. y < m in
      All-take P (size l x) (drop (start l x) l.items) (All-drop P (start l x) l.items (All-from_get_or P l.items 0 (λ i b. omega (arith, s.below i b))))
