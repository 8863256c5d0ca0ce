-- `layout::compare::same_numbers`: two parts are one list where each number is the same. Assumes nothing.
use Rattle.std.proofs.Common.{arith, sym, ap, ◌≡◌, ◌∙◌, List, ℕ, ◌+◌, ◌-◌, ◌≤◌, ◌<◌, length, get_or, ext_get_or, true≢false}
use Rattle.std.proofs.lemmas.Slice.Eq.{slice_eq-Decides}
use Rattle.std.proofs.lemmas.Bool.Decides.{Decides-eqb}
use borrow.Rule.Slice.PartMut.{mid_of, mid_len}
use Rattle.layout.specs.Compare.{SamePart}
use Rattle.layout.specs.Lent.{mid_at}
use Rattle.layout.proofs.compare.same_numbers.Goals as goal

-- two parts of k numbers each are one list where each number is the same
same_part : (a b : List ℕ) (at from n : ℕ) → at + n ≤ length a → from + n ≤ length b → SamePart a at b from n → mid_of at (at + n - at) a ≡ mid_of from (from + n - from) b
same_part a b at from n h g e =
    ext_get_or 0 _ _ (mid_len at (at + n) a h ∙ omega arith ∙ sym (mid_len from (from + n) b g))
    (λ k z. let y : k < n = omega (arith, mid_len at (at + n) a h) in mid_at at (at + n - at) a k (omega arith) ∙ e k y ∙ sym (mid_at from (from + n - from) b k (omega arith)))

part_same : (a b : List ℕ) (at from n : ℕ) → mid_of at (at + n - at) a ≡ mid_of from (from + n - from) b → SamePart a at b from n
part_same a b at from n e i h =
    sym (mid_at at (at + n - at) a i (omega arith)) ∙ ap (λ (l : List ℕ). get_or l i 0) e ∙ mid_at from (from + n - from) b i (omega arith)

pub returns : goal.returns
returns c =
    let s = c.args in
    let d = slice_eq-Decides Decides-eqb _ _ _ c.eq.ensures in
    record {
      right = λ h. part_same s.a.now s.b.now s.at s.from s.n (d.0 h);
      wrong = λ h e. true≢false (sym (d.1 (same_part s.a.now s.b.now s.at s.from s.n c.requires.left c.requires.right e)) ∙ h);
    }
