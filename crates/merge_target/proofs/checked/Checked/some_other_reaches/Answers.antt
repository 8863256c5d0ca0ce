-- The table says of each chunk what the roles say. Assumes nothing.
use Rattle.std.specs.Prelude.{ℕ, ◌<◌, not, ◌&&◌, Bool, eqb, get_or, All, refl}
use Rattle.std.specs.List.{list_any, range_with_len}
use Rattle.std.proofs.Common.{arith, ap, ◌∙◌, rules, tests}
use Rattle.std.proofs.iter.Serving.{serving}
use Rattle.std.proofs.lemmas.Iterator.{YieldsList-from_range}
use Rattle.std.proofs.lemmas.Iterator.Search.{any_from_yields_List}
use Rattle.merge_target.specs.Lent.{lists_of, list_of}
use Rattle.merge_target.specs.Roles.{numbers}
use Rattle.merge_target.proofs.Parts.{part_below}
use Rattle.merge_target.proofs.checked.Checked.some_other_reaches.Goals as goal

pub any-requires-clause-callable : goal.any-requires-clause-callable
any-requires-clause-callable c =
    let b = c.args.self.now.bundle.now in
    let l = lists_of b.reached in
    let few = c.args.self.now.sound.few_chunks in
    let room : (o : ℕ) → o < b.chunks → All (λ d. d < 1024) (list_of l o) = λ o h. part_below l c.args.self.now.sound.reached o 1024 (omega (arith, few)) in
    grind (serving, room)

pub returns : goal.returns
returns c =
    let s = c.args.self.now in
    let l = lists_of s.bundle.now.reached in
    let reaches : (ℕ → ℕ) → ℕ → Bool = λ f o. not (eqb o c.args.t) && list_any (λ d. eqb (f d) 1) (list_of l o) in
    any_from_yields_List (reaches (λ d. get_or (numbers s.table.now) d 0)) _ _ c.any.result c.any.ensures.ran
    (YieldsList-from_range 0 s.bundle.now.chunks s.bundle.now.chunks refl (omega arith)) (λ x b q k. search (rules, tests))
    ∙ ap (λ (f : ℕ → ℕ). list_any (reaches f) (range_with_len 0 s.bundle.now.chunks)) s.whole
