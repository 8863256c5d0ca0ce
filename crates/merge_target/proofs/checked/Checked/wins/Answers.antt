-- The importers of the chunk's entry module have its mark. Assumes nothing.
use Rattle.std.proofs.Common.{arith, ℕ, ◌≡◌, ◌<◌, ◌∙◌, sym, ap, not, eqb, get_or, length, eqb-true}
use Rattle.std.proofs.lemmas.Bool.{eqb-false, not-true, not-false}
use Rattle.std.proofs.lemmas.Grind.{common_steps}
use Rattle.std.proofs.lemmas.List.Elements.{All-same}
use Rattle.merge_choice.specs.Search.{lost}
use Rattle.merge_choice.proofs.Search.{won}
use Rattle.merge_target.specs.Lent.{lists_of}
use Rattle.merge_target.specs.Roles.{role_number, numbers}
use Rattle.merge_target.proofs.Parts.{marked_list, part_below}
use Rattle.merge_target.proofs.Searches.{entry_below, can_win_at}
use Rattle.merge_target.proofs.Tables.{number-at, missing_chunks}
use Rattle.merge_target.proofs.checked.Checked.wins.Goals as goal

pub returns-then-ne : goal.returns-then-ne
returns-then-ne c =
    let r = c.requires in
    let e : c.ne.result ≡ not (eqb (get_or (numbers c.args.self.now.roles.now) c.args.t 0) (role_number c.args.v)) = grind (arith, common_steps) in
    lost (can_win_at c.args.self.now.sound c.args.self.now.roled c.args.v r.entry r.chunk r.searching) (eqb-false _ _ (not-true _ (sym e ∙ c.if-ne.true)))

pub mark_list-requires : goal.mark_list-requires
mark_list-requires c =
    let P : ℕ → Type 0 = λ y. y < length c.args.marks.now in
    All-same P _ _ c.of.ensures (part_below (lists_of c.args.self.now.bundle.now.importers) c.args.self.now.sound.importers _ _ (omega arith))

pub some_missing-requires-clause-below : goal.some_missing-requires-clause-below
some_missing-requires-clause-below c =
    λ o h q. omega (arith, entry_below c.args.self.now.sound c.args.self.now.roled c.args.v c.requires.entry o h (sym (number-at c.args.self.now.roles.now o h) ∙ ap role_number q), c.mark_list.ensures.long)

pub returns : goal.returns
returns c =
    let s = c.args in
    let r = c.requires in
    let l = lists_of s.self.now.bundle.now.importers in
    let e : c.ne.result ≡ not (eqb (get_or (numbers s.self.now.roles.now) s.t 0) (role_number s.v)) = grind (arith, common_steps) in
    let v = eqb-true _ _ (not-false _ (sym e ∙ c.if-ne.false)) in
    let span = c.args.self.now.sound.importers.each _ (entry_below c.args.self.now.sound c.args.self.now.roled s.v r.entry s.t r.chunk v) in
    won (can_win_at c.args.self.now.sound c.args.self.now.roled s.v r.entry r.chunk r.searching) (marked_list l _ span c.of.ensures c.mark_list.ensures) v
    (c.some_missing.ensures ∙ missing_chunks s.self.now.roles.now s.v s.self.now.bundle.now.entries.now _ _ _)
