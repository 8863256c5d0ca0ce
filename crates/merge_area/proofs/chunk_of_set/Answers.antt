-- The first set that is equal names the chunk. Assumes nothing.
use Rattle.std.proofs.Common.{sym, ap, ◌∙◌, arith, rules, get_or, eqb-true}
use Rattle.std.proofs.lemmas.Bool.{eqb-false}
use borrow.Author.Count.{below_more}
use Rattle.entry_set.specs.SetLaws.{Known, holds-known}
use Rattle.entry_set.specs.Compared.{equal_by_number}
use Rattle.merge_state.specs.Named.{named}
use Rattle.merge_state.specs.Pairs.{found_at, found_none}
use Rattle.merge_area.specs.Read.{named_set}
use Rattle.merge_area.proofs.chunk_of_set.Goals as goal

pub returns-then-eq : goal.returns-then-eq
returns-then-eq c =
    let known : Known c.args.set = search rules in
    let same = equal_by_number (holds-known c.set_of.ensures) known c.eq.ensures in
    c.named.ensures ∙ ap named (ap (λ j. get_or c.args.numbers.now j 0) c.set_chunk.ensures ∙ found_at _ (named_set c.args.sizes c.args.numbers.now) _ _ c.loop-i.invariant (omega arith) (sym c.set_of.ensures.value ∙ eqb-true _ _ (sym same ∙ c.if-eq.true)))

pub loop-i-preserved : goal.loop-i-preserved
loop-i-preserved c =
    let known : Known c.args.set = search rules in
    let same = equal_by_number (holds-known c.set_of.ensures) known c.eq.ensures in
    below_more _ _ c.loop-i.invariant (λ q. eqb-false _ _ (sym same ∙ c.if-eq.false) (c.set_of.ensures.value ∙ q))

pub returns : goal.returns
returns c = ap named (found_none _ (named_set c.args.sizes c.args.numbers.now) _ _ c.loop-i.invariant (omega arith))
