-- The roles first, then the target by them. Assumes nothing.
use Rattle.std.proofs.Common.{arith, ℕ, ◌<◌, ◌∙◌, sym, ap, length-take}
use Rattle.std.proofs.lemmas.List.Elements.{All-from_get_or}
use Rattle.merge_choice.specs.Choice.{bits}
use Rattle.merge_choice.specs.Named.{bits_le, named-all}
use Rattle.merge_choice.specs.Rows.{legal}
use Rattle.merge_target.proofs.Choosing.{sound, roled, first_named, choice_is}
use Rattle.merge_target.proofs.choose.Goals as goal

pub table-table-requires : goal.table-table-requires
table-table-requires c = let P : ℕ → Type 0 = λ kind. kind < 9 in All-from_get_or P c.args.bundle.now.kinds.now 0 (legal _ _ _ _ c.requires).kind

pub shared_ref_as_front-roles : goal.shared_ref_as_front-roles
shared_ref_as_front-roles c = let w = bits_le c.args.bundle.now.chunks in omega (arith, c.bits.ensures)

pub slice_bounds-roles-end : goal.slice_bounds-roles-end
slice_bounds-roles-end c = let w = bits_le c.args.bundle.now.chunks in omega (arith, c.bits.ensures, length-take c.bits.result c.table-table.result)

pub invariant_of-checked-clause-sound : goal.invariant_of-checked-clause-sound
invariant_of-checked-clause-sound c = sound c.args.bundle.now c.args.candidate.now (legal _ _ _ _ c.requires)

pub invariant_of-checked-clause-own : goal.invariant_of-checked-clause-own
invariant_of-checked-clause-own c = let P : ℕ → Type 0 = λ m. m < c.args.bundle.now.modules in All-from_get_or P c.args.candidate.now.modules.now 0 (legal _ _ _ _ c.requires).own

pub invariant_of-checked-clause-roled : goal.invariant_of-checked-clause-roled
invariant_of-checked-clause-roled c =
    let s = c.args in
    let w = bits_le s.bundle.now.chunks in
    roled s.bundle.now s.candidate.now (legal _ _ _ _ c.requires) s.classes.now _ _ _ c.table-table.ensures c.bits.ensures (omega (arith, c.bits.ensures))

pub returns-clause-value : goal.returns-clause-value
returns-clause-value c =
    let s = c.args in
    c.chosen.ensures.value ∙ choice_is s.classes.now s.bundle.now.kinds.now _ _ _ _ _ c.table-table.ensures (legal _ _ _ _ c.requires).count c.bits.ensures

pub invariant_of-checked-clause-whole : goal.invariant_of-checked-clause-whole
invariant_of-checked-clause-whole c =
    let s = c.args in
    c.table-table.ensures ∙ sym (named-all (first_named s.classes.now s.bundle.now.kinds.now _ _ _ c.table-table.ensures) (c.bits.ensures ∙ ap bits (sym (legal _ _ _ _ c.requires).count)))
