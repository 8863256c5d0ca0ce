-- The table, one chunk more at each turn. Assumes nothing.
use Rattle.std.proofs.Common.{arith, ap, ◌∙◌, length, set}
use Rattle.std.proofs.lemmas.List.{map-set}
use Rattle.graphs.specs.Tab.{zeros}
use Rattle.merge_choice.specs.Named.{named_none, named_more, named-all, bits_le}
use Rattle.merge_target.specs.Roles.{role_number, numbers}
use Rattle.merge_target.proofs.roles.table.Goals as goal

pub loop-b-init : goal.loop-b-init
loop-b-init c = named_none (zeros 1024)

pub role_of-requires : goal.role_of-requires
role_of-requires c =
    let w = bits_le (length c.args.kinds.now) in
    record { few = omega arith; inside = omega arith; kind = c.requires c.loop-b.b 0 (omega arith); eight = omega arith }

pub bounds-roles-b : goal.bounds-roles-b
bounds-roles-b c = let w = bits_le (length c.args.kinds.now) in omega arith

pub loop-b-preserved : goal.loop-b-preserved
loop-b-preserved c =
    let w = bits_le (length c.args.kinds.now) in
    named_more c.loop-b.invariant (omega (arith, c.loop-b.invariant.long))
    (map-set role_number c.loop-b.roles c.loop-b.b c.role_of.result ∙ ap (set (numbers c.loop-b.roles) c.loop-b.b) c.role_of.ensures)

pub returns : goal.returns
returns c = named-all c.loop-b.invariant (omega (arith, c.bits-b-end.ensures))
