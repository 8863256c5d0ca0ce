-- `bit_count`: where the other numbers are 0, the ones of a set are those of the first. Assumes nothing.
use Rattle.std.proofs.Common.{rules, arith, ◌≡◌, ap, sym}
use Rattle.std.specs.Int.Count.{ones}
use Rattle.entry_set.specs.SetLaws.{known}
use Rattle.entry_set.proofs.Ones.{ones_zero, ones_four}
use Rattle.entry_set.proofs.EntrySet.bit_count.Goals as goal

pub returns-then-eq : goal.returns-then-eq
returns-then-eq c =
    let s = c.args.self in
    let all = ones_four s (known s (search rules)) in
    let second : s.1 ≡ 0 = grind arith in
    let third : s.2 ≡ 0 = grind arith in
    let fourth : s.3 ≡ 0 = grind arith in
    omega (arith, all, ap ones second, ap ones third, ap ones fourth, ones_zero)

pub returns : goal.returns
returns c = let s = c.args.self in sym (ones_four s (known s (search rules)))
