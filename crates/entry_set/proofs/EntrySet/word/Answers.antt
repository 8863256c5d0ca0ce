-- `word`: half of a number of 64 bits. Assumes nothing.
use Rattle.std.proofs.Common.{rules, ◌/◌, ap, refl, sym, get_or, List, ℕ}
use Rattle.entry_set.specs.JoinedLaws.{parts-joined}
use Rattle.entry_set.specs.Sets.{number, numbers}
use Rattle.entry_set.specs.SetLaws.{known}
use Rattle.entry_set.proofs.Places.{word_low, word_high}
use Rattle.entry_set.proofs.EntrySet.word.Goals as goal

pub returns-then-j-eq0 : goal.returns-then-j-eq0
returns-then-j-eq0 c =
    let s = c.args.self in
    let j = c.args.j in
    word_low (number s) j (ap (λ (l : List ℕ). get_or l (j / 2) 0) (sym (parts-joined 64 (numbers s) (known s (search rules))))) refl c.if-j-eq0.true

pub returns-else-j-eq0 : goal.returns-else-j-eq0
returns-else-j-eq0 c =
    let s = c.args.self in
    let j = c.args.j in
    word_high (number s) j (ap (λ (l : List ℕ). get_or l (j / 2) 0) (sym (parts-joined 64 (numbers s) (known s (search rules))))) refl c.if-j-eq0.false
