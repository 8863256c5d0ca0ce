-- The digits that are written are those of the number. Assumes nothing.
use borrow.Author.Rules.{rules}
use Rattle.moves_replies.specs.Decimal.{few}
use Rattle.moves_replies.specs.Wrote.{wrote_as}
use Rattle.moves_replies.proofs.Writing.{decimal_text}
use Rattle.moves_replies.proofs.Replies.put_number.Goals as goal

pub returns-clause-put : goal.returns-clause-put
returns-clause-put c =
    let d = c.decimal-k.ensures in
    wrote_as (decimal_text _ _ _ (few _ _ (search rules) d.len) d.len d.digits) c.put.ensures
