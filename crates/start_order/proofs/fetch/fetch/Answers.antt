-- What is wanted, the lowest atoms, the turns. Assumes nothing.
use Rattle.std.proofs.Common.{refl}
use Rattle.start_order.specs.Calls.{blank_room, blank_clear, fetch_mark, fetch_low}
use Rattle.start_order.proofs.Calls.{fetch_list_some, fetch_told}
use Rattle.start_order.proofs.fetch.fetch.Goals as goal

pub mark-requires : goal.mark-requires
mark-requires c = fetch_mark c.requires blank_room refl (λ x l. blank_clear x)

pub lowest-requires : goal.lowest-requires
lowest-requires c = fetch_low c.requires blank_room

pub list-requires : goal.list-requires
list-requires c = fetch_list_some c.requires c.mark.ensures c.mark.auto.marks c.lowest.ensures c.lowest.auto.low

pub returns : goal.returns
returns c = fetch_told c.requires c.mark.ensures c.mark.auto.marks c.lowest.ensures c.lowest.auto.low c.list.ensures
