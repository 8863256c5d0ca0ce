-- There are few edges, so that their lines and the count have room. Assumes nothing.
use Rattle.std.proofs.Common.{arith}
use Rattle.moves_commands.specs.Program.{areas}
use Rattle.moves_commands.proofs.Lines.{list_one, head-there, totals_there, count-told, all_few, lines_long, listing_steps}
use Rattle.moves_commands.proofs.edge_lines.Listing.put_all.Goals as goal

pub registered-known-requires : goal.registered-known-requires
registered-known-requires c = head-there c.requires.can_list_all.1

pub edge_count-n-requires : goal.edge_count-n-requires
edge_count-n-requires c = totals_there c.requires.can_list_all.1

pub put_lines-requires : goal.put_lines-requires
put_lines-requires c =
    let l = c.requires.can_list_all in
    record { can_list = (l.0, list_one l.1 c.registered-known.ensures); room = omega (arith, all_few l.1 (count-told l.1 c.edge_count-n.ensures), c.requires.room) }

pub put_edges-requires : goal.put_edges-requires
put_edges-requires c =
    let l = c.requires.can_list_all in
    let w = c.put_lines.ensures l.0 (list_one l.1 c.registered-known.ensures) in
    omega (arith, all_few l.1 (count-told l.1 c.edge_count-n.ensures), c.requires.room, lines_long (areas.asks l.0 c.args.self.now.area.now) c.edge_count-n.result, w.put.end, w.put.long)

pub returns : goal.returns
returns c = λ load can. listing_steps (areas.asks load c.args.self.now.area.now) _ (count-told can c.edge_count-n.ensures) (c.put_lines.ensures load (list_one can c.registered-known.ensures)) c.put_edges.ensures
