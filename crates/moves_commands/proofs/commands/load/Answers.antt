-- The loaded graph is kept, and a refusal stops the program. Assumes nothing.
use Rattle.std.proofs.Common.{◌∙◌}
use Rattle.moves_load_commands.specs.Lent.{shown}
use Rattle.moves_replies.specs.Wrote.{wrote_as}
use Rattle.moves_commands.proofs.Turns.{err_refused, started_fits, load_reply_is, load_after}
use Rattle.moves_commands.proofs.commands.load.Goals as goal

pub load_graph-verdict-requires : goal.load_graph-verdict-requires
load_graph-verdict-requires c = started_fits _ c.requires.ready c.set_starts.ensures

pub returns-clause-stepped : goal.returns-clause-stepped
returns-clause-stepped c =
    let v = c.load_graph-verdict.ensures in
    let s = shown c.args.reading.now in
    record {
      after = load_after s c.args.starts.now c.args.area.now c.set_starts.ensures v.result_value v.area_after (c.is_err-refused.ensures.value ∙ err_refused _);
      wrote = wrote_as (load_reply_is s c.args.starts.now c.args.area.now c.set_starts.ensures v.result_value) c.put_load.ensures;
    }
