-- A block is taken where the lists have room, and no more is named than there is room for. Assumes nothing.
use Rattle.std.proofs.Common.{◌∙◌, sym, length, arith}
use Rattle.moves_commands.specs.Program.{areas}
use Rattle.moves_commands.specs.Steps.{lent_held}
use Rattle.moves_commands.specs.Fits.{fits_true}
use Rattle.moves_commands.specs.Feed.{feed-used}
use Rattle.moves_commands.proofs.Feeds.{fed_all, fed_none, same_none}
use Rattle.moves_commands.proofs.feed.Goals as goal

pub returns-then-not-fits-clause-fed_to : goal.returns-then-not-fits-clause-fed_to
returns-then-not-fits-clause-fed_to c = fed_none (lent_held c.args.reading.now c.args.starts.now c.args.area.now) _ _ (sym c.fits.ensures ∙ c.if-not-fits.true)

pub returns-then-not-fits-clause-same : goal.returns-then-not-fits-clause-same
returns-then-not-fits-clause-same c = same_none _

pub feed_on-requires : goal.feed_on-requires
feed_on-requires c = fits_true _ _ (sym c.fits.ensures ∙ c.if-not-fits.false)

pub returns : goal.returns
returns c =
    let s = lent_held c.args.reading.now c.args.starts.now c.args.area.now in
    let v = fed_all s c.args.input.now (sym c.fits.ensures ∙ c.if-not-fits.false) c.feed_on.ensures.fed_to in
    record { fed_to = v; used_in_bounds = omega (arith, v.count, feed-used areas s c.args.input.now (length c.args.out.now)); same = c.feed_on.ensures.same }
