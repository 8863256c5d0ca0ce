-- The rows 26 and 27, then the chunks. Assumes nothing.
use Rattle.std.proofs.Common.{arith, refl, sym, ◌∙◌}
use Rattle.start_order.specs.Calls.{go_bit, go_cyclic, go_short, go_fetch, go_told}
use Rattle.start_order.proofs.go_on.Goals as goal

pub returns-then-load-bit : goal.returns-then-load-bit
returns-then-load-bit c = go_bit c.requires _ _ (omega arith)

pub returns-then-header-eq0 : goal.returns-then-header-eq0
returns-then-header-eq0 c = go_cyclic c.requires _ _ (omega arith) (sym c.header.ensures ∙ c.if-header-eq0.true)

pub returns-then-chunks-load : goal.returns-then-chunks-load
returns-then-chunks-load c = go_short c.requires _ _ (omega arith) (λ z. c.if-header-eq0.false (c.header.ensures ∙ z)) c.if-chunks-load.true

pub fetch-count-requires : goal.fetch-count-requires
fetch-count-requires c = go_fetch c.requires _ _ (omega arith) (λ z. c.if-header-eq0.false (c.header.ensures ∙ z)) c.if-chunks-load.false refl refl c.registered.ensures

pub returns : goal.returns
returns c = go_told c.requires _ _ (omega arith) (λ z. c.if-header-eq0.false (c.header.ensures ∙ z)) c.if-chunks-load.false c.fetch-count.ensures
