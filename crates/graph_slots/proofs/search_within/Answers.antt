-- The walk's answer is the slots', and where it met no cycle no node is flagged. Assumes nothing.
use Prim.Native.Nat.{ℕ}
use native.Mathlib.Omega.{arith}
use mathlib.Core.Path.{◌≡◌, sym, ap, ◌∙◌}
use mathlib.Core.Bool.{Bool}
use lib.ListN.{length}
use Rattle.graphs.specs.Lists.{below}
use Rattle.graphs.specs.Walk.{cyclic}
use Rattle.graph_slots.proofs.Turned.{none-flagged}
use borrow.Author.Rules.{rules}
use Rattle.graph_slots.proofs.search_within.Goals as goal

pub first_walk-requires : goal.first_walk-requires
first_walk-requires g c = let p = c.requires in (search rules, record { graph = p.0.lists.graph; nodes = p.1; small = omega (arith, p.0.lists.slots.nodes) })

pub flag_component-requires : goal.flag_component-requires
flag_component-requires g c =
    let p = c.requires in
    let s = c.first_walk.new.self in
    let a : length s.order ≡ g.row.N = search rules in
    let b : length s.cursors ≡ g.row.N = search rules in
    let k : length s.stack ≡ g.row.N = search rules in
    record { lists = p.0.lists; ordered = c.first_walk.ensures.walked.ordered; orders = omega (arith, a, p.1); labels = omega (arith, b, p.1); places = omega (arith, k, p.1); room = p.0.room }

pub returns-then-first_walk : goal.returns-then-first_walk
returns-then-first_walk g c = record { value = sym c.if-first_walk.true ∙ c.first_walk.ensures.walked.answer ∙ ap (λ (f : ℕ → ℕ → Bool). cyclic f (below c.args.n)) c.requires.0.lists.same; flags_after = c.flag_component.ensures }

pub returns : goal.returns
returns g c = let p = c.requires.0 in let q = sym c.if-first_walk.false ∙ c.first_walk.ensures.walked.answer ∙ ap (λ (f : ℕ → ℕ → Bool). cyclic f (below c.args.n)) p.lists.same in record { value = q; flags_after = none-flagged _ _ _ _ (sym q) (search rules) (search rules) }
