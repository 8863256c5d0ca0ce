-- The links of the dependencies so far. Assumes nothing.
use mathlib.Core.Path.{◌≡◌}
use Rattle.merge_area.specs.Writes.{linked}
use Rattle.merge_dependencies.proofs.add_links.Given as goal

abbrev pub invariant-loop-m : goal.invariant-loop-m
invariant-loop-m l = (l.area ≡ linked l.fn.sizes l.dependencies l.x 0 l.initial.area l.m-index)
