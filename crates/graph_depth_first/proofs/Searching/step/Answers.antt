-- A step takes the next neighbour, or the node finishes. Assumes nothing.
use borrow.Author.Rules.{rules}
use Rattle.graph_depth_first.proofs.Layer.{more-there, all_there, next_is, finish_can, pop_step, visit_can, visit_step}
use Rattle.graph_depth_first.proofs.Searching.step.Goals as goal

pub visit-requires : goal.visit-requires
visit-requires c =
    let r = c.requires.ready in
    visit_can r c.requires.some (more-there r c.requires.some c.of.ensures (search rules)) (next_is r c.requires.some c.of.ensures (search rules))

pub returns-in-Some : goal.returns-in-Some
returns-in-Some c =
    let r = c.requires.ready in
    record {
      moves = visit_step r c.requires.some (more-there r c.requires.some c.of.ensures (search rules)) (next_is r c.requires.some c.of.ensures (search rules)) c.visit.ensures.moves;
      same = c.visit.ensures.same;
    }

pub finish-requires : goal.finish-requires
finish-requires c = finish_can c.requires.ready c.requires.some (all_there c.requires.ready c.requires.some c.of.ensures (search rules))

pub returns-in-None : goal.returns-in-None
returns-in-None c = record {
  moves = pop_step c.requires.ready c.requires.some (all_there c.requires.ready c.requires.some c.of.ensures (search rules)) c.finish.ensures.moves;
  same = c.finish.ensures.same;
}
