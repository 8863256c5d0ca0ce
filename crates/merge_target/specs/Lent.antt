-- What a call is lent, as the definitions take it. Assumes nothing.
use Rattle.std.specs.Prelude.{ℕ, List, take, drop}
use Rattle.merge_choice.specs.Choice.{Lent, lists, start, size}
use Rattle.merge_choice.specs.Choice as choice
use Rattle.merge_target.specs.declared.Lists.{Lists}
use Rattle.merge_target.specs.declared.Bundle.{Bundle}
use Rattle.merge_target.specs.declared.Candidate.{Candidate}

abbrev pub lists_of : Lists → choice.Lists
lists_of l = lists l.starts.now l.items.now

-- list x
abbrev pub list_of : choice.Lists → ℕ → List ℕ
list_of l x = take (size l x) (drop (start l x) l.items)

abbrev pub lent_by : Bundle → Candidate → Lent
lent_by b c = record {
  entries = b.entries.now;
  modules = lists_of b.contents;
  static = lists_of b.importers;
  dynamic = lists_of b.dynamic_importers;
  reached = lists_of b.reached;
  effects = b.effects.now;
  exports = b.exports.now;
  candidate = c.modules.now;
}
