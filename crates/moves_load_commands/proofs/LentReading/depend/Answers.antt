-- Both lists take their number at the atom's end. Assumes nothing.
use Rattle.std.proofs.Common.{refl, ◌≡◌, ◌+◌, ◌∙◌, arith}
use Rattle.std.proofs.lemmas.Bool.{lt-leb}
use Rattle.moves_load_commands.specs.Machine as def
use Rattle.moves_load_commands.proofs.Lists.{start_take}
use Rattle.moves_load_commands.proofs.LentReading.depend.Goals as goal

pub returns-clause-after : goal.returns-clause-after
unfolding def.depend
returns-clause-after c =
    let m = c.args.self.now.machine in
    let p : c.start-p.result ≡ def.start c.args.self.now.sources.now m.entries (c.args.command.x + 1) = c.start-p.ensures.value ∙ start_take _ _ _ (omega arith) in
    rw (lt-leb m.atoms c.args.command.x (omega arith), lt-leb m.atoms c.args.command.y (omega arith), lt-leb 128 m.entries (omega arith), c.insert.ensures, c.insert-2.ensures, p) refl
