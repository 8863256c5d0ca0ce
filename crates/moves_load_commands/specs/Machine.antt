-- The program's commands byte by byte, and what those before the load do. A command's number is hexadecimal in words. Assumes nothing.
use Rattle.std.specs.Prelude.{Bool, true, false, not, cond, ◌&&◌, ◌||◌, Option, Some, None, List, ◌∷◌, ℕ, ◌+◌, ◌-◌, ◌*◌, ◌%◌, leb, ltb, eqb, set, replicate}
use Rattle.graphs.specs.Count.{count}
use Rattle.layout.specs.Patch.{patch, part}
use Rattle.move_ledger.specs.Graph.{at}
use Rattle.move_ledger.specs.Graph as graph
use Rattle.moves_load_commands.specs.declared.Command.{Command}
use Rattle.moves_load_commands.specs.declared.Machine.{Machine}
use Rattle.moves_load_commands.specs.declared.Reading.{Reading}

-- 10 to 13 come before the load, which is 13, and 20 to 23 after it; no other byte is a command
abbrev pub belongs : ℕ → Bool → Bool
belongs c moving = cond (leb 16 c && leb c 19) (not moving) (cond (leb 32 c && leb c 35) moving false)

-- how many operand bytes a command has: 10 a set, 11 two atoms, 12 a bit and an atom, 20 an atom and a set, 22 an atom; 13, 21 and 23 nothing
abbrev pub operand_bytes : ℕ → ℕ
operand_bytes c = cond (eqb c 16 || eqb c 34) 2 (cond (eqb c 19 || (eqb c 33 || eqb c 35)) 0 4)

-- before the first byte
abbrev pub new_machine : Machine
new_machine = record { moving = false; stopped = false; command = None; atoms = 0; entries = 0 }

-- the program stops; a command is named, none read yet of its operands; a command is done
abbrev pub halt : Machine → Machine
halt m = record m { stopped = true }

abbrev pub named : ℕ → Command
named c = record { number = c; wanted = operand_bytes c; x = 0; y = 0 }

abbrev pub done : Machine → Machine
done m = record m { command = None }

-- an operand has 16 bits, its low byte first
abbrev pub both : ℕ → ℕ → ℕ
both low high = low % 256 + 256 * high

-- an operand that is alone is y, of two the first is x
unfoldable pub operand : Command → ℕ → Command
operand c b =
    cond (eqb c.wanted 4) (record c { wanted = 3; x = b })
    (cond (eqb c.wanted 3) (record c { wanted = 2; x = both c.x b })
    (cond (eqb c.wanted 2) (record c { wanted = 1; y = b })
    (record c { wanted = 0; y = both c.y b })))

-- a byte is read: a command's number where none is being read, or of an operand
abbrev pub taken_by : Machine → ℕ → Option Command → Machine
taken_by m b None = cond (belongs b m.moving) (record m { command = Some (named b) }) (halt m)
taken_by m b (Some c) = record m { command = Some (operand c b) }

unfoldable pub taken : Machine → ℕ → Machine
taken m b = taken_by m b m.command

-- nothing is named yet; a bit that no 12 has named has no host
abbrev pub new_reading : Reading
new_reading =
    record {
      machine = new_machine;
      sets = replicate 48 0;
      sources = replicate 128 0;
      dependencies = replicate 128 0;
      hosts = replicate 16 graph.none;
    }

-- the program stops at a command that can't be
abbrev pub refuse : Reading → Reading
refuse s = record s { machine = halt s.machine }

-- one more atom, one more dependency
abbrev pub more_atoms : Machine → Machine
more_atoms m = record m { command = None; atoms = m.atoms + 1 }

abbrev pub more_entries : Machine → Machine
more_entries m = record m { command = None; entries = m.entries + 1 }

-- 10: the next atom's set; there are 48 atoms at most
unfoldable pub add_atom : Command → Reading → Reading
add_atom c s =
    let m = s.machine in
    cond (leb 48 m.atoms) (refuse s) (record s { machine = more_atoms m; sets = set s.sets m.atoms c.y })

-- how many of the first d dependencies belong to atoms below i: where those of atom i start
unfoldable pub start : List ℕ → ℕ → ℕ → ℕ
start sources d i = count (λ k. ltb (at sources k) i) d

-- v put at place p of the first d numbers of a list
unfoldable pub inserted : ℕ → ℕ → ℕ → List ℕ → List ℕ
inserted p d v l = patch p (v ∷ part p (d - p) l) l

-- an atom that no 10 has named yet
abbrev pub unnamed : Machine → ℕ → Bool
unnamed m a = leb m.atoms a

-- 11: a depends on b, which goes behind the dependencies of a; both are named, and there are 128 dependencies at most
unfoldable pub depend : Command → Reading → Reading
depend c s =
    let m = s.machine in
    let p = start s.sources m.entries (c.x + 1) in
    cond (unnamed m c.x || (unnamed m c.y || leb 128 m.entries)) (refuse s)
    (record s { machine = more_entries m; sources = inserted p m.entries c.x s.sources; dependencies = inserted p m.entries c.y s.dependencies })

-- 12: the host of a bit, one of 16 that has none yet, is an atom that is named
unfoldable pub add_host : Command → Reading → Reading
add_host c s =
    let m = s.machine in
    cond (leb 16 c.x || (unnamed m c.y || not (eqb (at s.hosts c.x) graph.none))) (refuse s)
    (record s { machine = done m; hosts = set s.hosts c.x c.y })

-- 10, 11 or 12
unfoldable pub read : Command → Reading → Reading
read c s = cond (eqb c.number 16) (add_atom c s) (cond (eqb c.number 17) (depend c s) (add_host c s))
