-- What the program `chain` prints. Assumes nothing.
use Rattle.std.specs.Prelude.{ℕ, ◌+◌, ◌≤◌, ◌≡◌, refl, cond, Option, Some, None, List, [], leb}
use Rattle.std.proofs.Common.{le-leb}
use Rattle.refusals.specs.Rows.{row}
use Rattle.refusals.specs.declared.Refusal.TheVariants as refusal
use Rattle.move_ledger.specs.Answer.{refused}
use Rattle.moves_replies.specs.Words.{reply}
use Rattle.chain_commands.specs.Chain.{chain, sets}
use Rattle.chain_commands.specs.Commands.{raw}
use Rattle.chain_commands.specs.Asked.{asked}

-- the load of n atoms, then atom 0 to set n + 1
abbrev pub chain_commands : ℕ → List ℕ
chain_commands n = raw (chain n) (sets n) 0 (n + 1)

-- the commands for the number that is asked for, a refusal where none is
abbrev pub printed_for : Option ℕ → List ℕ
printed_for None = reply (refused (row refusal.BadCommand))
printed_for (Some n) = chain_commands n

unfoldable pub printed : List ℕ → List ℕ
printed input = printed_for (asked input)

-- the bytes of the longest answer, that to 512
abbrev pub room : ℕ
room = 4097

-- what is written into a list of `size` numbers: nothing where the longest answer wouldn't fit
abbrev pub fitting : List ℕ → ℕ → List ℕ
fitting input size = cond (leb room size) (printed input) []

pub fits : (input : List ℕ) (size : ℕ) → room ≤ size → fitting input size ≡ printed input
fits input size h = rw (le-leb room size h) refl
