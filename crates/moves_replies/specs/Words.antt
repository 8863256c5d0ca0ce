-- The reply to each answer of the move graph. Each reply is a line. Assumes nothing.
use Rattle.std.specs.Prelude.{List, [], ◌∷◌, ◌++◌, ℕ, codes}
use Rattle.entry_set.specs.Sets.{words}
use Rattle.move_ledger.specs.Graph.{at}
use Rattle.move_ledger.specs.Answer.{Answer, refused, acyclic, accepted, rejected, number, none}
use Rattle.move_ledger.specs.Answer as answer
use Rattle.moves_replies.specs.Decimal.{decimal}

abbrev pub accepted_word : List ℕ
accepted_word = codes "accepted"

abbrev pub rejected_word : List ℕ
rejected_word = codes "rejected"

abbrev pub refused_word : List ℕ
refused_word = codes "refused "

abbrev pub load_word : List ℕ
load_word = codes "load "

abbrev pub acyclic_word : List ℕ
acyclic_word = codes "acyclic"

abbrev pub cyclic_word : List ℕ
cyclic_word = codes "cyclic"

abbrev pub edges_word : List ℕ
edges_word = codes "edges "

abbrev pub space : ℕ
space = 32

-- a line ends with a newline
abbrev pub line : List ℕ → List ℕ
line text = text ++ 10 ∷ []

-- a set in base ten: with 16 entry bits only the first of its four numbers can be other than 0
abbrev pub printed_set : List ℕ → List ℕ
printed_set s = decimal (at s 0)

-- a refusal with its row's number, a verdict, what became of a move, a set, the count of edges, or an edge: its two sets and its multiplicity
unfoldable pub reply : Answer → List ℕ
reply (refused q) = line (refused_word ++ decimal q)
reply acyclic = line acyclic_word
reply answer.cyclic = line cyclic_word
reply (accepted r) = line accepted_word
reply rejected = line rejected_word
reply (answer.set s) = line (printed_set s)
reply (number n) = line (edges_word ++ decimal n)
reply (answer.edge e) = line (printed_set (words 4 e.from) ++ space ∷ printed_set (words 4 e.to) ++ space ∷ decimal e.multiplicity)
reply none = []

-- the reply to a load says that it is one
abbrev pub load_reply : Answer → List ℕ
load_reply a = load_word ++ reply a
