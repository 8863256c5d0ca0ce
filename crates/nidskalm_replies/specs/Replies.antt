-- What the replies of the C interface say, field by field. Assumes nothing.
use Rattle.std.specs.Prelude.{ℕ, cond, List, [], Result, Ok, Err, length, get_or}
use Rattle.refusals.specs.declared.Refusal.{Refusal}
use Rattle.refusals.specs.Rows.{row}
use Rattle.entry_set.specs.Sets.{entry_set}
use Rattle.entry_set.specs.declared.EntrySet.{EntrySet}
use Rattle.move_ledger.specs.Answer as moved
use Rattle.plan_freedom.specs.Told as told
use Rattle.merge_state.specs.State.{None}
use Rattle.merge_state.specs.Table as merged
use Rattle.nidskalm_replies.specs.declared.Reply.{Reply}
use Rattle.nidskalm_replies.specs.declared.MoveReply.{MoveReply}
use Rattle.nidskalm_replies.specs.declared.SetReply.{SetReply}
use Rattle.nidskalm_replies.specs.declared.EdgeReply.{EdgeReply}
use Rattle.nidskalm_replies.specs.declared.FreedomReply.{FreedomReply}

-- row q refuses the call: the other fields are 0
abbrev pub refusing : ℕ → Reply
refusing q = record { refusal = q; value = 0 }

-- the call isn't refused
abbrev pub answering : ℕ → Reply
answering k = record { refusal = 0; value = k }

-- the calls of the move graph, `try_move`, `atom_set` and `edge_at` apart
unfoldable pub move_reply : moved.Answer → Reply
move_reply (moved.refused q) = refusing q
move_reply moved.acyclic = answering 0
move_reply moved.cyclic = answering 1
move_reply moved.rejected = answering 0
move_reply (moved.accepted r) = answering 1
move_reply (moved.number k) = answering k
move_reply (moved.set s) = answering 0
move_reply (moved.edge e) = answering 0
move_reply moved.none = answering 0

-- row q refuses the move
abbrev pub no_move : ℕ → MoveReply
no_move q = record { refusal = q; accepted = 0; appeared = 0; vanished = 0; reached = 0 }

-- the move isn't refused
abbrev pub moving : ℕ → ℕ → ℕ → ℕ → MoveReply
moving told come gone reach = record { refusal = 0; accepted = told; appeared = come; vanished = gone; reached = reach }

-- `try_move`: a rejected move reports noughts
unfoldable pub try_reply : moved.Answer → MoveReply
try_reply (moved.refused q) = no_move q
try_reply moved.rejected = moving 0 0 0 0
try_reply (moved.accepted r) = moving 1 r.appeared r.vanished r.reached
try_reply moved.acyclic = no_move 0
try_reply moved.cyclic = no_move 0
try_reply (moved.number k) = no_move 0
try_reply (moved.set s) = no_move 0
try_reply (moved.edge e) = no_move 0
try_reply moved.none = no_move 0

-- `freedom`
unfoldable pub freedom_reply : told.Told → FreedomReply
freedom_reply (told.refused q) = record { refusal = q; accepted = 0; rejected = 0; fixed = 0 }
freedom_reply (told.counts f) = record { refusal = 0; accepted = f.accepted; rejected = f.rejected; fixed = f.fixed }

-- a set's four numbers
abbrev pub set_answering : ℕ → List ℕ → SetReply
set_answering q s = record { refusal = q; set0 = get_or s 0 0; set1 = get_or s 1 0; set2 = get_or s 2 0; set3 = get_or s 3 0 }

-- `atom_set`
unfoldable pub set_reply : moved.Answer → SetReply
set_reply (moved.refused q) = set_answering q []
set_reply (moved.set s) = set_answering 0 s
set_reply moved.acyclic = set_answering 0 []
set_reply moved.cyclic = set_answering 0 []
set_reply moved.rejected = set_answering 0 []
set_reply (moved.accepted r) = set_answering 0 []
set_reply (moved.number k) = set_answering 0 []
set_reply (moved.edge e) = set_answering 0 []
set_reply moved.none = set_answering 0 []

-- no edge
abbrev pub no_edge : ℕ → EdgeReply
no_edge q = record { refusal = q; found = 0; from0 = 0; from1 = 0; from2 = 0; from3 = 0; to0 = 0; to1 = 0; to2 = 0; to3 = 0; multiplicity = 0 }

-- an edge from one set to another
abbrev pub of_sets : EntrySet → EntrySet → ℕ → EdgeReply
of_sets x y k = record { refusal = 0; found = 1; from0 = x.0; from1 = x.1; from2 = x.2; from3 = x.3; to0 = y.0; to1 = y.1; to2 = y.2; to3 = y.3; multiplicity = k }

abbrev pub an_edge : ℕ → ℕ → ℕ → EdgeReply
an_edge X Y k = of_sets (entry_set X) (entry_set Y) k

-- `edge_at`
unfoldable pub edge_reply : moved.Answer → EdgeReply
edge_reply (moved.refused q) = no_edge q
edge_reply (moved.edge e) = an_edge e.from e.to e.multiplicity
edge_reply moved.none = no_edge 0
edge_reply moved.acyclic = no_edge 0
edge_reply moved.cyclic = no_edge 0
edge_reply moved.rejected = no_edge 0
edge_reply (moved.accepted r) = no_edge 0
edge_reply (moved.number k) = no_edge 0
edge_reply (moved.set s) = no_edge 0

-- the calls of the merge graph; the pass answers how many candidates it had
unfoldable pub merge_reply : merged.Answer → Reply
merge_reply (merged.refused q) = refusing q
merge_reply merged.done = answering 0
merge_reply (merged.says b) = answering (cond b 1 0)
merge_reply (merged.chunk x) = answering x
merge_reply merged.nothing = answering None
merge_reply (merged.lists kinds numbers) = answering (length kinds)

-- the pass's own answer, without its lists
abbrev pub pass_reply : Result ℕ Refusal → Reply
pass_reply (Ok n) = answering n
pass_reply (Err r) = refusing (row r)
