-- Commands written one behind the other. Assumes nothing.
use Rattle.std.proofs.Common.{◌≡◌, refl, sym, ℕ, ◌+◌, ◌-◌, ◌*◌, ◌≤◌, List, length, arith}
use Rattle.moves_replies.specs.Room.{put-none, put_as}
use Rattle.moves_replies.specs.declared.Replies.{Replies}
use Rattle.moves_replies.specs.Wrote.{Wrote, wrote_then, wrote_as}
use Rattle.chain_commands.specs.Commands.{load_and_move, in_turn, in_turn-none, in_turn-more, in_turn_long, chain_atom, chain_link, raw-chain}
use Rattle.chain_commands.specs.Printed.{chain_commands}

-- a loop that writes f 0, f 1, .. one behind the other
pub turn-none : (f : ℕ → List ℕ) (r : Replies) → r.at ≤ length r.out.now → Wrote (in_turn f 0) r r
turn-none f r h = record { put = put_as (sym (in_turn-none f)) (put-none r.out.now r.at h); same = refl }

pub turn_more : (f : ℕ → List ℕ) {r s t : Replies} (i : ℕ) → Wrote (in_turn f i) r s → Wrote (f i) s t → Wrote (in_turn f (i + 1)) r t
turn_more f i a b = wrote_as (sym (in_turn-more f i)) (wrote_then a b)

-- where it stands after i of them
pub turn-place : (f : ℕ → List ℕ) (c : ℕ) {r s : Replies} (i : ℕ) → ((j : ℕ) → length (f j) ≡ c) → Wrote (in_turn f i) r s → s.at ≡ r.at + i * c
turn-place f c i h a = omega (arith, a.put.end, in_turn_long f c i h)

-- sets, dependencies, the load and the move, one behind the other
pub chain-put : (n : ℕ) {r s t u : Replies} → Wrote (in_turn chain_atom n) r s → Wrote (in_turn chain_link (n - 1)) s t → Wrote (load_and_move 0 (n + 1)) t u → Wrote (chain_commands n) r u
chain-put n a b c = wrote_as (raw-chain n) (wrote_then (wrote_then a b) c)
