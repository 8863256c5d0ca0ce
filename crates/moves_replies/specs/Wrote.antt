-- What is written into the list of a reply's bytes. Assumes nothing.
use Rattle.std.specs.Prelude.{◌≡◌, refl, List, [], ◌++◌, ℕ, ◌+◌, ◌≤◌, length}
use Rattle.std.proofs.Common.{◌∙◌, arith}
use Rattle.moves_replies.specs.Room.{Put, put_then, put_as, put-none}
use Rattle.moves_replies.specs.declared.Replies.{Replies}

-- n more bytes fit behind what is written
abbrev pub HasRoom : ℕ → Replies → Type 0
HasRoom n r = r.at + n ≤ length r.out.now

-- text is written behind the rest, into the same list
pub record Wrote (text : List ℕ) (old new : Replies) : Type 0 where
  pub put : Put text old.out.now old.at new.out.now new.at
  pub same : new.out.ghost_name ≡ old.out.ghost_name

-- nothing is written
pub wrote_none : (r : Replies) → HasRoom 0 r → Wrote [] r r
wrote_none r h = record { put = put-none r.out.now r.at (omega (arith, h)); same = refl }

-- two texts, one behind the other
pub wrote_then : {u v : List ℕ} {r s t : Replies} → Wrote u r s → Wrote v s t → Wrote (u ++ v) r t
wrote_then a b = record { put = put_then a.put b.put; same = b.same ∙ a.same }

-- the same text, otherwise written
pub wrote_as : {u v : List ℕ} {r s : Replies} → u ≡ v → Wrote u r s → Wrote v r s
wrote_as e a = record { put = put_as e a.put; same = a.same }
