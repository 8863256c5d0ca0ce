-- What is written behind what stands in a list already, and how long replies are. Assumes nothing.
use Rattle.std.specs.Prelude.{◌≡◌, refl, List, [], ◌++◌, ℕ, ◌+◌, ◌≤◌, length}
use Rattle.std.proofs.Common.{sym, ◌∙◌, arith, length-append}
use Rattle.layout.specs.Patch.{patch, patch_in, is_part, patch_append, patch-over, patch-none}
use Rattle.entry_set.specs.Sets.{words}
use Rattle.move_ledger.specs.Graph.{at}
use Rattle.move_ledger.specs.Answer.{Answer, refused, acyclic, accepted, rejected, number, none}
use Rattle.move_ledger.specs.Answer as answer
use Rattle.moves_replies.specs.Decimal.{decimal_long}
use Rattle.moves_replies.specs.Words.{reply}

-- text is written into l at `from`, and `to` is the place behind it
pub record Put (text l : List ℕ) (from : ℕ) (l' : List ℕ) (to : ℕ) : Type 0 where
  pub written : l' ≡ patch from text l
  pub end : to ≡ from + length text
  pub long : length l' ≡ length l
  pub inside : to ≤ length l

-- two texts, one behind the other
pub patch-then : (p : ℕ) (u v l : List ℕ) → p + length u ≤ length l → patch (p + length u) v (patch p u l) ≡ patch p (u ++ v) l
patch-then p u v l h =
    patch_append p u v (patch p u l) (is_part p (patch p u l) u (λ i b. patch_in p u l i b (omega arith)))
    ∙ patch-over p (u ++ v) u l (simp length-append (omega arith))

pub put_then : {u v l l' l'' : List ℕ} {p q r : ℕ} → Put u l p l' q → Put v l' q l'' r → Put (u ++ v) l p l'' r
put_then {u} {v} {l} {l'} {l''} {p} {q} {r} a b =
    record {
      written = b.written ∙ rw (a.end, a.written) (patch-then p u v l (omega (arith, a.end, a.inside)));
      end = simp length-append (omega (arith, a.end, b.end));
      long = b.long ∙ a.long;
      inside = omega (arith, b.inside, a.long);
    }

-- the same text, otherwise written
pub put_as : {u v l l' : List ℕ} {p q : ℕ} → u ≡ v → Put u l p l' q → Put v l p l' q
put_as e a = rw e at a

pub put-none : (l : List ℕ) (p : ℕ) → p ≤ length l → Put [] l p l p
put-none l p h = record { written = sym (patch-none p l); end = omega arith; long = refl; inside = h }

-- a reply has at most 64 bytes
pub reply_long : (a : Answer) → length (reply a) ≤ 64
unfolding reply
reply_long (refused q) = simp length-append (omega (arith, decimal_long 20 q))
reply_long acyclic = omega arith
reply_long answer.cyclic = omega arith
reply_long (accepted r) = omega arith
reply_long rejected = omega arith
reply_long (answer.set s) = simp length-append (omega (arith, decimal_long 20 (at s 0)))
reply_long (number n) = simp length-append (omega (arith, decimal_long 20 n))
reply_long (answer.edge e) =
    simp length-append
    (omega (arith, decimal_long 20 (at (words 4 e.from) 0), decimal_long 20 (at (words 4 e.to) 0), decimal_long 20 e.multiplicity))
reply_long none = omega arith
