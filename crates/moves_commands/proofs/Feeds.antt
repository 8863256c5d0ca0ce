-- What the loop over a block of the input keeps. Assumes nothing.
use Rattle.std.proofs.Common.{◌≡◌, refl, sym, ap, subst, ◌∙◌, List, [], ◌∷◌, ◌++◌, true, append_assoc, append-nil, ℕ, ◌+◌, ◌-◌, ◌≤◌, ◌<◌, false, length, get_or, drop, arith, le-leb, add-one, zero-add, add-zero}
use Rattle.std.proofs.Math.Seq.{drop-cons, drop-length}
use Rattle.moves_load_commands.specs.Lists.{Roomy, within}
use Rattle.moves_load_commands.specs.Lent.{SameLists}
use Rattle.moves_load_commands.specs.declared.LentReading.{LentReading}
use Rattle.moves_replies.specs.Room.{put-none, put_as}
use Rattle.moves_replies.specs.declared.Replies.{Replies}
use Rattle.moves_replies.specs.Wrote.{Wrote, HasRoom, wrote_none, wrote_then}
use Rattle.moves_commands.specs.Program.{State, areas, step}
use Rattle.moves_commands.specs.Fits.{Ready, step_fits, fits}
use Rattle.moves_commands.specs.Feed.{reserve, Fed, ahead, stay, feeding, feed, feeding-full, feeding-end, feeding-more}
use Rattle.moves_commands.specs.Steps.{Stepped, FedAs, FedTo, held}
use Rattle.moves_commands.specs.declared.Interpreter.{Interpreter}
use Rattle.moves_commands.specs.declared.Fed as code

abbrev pub room_of : Replies → ℕ
room_of r = length r.out.now - r.at

-- what is still to come after the first i bytes is all that is left
pub record Feeding (s : State (List ℕ)) (input : List ℕ) (r₀ : Replies) (st : State (List ℕ)) (i : ℕ) (r : Replies) : Type 0 where
  pub text : List ℕ
  pub wrote : Wrote text r₀ r
  pub whole : feeding areas s input (room_of r₀) ≡ ahead i text (feeding areas st (drop i input) (room_of r))
  pub ready : Ready st

ahead_none : (f : Fed (List ℕ)) → f ≡ ahead 0 [] f
ahead_none f = rw (zero-add f.used) refl

ahead_more : (i : ℕ) (text more : List ℕ) (f : Fed (List ℕ)) → ahead i text (ahead 1 more f) ≡ ahead (i + 1) (text ++ more) f
ahead_more i text more f =
    let e : i + (1 + f.used) ≡ i + 1 + f.used = omega arith in
    rw (e, append_assoc text more f.written) refl

ahead-stay : (i : ℕ) (text : List ℕ) (st : State (List ℕ)) → ahead i text (stay st) ≡ record { used = i; after = st; written = text }
ahead-stay i text st = rw (add-zero i, append-nil text) refl

pub feeding-none : {s : State (List ℕ)} {input : List ℕ} {r : Replies} → Ready s → HasRoom 0 r → Feeding s input r s 0 r
feeding-none {s} {input} {r} f h = record { text = []; wrote = wrote_none r h; whole = ahead_none _; ready = f }

module _ {s : State (List ℕ)} {input : List ℕ} {r₀ : Replies} {st : State (List ℕ)} {i : ℕ} {r : Replies} (v : Feeding s input r₀ st i r) where
  -- there is a place behind what is written
  pub feeding-room : HasRoom 0 r
  feeding-room = omega (arith, v.wrote.put.inside, v.wrote.put.long)

  pub feeding_on : {u : State (List ℕ)} {r' : Replies} → i < length input → reserve ≤ room_of r → Stepped (step areas st (get_or input i 0)) u r r' → Feeding s input r₀ u (i + 1) r'
  feeding_on {u} {r'} b g w =
      let t = step areas st (get_or input i 0) in
      let d : drop i input ≡ get_or input i 0 ∷ drop (i + 1) input = rw add-one (drop-cons input i 0 b) in
      let e : room_of r - length t.reply ≡ room_of r' = omega (arith, w.wrote.put.end, w.wrote.put.long) in
      record {
        text = v.text ++ t.reply;
        wrote = wrote_then v.wrote w.wrote;
        whole =
            v.whole
            ∙ ap (λ l. ahead i v.text (feeding areas st l (room_of r))) d
            ∙ ap (ahead i v.text) (feeding-more areas st (get_or input i 0) (drop (i + 1) input) (room_of r) g)
            ∙ ahead_more i v.text t.reply _
            ∙ ap (λ n. ahead (i + 1) (v.text ++ t.reply) (feeding areas t.after (drop (i + 1) input) n)) e
            ∙ ap (λ v₁. ahead (i + 1) (v.text ++ t.reply) (feeding areas v₁ (drop (i + 1) input) (room_of r'))) (sym w.after);
        ready = subst Ready (sym w.after) (step_fits areas st (get_or input i 0) v.ready);
      }

  module _ {u : State (List ℕ)} {out : List ℕ} (h : u ≡ st) (first : r₀.at ≡ 0) (e : r₀.out.now ≡ out) where
    done : feeding areas st (drop i input) (room_of r) ≡ stay st → FedTo (feeding areas s input (length out)) u out r.out.now (record { used = i; written = r.at })
    done q =
        let z : room_of r₀ ≡ length out = omega (arith, ap length e) in
        let f : record { used = i; after = st; written = v.text } ≡ feeding areas s input (length out) =
        sym (ap (feeding areas s input) (sym z) ∙ v.whole ∙ ap (ahead i v.text) q ∙ ahead-stay i v.text st) in
        record {
          count = ap (λ (f : Fed (List ℕ)). f.used) f;
          after = h ∙ ap (λ (f : Fed (List ℕ)). f.after) f;
          put = put_as (ap (λ (f : Fed (List ℕ)). f.written) f) (rw (first, e) at v.wrote.put);
        }

    -- without room, and at the block's end
    pub feeding-short : room_of r < reserve → FedTo (feeding areas s input (length out)) u out r.out.now (record { used = i; written = r.at })
    feeding-short q = done (feeding-full areas st (drop i input) (room_of r) q)

    pub feeding-over : i ≡ length input → FedTo (feeding areas s input (length out)) u out r.out.now (record { used = length input; written = r.at })
    feeding-over q =
        subst
        (λ (j : ℕ). FedTo (feeding areas s input (length out)) u out r.out.now (record { used = j; written = r.at }))
        q
        (done (ap (λ l. feeding areas st l (room_of r)) (ap (λ (j : ℕ). drop j input) q ∙ drop-length input) ∙ feeding-end areas st (room_of r)))

-- a block, and none where a list is too short or more is named than there is room for
pub fed_all : (s : State (List ℕ)) (input : List ℕ) {s' : State (List ℕ)} {out out' : List ℕ} {fed : code.Fed} → fits s.reading s.starts ≡ true
    → FedTo (feeding areas s input (length out)) s' out out' fed → FedTo (feed areas s input (length out)) s' out out' fed
unfolding feed
fed_all s input e v = rw e v

pub fed_none : (s : State (List ℕ)) (input out : List ℕ) → fits s.reading s.starts ≡ false → FedTo (feed areas s input (length out)) s out out (record { used = 0; written = 0 })
unfolding feed
fed_none s input out e = rw e (record { count = refl; after = refl; put = put-none out 0 (omega arith) })

-- an interpreter's lists have room, by their types: what is left to ask is that no more is named than there is room for
module _ (k : Interpreter) (l : Roomy k.reading.sets k.reading.sources k.reading.dependencies k.reading.hosts) (h : 49 ≤ length k.starts) where
  pub fits_within : fits k.reading k.starts ≡ within k.reading.machine
  fits_within =
      rw (le-leb 48 _ l.for_sets, le-leb 128 _ l.for_sources, le-leb 128 _ l.for_dependencies, le-leb 16 _ l.for_hosts, le-leb 49 _ h) refl

-- the state is the one that an interpreter holds
pub fed_held : {f : Fed (List ℕ)} {k : Interpreter} {st : State (List ℕ)} {out out' : List ℕ} {fed : code.Fed} → held k ≡ st → FedTo f st out out' fed → FedAs f k out out' fed
fed_held e v = record { count = v.count; after = e ∙ v.after; put = v.put }

-- the lists stay those that were lent
pub same_none : (r : LentReading) → SameLists r r
same_none r = record { sets = refl; sources = refl; dependencies = refl; hosts = refl }

pub same_then : {r s t : LentReading} → SameLists r s → SameLists s t → SameLists r t
same_then a b = record { sets = b.sets ∙ a.sets; sources = b.sources ∙ a.sources; dependencies = b.dependencies ∙ a.dependencies; hosts = b.hosts ∙ a.hosts }
