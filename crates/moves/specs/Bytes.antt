-- The program's state after bytes of the input, and its replies to them, however they are cut into blocks. Assumes nothing.
use Rattle.std.specs.Prelude.{◌≡◌, ℕ, suc, ◌+◌, ◌-◌, ◌<◌, ◌≤◌, Bool, true, false, cond, List, [], ◌∷◌, ◌++◌, length, take, nat_le, refl}
use Rattle.std.proofs.Common.{sym, ap, ◌∙◌, append_assoc, arith, le-leb}
use Rattle.moves_commands.specs.Program.{areas, State, Turn, step, finish, replies, fresh, printed}
use Rattle.moves_commands.specs.Fits.{Ready, fits, step_fits}
use Rattle.moves_commands.specs.Feed.{reserve, Fed, stay, ahead, feeding, feed, feeding-more}
use Rattle.moves_commands.proofs.Alike.{prints}

-- the state after bytes
unfoldable pub after : State (List ℕ) → List ℕ → State (List ℕ)
after st [] = st
after st (b ∷ bs) = after (step areas st b).after bs

-- the replies to bytes
unfoldable pub said : State (List ℕ) → List ℕ → List ℕ
said st [] = []
said st (b ∷ bs) = (step areas st b).reply ++ said (step areas st b).after bs

-- bytes, then more
pub after_append : (bs cs : List ℕ) (st : State (List ℕ)) → after st (bs ++ cs) ≡ after (after st bs) cs
unfolding after
after_append [] cs st = refl
after_append (b ∷ bs) cs st = after_append bs cs (step areas st b).after

pub said_append : (bs cs : List ℕ) (st : State (List ℕ)) → said st (bs ++ cs) ≡ said st bs ++ said (after st bs) cs
unfolding after said
said_append [] cs st = refl
said_append (b ∷ bs) cs st =
    let t = step areas st b in
    ap (λ (u : List ℕ). t.reply ++ u) (said_append bs cs t.after) ∙ sym (append_assoc t.reply (said t.after bs) (said (after t.after bs) cs))

-- the replies to all bytes, and the last one at their end, are what the program prints
said-replies : (bs : List ℕ) (st : State (List ℕ)) → said st bs ++ finish (after st bs).reading.machine ≡ replies areas st bs
unfolding after said replies
said-replies [] st = refl
said-replies (b ∷ bs) st =
    let t = step areas st b in
    append_assoc t.reply (said t.after bs) _ ∙ ap (λ (u : List ℕ). t.reply ++ u) (said-replies bs t.after)

pub said-printed : (area : List ℕ) → length area ≡ 16384 → (bs : List ℕ) → said (fresh area) bs ++ finish (after (fresh area) bs).reading.machine ≡ printed bs
said-printed area h bs = said-replies bs (fresh area) ∙ prints area h bs

-- the lists keep their room
pub after-ready : (bs : List ℕ) (st : State (List ℕ)) → Ready st → Ready (after st bs)
unfolding after
after-ready [] st r = r
after-ready (b ∷ bs) st r = after-ready bs (step areas st b).after (step_fits areas st b r)

-- what a block did is what its first bytes do
pub record FirstBytes (st : State (List ℕ)) (input : List ℕ) (f : Fed (List ℕ)) : Type 0 where
  pub state : f.after ≡ after st (take f.used input)
  pub text : f.written ≡ said st (take f.used input)

feeding-first : (input : List ℕ) (st : State (List ℕ)) (room : ℕ) → FirstBytes st input (feeding areas st input room)
unfolding feeding after said
feeding-first [] st room = record { state = refl; text = refl }
feeding-first (b ∷ bs) st room = go (nat_le reserve room) (feeding-first bs (step areas st b).after (room - length (step areas st b).reply))
  where
    t : Turn (List ℕ)
    t = step areas st b

    r : Fed (List ℕ)
    r = feeding areas (step areas st b).after bs (room - length (step areas st b).reply)

    go : (c : Bool) → FirstBytes t.after bs r → FirstBytes st (b ∷ bs) (cond c (ahead 1 t.reply r) (stay st))
    go true h =
        let e : 1 + r.used ≡ suc r.used = omega arith in
        record { state = rw e h.state; text = rw e (ap (λ (u : List ℕ). t.reply ++ u) h.text) }
    go false h = record { state = refl; text = refl }

-- lists with room take a byte at least, where there is one
ready-fits : (st : State (List ℕ)) → Ready st → fits st.reading st.starts ≡ true
ready-fits st r =
    rw (le-leb 48 _ r.roomy.for_sets, le-leb 128 _ r.roomy.for_sources, le-leb 128 _ r.roomy.for_dependencies, le-leb 16 _ r.roomy.for_hosts, le-leb 49 _ r.for_starts, le-leb _ 48 r.atoms, le-leb _ 128 r.entries)
    refl

ready_feeds : (st : State (List ℕ)) (input : List ℕ) (room : ℕ) → Ready st → feed areas st input room ≡ feeding areas st input room
unfolding feed
ready_feeds st input room r = rw (ready-fits st r) refl

pub feed-first : (st : State (List ℕ)) (input : List ℕ) (room : ℕ) → Ready st → FirstBytes st input (feed areas st input room)
feed-first st input room r = rw (ready_feeds st input room r) (feeding-first input st room)

pub feed_some : (st : State (List ℕ)) (input : List ℕ) (room : ℕ) → Ready st → 0 < length input → reserve ≤ room → 0 < (feed areas st input room).used
feed_some st [] room r h k = absurd (omega arith)
feed_some st (b ∷ bs) room r h k = rw (ready_feeds st (b ∷ bs) room r ∙ feeding-more areas st b bs room k) (omega arith)
