-- How the turns of the program's loop are told by what the interpreter and the turns before did. Assumes nothing.
use Rattle.std.proofs.Common.{◌≡◌, ℕ, ◌+◌, ◌-◌, ◌%◌, ◌^◌, ◌<◌, ◌≤◌, Bool, true, false, cond, Result, Ok, Err, is_ok, List, length, take, drop, sym, refl, ap, ◌∙◌, subst, true≢false, arith, length-take-le, le-leb}
use Rattle.moves_replies.specs.Room.{Put, put_as}
use Rattle.moves_load_commands.specs.declared.Machine.{Machine}
use Rattle.moves_commands.specs.Program.{areas, State, finish, fresh}
use Rattle.moves_commands.specs.Fits.{Ready}
use Rattle.moves_commands.specs.Feed.{reserve, feed, finished}
use Rattle.moves_commands.specs.Steps.{FedTo}
use Rattle.moves.specs.Bytes.{after, said, after-ready, feed-first, feed_some}
use Rattle.moves_commands.specs.declared.Fed.{Fed}
use Rattle.moves.specs.Turns.{stopping, fed_of, Took, Answered, TookAll, TookRead, Ran, further, RanOut, StartsWith, put-taken, took_on, ran_all}

-- a turn
pub answered : (st : State (List ℕ)) {st' : State (List ℕ)} {input out out' : List ℕ} {fed : Fed} → Ready st → (0 < length input) × (reserve ≤ length out)
    → FedTo (feed areas st input (length out)) st' out out' fed → fed.used ≤ length input → (going : Bool) → Answered st input (stopping going st') (cond going (Ok fed) (Err fed)) out'
answered st {st'} {input} {out} {out'} {fed} r h f inside =
    let b = feed-first st input (length out) r in
    let state : st' ≡ after st (take fed.used input) = f.after ∙ b.state ∙ ap (λ (n : ℕ). after st (take n input)) (sym f.count) in
    let some : 0 < fed.used = rw f.count (feed_some st input (length out) r h.0 h.1) in
    let text = put-taken (put_as (b.text ∙ ap (λ (n : ℕ). said st (take n input)) (sym f.count)) f.put) in
    (λ going. go going state some text)
  where
    go : (going : Bool) → st' ≡ after st (take fed.used input) → 0 < fed.used → take fed.written out' ≡ said st (take fed.used input)
        → Answered st input (stopping going st') (cond going (Ok fed) (Err fed)) out'
    go true e p t = record { took = record { inside = inside; state = e }; some = p; text = t }
    go false e p t = record { took = record { inside = inside; state = ap (λ (s : State (List ℕ)). stopping false s) e }; some = p; text = t }

-- the last reply has room
pub finished-put : (m : Machine) {out out' : List ℕ} {n : ℕ} → 64 ≤ length out → Put (finished m (length out)) out 0 out' n → Put (finish m) out 0 out' n
finished-put m {out} h p = rw (le-leb 64 (length out) h) at p

-- at the end of the input nothing is left to take
pub read_none : {st : State (List ℕ)} {input out : List ℕ} → length input ≡ 0 → StartsWith (finish st.reading.machine) out → TookRead st input (stopping false st) (Err 0) out
unfolding after
read_none e t = record { block = record { took = record { inside = omega arith; state = refl }; some = λ h. omega (arith, e, h) }; last = λ _. (refl, t) }

pub read_some : {st st' : State (List ℕ)} {input out : List ℕ} {taken : Result (Unit {0}) ℕ} → 0 < length input → TookAll st input st' taken → TookRead st input st' taken out
read_some h t = record { block = t; last = λ e. absurd (omega arith) }

-- the turns so far took the first `at` bytes
pub took_none : {st : State (List ℕ)} {input : List ℕ} → Took st input st 0 true
unfolding after
took_none = record { inside = omega arith; state = refl }

module _ {st st' : State (List ℕ)} {input : List ℕ} {at : ℕ} (t : Took st input st' at true) where
  pub still_ready : Ready st → Ready st'
  still_ready r = rw t.state (after-ready (take at input) st r)

  module _ {st'' : State (List ℕ)} {turn : Result Fed Fed} {out : List ℕ} (a : Answered st' (take (length input - at) (drop at input)) st'' turn out) where
    pub then_took : Took st input st'' (at + (fed_of turn).used) (is_ok turn)
    then_took = took_on t.inside t.state a.took

  pub stops : {st'' : State (List ℕ)} {fed : Fed} {out : List ℕ} → Answered st' (take (length input - at) (drop at input)) st'' (Err fed) out → TookAll st input st'' (Err (at + fed.used))
  stops a = record { took = then_took a; some = λ h. omega (arith, a.some) }

  pub ends : (u : Unit {0}) → length input ≤ at → TookAll st input st' (Ok u)
  ends u h = let e : at ≡ length input = omega (arith, t.inside, h) in record { took = rw e at t; some = λ k. k }

-- a state that is stopped because the program doesn't go on has stopped
going_on : (st : State (List ℕ)) (going : Bool) → (stopping going st).reading.machine.stopped ≡ false → going ≡ true
going_on st true h = refl
going_on st false h = absurd (true≢false h)

module _ {st st' : State (List ℕ)} {reads bytes : ℕ} (w : Ran st reads bytes st' true) where
  pub reading-ready : Ready st → Ready st'
  reading-ready r = let a = ran_all w refl in rw a.state (after-ready a.taken st r)

  -- the last read
  pub reading-out : reads ≡ 2 ^ 63 → RanOut st st' bytes
  reading-out h = record { reads = reads; going = true; ran = w; most = λ _. h }

  -- one read more: it gave n bytes
  module _ {st'' : State (List ℕ)} {n bytes' : ℕ} (taken : Result (Unit {0}) ℕ) {out : List ℕ} (input : List ℕ) (t : TookRead st' (take n input) st'' taken out) (e : n ≤ length input)
      (b : bytes' ≡ (bytes + n) % 2 ^ 64) where
    then_ran : Ran st (reads + 1) bytes' st'' (is_ok taken)
    then_ran =
        subst (λ (m : ℕ). Ran st (reads + 1) m st'' (is_ok taken))
        (sym (b ∙ ap (λ (m : ℕ). (bytes + m) % 2 ^ 64) (sym (length-take-le n input e))))
        (further w t)

    pub reading-ends : st''.reading.machine.stopped ≡ true → RanOut st st'' bytes'
    reading-ends h = record { reads = reads + 1; going = is_ok taken; ran = then_ran; most = λ f. absurd (true≢false (sym h ∙ f)) }

    pub reading_on : st''.reading.machine.stopped ≡ false → Ran st (reads + 1) bytes' st'' true
    reading_on h =
        let go : is_ok taken ≡ true = going_on _ (is_ok taken) (sym (ap (λ (s : State (List ℕ)). s.reading.machine.stopped) t.block.took.state) ∙ h) in
        subst (Ran st (reads + 1) bytes' st'') go then_ran

pub fresh-ready : (area : List ℕ) → Ready (fresh area)
fresh-ready area =
    record {
      roomy = record { for_sets = omega arith; for_sources = omega arith; for_dependencies = omega arith; for_hosts = omega arith };
      for_starts = omega arith;
      atoms = omega arith;
      entries = omega arith;
    }
