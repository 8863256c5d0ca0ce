-- What the turns of the program's loop do. Assumes nothing.
use Rattle.std.specs.Prelude.{◌≡◌, ℕ, ◌+◌, ◌-◌, ◌%◌, ◌^◌, ◌<◌, ◌≤◌, Bool, true, false, cond, Result, Ok, Err, is_ok, List, [], ◌++◌, length, take, drop, slice_index, refl}
use Rattle.std.proofs.Common.{sym, ap, ◌∙◌, true≢false, arith, length-drop, length-append, length-take-le, take-add, take-take, get_or-take, ext_get_or}
use Rattle.std.proofs.Math.Seq.{take-length}
use Rattle.layout.specs.Patch.{patch, patch_in}
use Rattle.moves_replies.specs.Room.{Put}
use Rattle.moves_load_commands.specs.Machine.{halt}
use Rattle.moves_commands.specs.Program.{State, with_machine, finish}
use Rattle.moves_commands.specs.declared.Fed.{Fed}
use Rattle.moves.specs.Bytes.{after, said, after_append}

-- the state, stopped where the program doesn't go on: at the end of the input, or because its replies can't be written
abbrev pub stopping : Bool → State (List ℕ) → State (List ℕ)
stopping going st = cond going st (with_machine st (halt st.reading.machine))

-- a text stands at the start of a list
abbrev pub StartsWith : List ℕ → List ℕ → Type 0
StartsWith text l = take (length text) l ≡ text

pub put_starts : {text l l' : List ℕ} {n : ℕ} → Put text l 0 l' n → StartsWith text l'
put_starts {text} {l} {l'} {n} p =
    let fits : length text ≤ length l' = omega (arith, p.end, p.inside, p.long) in
    ext_get_or 0 (take (length text) l') text (length-take-le (length text) l' fits)
    (λ i h. get_or-take (length text) l' i 0 (omega (arith, h, length-take-le (length text) l' fits)) ∙ ap (λ (u : List ℕ). slice_index u i) p.written ∙ cell i (omega (arith, h, length-take-le (length text) l' fits)))
  where
    cell : (i : ℕ) → i < length text → slice_index (patch 0 text l) i ≡ slice_index text i
    cell i h = let e : 0 + i ≡ i = omega arith in rw e at (patch_in 0 text l i h (omega (arith, p.end, p.inside)))

-- and is what is written from there
pub put-taken : {text l l' : List ℕ} {n : ℕ} → Put text l 0 l' n → take n l' ≡ text
put-taken {text} {l} {l'} {n} p = let e : n ≡ length text = omega (arith, p.end) in rw e (put_starts p)

-- the first `used` bytes of the input are taken, each once and in order
pub record Took (st : State (List ℕ)) (input : List ℕ) (st' : State (List ℕ)) (used : ℕ) (going : Bool) : Type 0 where
  pub inside : used ≤ length input
  pub state : st' ≡ stopping going (after st (take used input))

-- what a turn used, and how many bytes of replies it wrote; Ok where they could be written, so that the program goes on
abbrev pub fed_of : Result Fed Fed → Fed
fed_of (Ok f) = f
fed_of (Err f) = f

-- a turn: at least one byte is taken, and the first `written` bytes of what is lent for replies are the replies to those taken
pub record Answered (st : State (List ℕ)) (input : List ℕ) (st' : State (List ℕ)) (turn : Result Fed Fed) (out : List ℕ) : Type 0 where
  pub took : Took st input st' (fed_of turn).used (is_ok turn)
  pub some : 0 < (fed_of turn).used
  pub text : take (fed_of turn).written out ≡ said st (take (fed_of turn).used input)

-- how many bytes of a block are taken: all of them, or so many as before the replies couldn't be written
abbrev pub used_of : List ℕ → Result (Unit {0}) ℕ → ℕ
used_of input (Ok u) = length input
used_of input (Err used) = used

-- a block: all of its bytes are taken, unless replies can't be written
pub record TookAll (st : State (List ℕ)) (input : List ℕ) (st' : State (List ℕ)) (taken : Result (Unit {0}) ℕ) : Type 0 where
  pub took : Took st input st' (used_of input taken) (is_ok taken)
  pub some : 0 < length input → 0 < used_of input taken

-- a read: its bytes are taken as a block; where there are none the program ends, with the last reply
pub record TookRead (st : State (List ℕ)) (input : List ℕ) (st' : State (List ℕ)) (taken : Result (Unit {0}) ℕ) (out : List ℕ) : Type 0 where
  pub block : TookAll st input st' taken
  pub last : length input ≡ 0 → (is_ok taken ≡ false) × StartsWith (finish st.reading.machine) out

-- so many reads, one after the other, and how many bytes they gave, modulo 2^64; which bytes is for the system's `read` to say
pub data Ran (st : State (List ℕ)) : ℕ → ℕ → State (List ℕ) → Bool → Type 0 where
  begun : Ran st 0 0 st true
  further : {reads bytes : ℕ} {st' st'' : State (List ℕ)} {input out : List ℕ} {taken : Result (Unit {0}) ℕ} → Ran st reads bytes st' true → TookRead st' input st'' taken out
      → Ran st (reads + 1) ((bytes + length input) % 2 ^ 64) st'' (is_ok taken)

-- the program's end: it reads until its machine has stopped, 2^63 times at most
pub record RanOut (st st' : State (List ℕ)) (bytes : ℕ) : Type 0 where
  pub reads : ℕ
  pub going : Bool
  pub ran : Ran st reads bytes st' going
  pub most : st'.reading.machine.stopped ≡ false → reads ≡ 2 ^ 63

-- a turn after others: the bytes used of the rest are the next ones of the whole
pub took_on : {st st' st'' : State (List ℕ)} {input : List ℕ} {at used : ℕ} {going : Bool} → at ≤ length input → st' ≡ after st (take at input)
    → Took st' (take (length input - at) (drop at input)) st'' used going → Took st input st'' (at + used) going
took_on {st} {st'} {st''} {input} {at} {used} {going} h e t =
    let rest : ℕ = length input - at in
    let long : length (take rest (drop at input)) ≡ rest = length-take-le rest (drop at input) (simp length-drop (omega arith)) in
    record {
      inside = omega (arith, h, t.inside, long);
      state =
          t.state
          ∙ ap (λ (s : State (List ℕ)). stopping going s)
          (ap (λ (s : State (List ℕ)). after s (take used (take rest (drop at input)))) e
          ∙ ap (λ (u : List ℕ). after (after st (take at input)) u) (take-take used rest (drop at input) (omega (arith, t.inside, long)))
          ∙ sym (after_append (take at input) (take used (drop at input)) st)
          ∙ ap (λ (u : List ℕ). after st u) (sym (take-add at used input)));
    }

-- a read that the program goes on from was taken whole
goes-whole : (taken : Result (Unit {0}) ℕ) {st st' : State (List ℕ)} {input out : List ℕ} → is_ok taken ≡ true → TookRead st input st' taken out → st' ≡ after st input
goes-whole (Ok u) {st} {st'} {input} e t = t.block.took.state ∙ ap (λ (u : List ℕ). after st u) (take-length input)
goes-whole (Err used) e t = absurd (true≢false (sym e))

-- while the program goes on, its state is the one after as many bytes as the reads gave
pub record AllTaken (st st' : State (List ℕ)) (bytes : ℕ) : Type 0 where
  pub taken : List ℕ
  pub state : st' ≡ after st taken
  pub many : bytes ≡ length taken % 2 ^ 64

pub ran_all : {st st' : State (List ℕ)} {reads bytes : ℕ} {going : Bool} → Ran st reads bytes st' going → going ≡ true → AllTaken st st' bytes
unfolding after
ran_all begun e = record { taken = []; state = refl; many = refl }
ran_all {st} (further {input = input} {taken = taken} w t) e =
    let a = ran_all w refl in
    record {
      taken = a.taken ++ input;
      state = goes-whole taken e t ∙ ap (λ (s : State (List ℕ)). after s input) a.state ∙ sym (after_append a.taken input st);
      many = rw length-append (omega (arith, a.many));
    }
