-- The program's input block by block: as many bytes are taken as there is room for their replies. Assumes nothing.
use Rattle.std.specs.Prelude.{◌≡◌, cond, leb}
use Rattle.std.proofs.Math.Path.{refl}
use mathlib.Core.List.{List, [], ◌∷◌, ◌++◌}
use Prim.Native.Nat.{ℕ, suc, ◌+◌, ◌-◌, ◌≤◌, ◌<◌}
use native.Mathlib.Omega.{arith}
use Rattle.std.proofs.Math.ListN.{length}
use Rattle.std.proofs.Common.{le-leb}
use Rattle.std.proofs.lemmas.Bool.{lt-leb}
use Rattle.moves_load_commands.specs.declared.Machine.{Machine}
use Rattle.moves_commands.specs.Program.{Graphs, State, step, finish}
use Rattle.moves_commands.specs.Fits.{fits, either}

-- room for the longest reply, a listing of 144 edges
abbrev pub reserve : ℕ
reserve = 10240

-- how many bytes are used, the state after them, and their replies
pub record Fed (G : Type 0) : Type 0 where
  pub used : ℕ
  pub after : State G
  pub written : List ℕ

abbrev pub stay : {G : Type 0} → State G → Fed G
stay st = record { used = 0; after = st; written = [] }

-- n bytes and their replies before others
abbrev pub ahead : {G : Type 0} → ℕ → List ℕ → Fed G → Fed G
ahead n text f = record { used = n + f.used; after = f.after; written = text ++ f.written }

-- the last reply, where there is room for it
abbrev pub finished : Machine → ℕ → List ℕ
finished m room = cond (leb 64 room) (finish m) []

module _ {G : Type 0} (graphs : Graphs G) where
  -- bytes are taken while the room is enough for the longest reply
  unfoldable pub feeding : State G → List ℕ → ℕ → Fed G
  feeding st [] room = stay st
  feeding st (b ∷ bs) room =
      let t = step graphs st b in
      cond (leb reserve room) (ahead 1 t.reply (feeding t.after bs (room - length t.reply))) (stay st)

  -- lists without room for the program's limits take nothing
  unfoldable pub feed : State G → List ℕ → ℕ → Fed G
  feed st input room = cond (fits st.reading st.starts) (feeding st input room) (stay st)

  -- without room nothing is taken, and at the end nothing is left
  pub feeding-full : (st : State G) (input : List ℕ) (room : ℕ) → room < reserve → feeding st input room ≡ stay st
  unfolding feeding
  feeding-full st [] room h = refl
  feeding-full st (b ∷ bs) room h = rw (lt-leb reserve room h) refl

  pub feeding-end : (st : State G) (room : ℕ) → feeding st [] room ≡ stay st
  unfolding feeding
  feeding-end st room = refl

  pub feeding-more : (st : State G) (b : ℕ) (bs : List ℕ) (room : ℕ) → reserve ≤ room
      → feeding st (b ∷ bs) room ≡ ahead 1 (step graphs st b).reply (feeding (step graphs st b).after bs (room - length (step graphs st b).reply))
  unfolding feeding
  feeding-more st b bs room h = rw (le-leb reserve room h) refl

  -- no more bytes are used than there are
  feeding-used : (input : List ℕ) (st : State G) (room : ℕ) → (feeding st input room).used ≤ length input
  unfolding feeding
  feeding-used [] st room = omega arith
  feeding-used (b ∷ bs) st room =
      either (λ (f : Fed G). f.used ≤ suc (length bs)) (leb reserve room) _ _
      (λ e. omega (arith, feeding-used bs (step graphs st b).after (room - length (step graphs st b).reply))) (λ e. omega arith)

  pub feed-used : (st : State G) (input : List ℕ) (room : ℕ) → (feed st input room).used ≤ length input
  unfolding feed
  feed-used st input room =
      either (λ (f : Fed G). f.used ≤ length input) (fits st.reading st.starts) _ _ (λ e. feeding-used input st room) (λ e. omega arith)
