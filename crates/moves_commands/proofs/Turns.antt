-- What the commands after the load do to the state, and what is said at the end. Assumes nothing.
use Rattle.std.proofs.Common.{◌≡◌, refl, sym, ap, ◌∙◌, Bool, true, false, cond, not, ◌&&◌, Result, Ok, Err, ℕ, ◌+◌, ◌-◌, ◌<◌, ◌≤◌, List, [], ◌++◌, leb, length, take, length-take-le, arith}
use Rattle.std.specs.Prelude.{is_some}
use borrow.Rule.Slice.PartMut.{post_of}
use Rattle.std.specs.Result.{is_err}
use Rattle.std.proofs.lemmas.Bool.{lt-leb}
use Rattle.graphs.specs.Tab.{tab, tab-length, tab_alike}
use Rattle.layout.specs.Patch.{patch, patch_long}
use Rattle.layout.specs.Lent.{put-patch}
use Rattle.refusals.specs.declared.Refusal.{Refusal}
use Rattle.move_ledger.specs.Answer.{Answer, is_refused}
use Rattle.reduced_chunk_graph.specs.Answers.{of_load}
use Rattle.reduced_chunk_graph.specs.declared.Verdict.{Verdict}
use Rattle.reduced_chunk_graph.specs.declared.Verdict.TheVariants.{Acyclic, Cyclic}
use Rattle.moves_load_commands.specs.declared.Machine.{Machine}
use Rattle.moves_load_commands.specs.Machine.{start}
use Rattle.moves_load_commands.proofs.Lists.{start_take}
use Rattle.moves_replies.specs.Words.{load_reply}
use Rattle.moves_load_commands.specs.declared.Reading.{Reading}
use Rattle.moves_commands.specs.Program.{State, areas, lent, begun, load, finish, refusal_line}
use Rattle.moves_commands.specs.Fits.{Fits}
use Rattle.moves_commands.specs.Feed.{finished}

-- a verdict that is an error is a refusal
pub err_refused : (r : Result Verdict Refusal) → is_err r ≡ is_refused (of_load r)
err_refused (Ok Acyclic) = refl
err_refused (Ok Cyclic) = refl
err_refused (Err e) = refl

-- nothing is said at the end without room for it, by a program that has stopped, and where no command is cut
pub unsaid_short : (m : Machine) (room : ℕ) → room < 64 → [] ≡ finished m room
unsaid_short m room h = rw (lt-leb 64 room h) refl

pub unsaid_stopped : (m : Machine) (room : ℕ) → m.stopped ≡ true → [] ≡ finished m room
unfolding finish
unsaid_stopped m room e = rw e (none (leb 64 room))
  where
    none : (t : Bool) → ◌≡◌ {A = List ℕ} [] (cond t [] [])
    none true = refl
    none false = refl

pub unsaid_done : (m : Machine) (room : ℕ) → is_some m.command ≡ false → [] ≡ finished m room
unfolding finish
unsaid_done m room e = rw e (go (leb 64 room) m.stopped)
  where
    go : (t u : Bool) → [] ≡ cond t (cond (not u && false) refusal_line []) []
    go false u = refl
    go true true = refl
    go true false = refl

-- the starts in use are set
pub starts_set : (sources starts : List ℕ) {new : List ℕ} (e n : ℕ) → e ≤ length sources → n ≤ length starts → new ≡ tab (start (take e sources) (length (take e sources))) (length (take n starts))
    → new ++ post_of 0 n starts ≡ patch 0 (tab (start sources e) n) starts
starts_set sources starts {new} e n h b q =
    let t : new ≡ tab (start sources e) n = q ∙ ap (tab (start (take e sources) (length (take e sources)))) (length-take-le n starts b) ∙ tab_alike _ _ n (λ k z. start_take sources e k h) in
    let z : n - 0 ≡ n = omega arith in
    ap (λ (k : ℕ). new ++ post_of 0 k starts) (sym z) ∙ put-patch 0 n starts new (omega arith) b (omega (arith, ap length t, tab-length (start sources e) n)) ∙ ap (λ (u : List ℕ). patch 0 u starts) t

-- with the starts set the lists have as much room
pub started_fits : {s : Reading} {starts starts' : List ℕ} (l : List ℕ) → Fits s starts → starts' ≡ patch 0 l starts → Fits s starts'
started_fits l f e = rw e (record { roomy = f.roomy; for_starts = simp patch_long f.for_starts; atoms = f.atoms; entries = f.entries })

-- the load, once the starts are set
module _ (s : Reading) (starts area : List ℕ) {starts' : List ℕ} {a : Answer} (e₁ : starts' ≡ patch 0 (tab (start s.sources s.machine.entries) (s.machine.atoms + 1)) starts)
    (e₂ : a ≡ (areas.new (lent s starts') (take s.machine.atoms s.sets) area).answer) where
  pub load_reply_is : load_reply a ≡ (load areas (record { reading = s; starts = starts; graph = area })).reply
  unfolding load
  load_reply_is = rw (e₂, e₁) refl

  pub load_after : {area' : List ℕ} {b : Bool} → area' ≡ (areas.new (lent s starts') (take s.machine.atoms s.sets) area).graph → b ≡ is_refused a
      → ◌≡◌ {A = State (List ℕ)} (record { reading = record s { machine = begun s.machine b }; starts = starts'; graph = area' }) (load areas (record { reading = s; starts = starts; graph = area })).after
  unfolding load
  load_after f g = rw (g, f, e₂, e₁) refl
