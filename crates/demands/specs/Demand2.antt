-- Demand 2 of the move graph: what an unrefused move answers and leaves. Assumes nothing.
use Rattle.std.specs.Prelude.{ℕ, ◌≡◌, refl, ◌↔◌, Bool, true, false, cond, List, length, set}
use Rattle.std.proofs.Common.{sym, ap, ◌∙◌, true≢false, length-set}
use Rattle.graphs.specs.Lists.{has}
use Rattle.graphs.specs.Walk.{Walk, cyclic}
use Rattle.graphs.specs.Walks.{acyclic_walk}
use Rattle.entry_set.specs.Sets.{value}
use Rattle.move_ledger.specs.Graph.{Load, mult, edge}
use Rattle.move_ledger.proofs.GraphLaws.{edge-source}
use Rattle.move_ledger.specs.Answer.{accepted, rejected, is_refused, is_accepted}
use Rattle.move_ledger.specs.Ledger.{Ledger, Answered, report, decide, move}
use Rattle.move_ledger.proofs.MoveLaws.{decide_exactly, place_after}

-- has no cycle: a cycle is a closed walk of at least one edge
abbrev pub no_cycle : Load → List ℕ → Type 0
no_cycle load place = (X : ℕ) → Walk (edge load place) X X → ⊥

-- the placement with atom a moved to the lent set s
abbrev pub moved : Ledger → ℕ → List ℕ → List ℕ
moved l a s = set l.place a (value s)

-- a move that isn't refused is
pub record Decided (load : Load) (before : Ledger) (a : ℕ) (s : List ℕ) (r : Answered) : Type 0 where
  -- accepted exactly when the moved chunk graph, facade edges included, has no cycle;
  pub exactly : (is_accepted r.answer ≡ true) ↔ no_cycle load (moved before a s)
  pub moves : is_accepted r.answer ≡ true → r.after.place ≡ moved before a s
  -- and otherwise every atom and edge is as before
  pub rejects : is_accepted r.answer ≡ false → r.answer ≡ rejected
  pub atoms_stay : is_accepted r.answer ≡ false → r.after.place ≡ before.place
  pub edges_stay : is_accepted r.answer ≡ false → (X Y : ℕ) → mult load r.after.place X Y ≡ mult load before.place X Y

-- from any ledger that has a set for each atom
pub moved_exactly_acyclic : (load : Load) (fixed : List ℕ) (N : ℕ) (l : Ledger) (a : ℕ) (s : List ℕ) → length l.place ≡ load.A
    → is_refused (move load fixed N l a s).answer ≡ false → Decided load l a s (move load fixed N l a s)
unfolding move
moved_exactly_acyclic load fixed N l a s n u =
    record {
      exactly = (λ h. (acyclic_walk (edge load q) q from).0 (accepts.0 h), λ f. accepts.1 ((acyclic_walk (edge load q) q from).1 f));
      moves = λ h. place_after load fixed N l a s ∙ rw h refl;
      rejects = rejects;
      atoms_stay = stay;
      edges_stay = λ h X Y. ap (λ p. mult load p X Y) (stay h);
    }
  where
    q : List ℕ
    q = moved l a s

    from : (X Y : ℕ) → edge load q X Y ≡ true → has X q ≡ true
    from = edge-source load q (rw length-set n)

    by-graph : decide load fixed l.place a s ≡ cond (cyclic (edge load q) q) rejected (accepted (report load l.place q (value s)))
    by-graph = decide_exactly load fixed l.place a s n u

    accepts : (is_accepted (decide load fixed l.place a s) ≡ true) ↔ (cyclic (edge load q) q ≡ false)
    accepts = rw by-graph (go (cyclic (edge load q) q))
      where
        go : (t : Bool) → (is_accepted (cond t rejected (accepted (report load l.place q (value s)))) ≡ true) ↔ (t ≡ false)
        go true = (λ h. absurd (true≢false (sym h)), λ h. absurd (true≢false h))
        go false = (λ h. refl, λ h. refl)

    rejects : is_accepted (decide load fixed l.place a s) ≡ false → decide load fixed l.place a s ≡ rejected
    rejects = rw by-graph (go (cyclic (edge load q) q))
      where
        go : (t : Bool) → is_accepted (cond t rejected (accepted (report load l.place q (value s)))) ≡ false → cond t rejected (accepted (report load l.place q (value s))) ≡ rejected
        go true h = refl
        go false h = absurd (true≢false h)

    stay : is_accepted (decide load fixed l.place a s) ≡ false → (move load fixed N l a s).after.place ≡ l.place
    stay h = place_after load fixed N l a s ∙ rw h refl
