-- Two finders of cycles, one verdict. Assumes nothing.
use Rattle.std.specs.Prelude.{ℕ, ◌+◌, ◌*◌, ◌≡◌, refl, ◌↔◌, Bool, true, false, not, eqb, length, get_or}
use Rattle.std.proofs.Common.{sym, ◌∙◌, true≢false}
use Rattle.std.proofs.Math.Path.{ap}
use Rattle.std.proofs.Math.Bool.{cond}
use mathlib.Core.List.{List}
use Rattle.graphs.specs.Count.{ind}
use Rattle.graphs.specs.Lists.{has}
use Rattle.graphs.specs.Walk.{Walk, cyclic}
use Rattle.graphs.specs.Walks.{cyclic_walk, acyclic_walk}
use Rattle.move_ledger.specs.Graph.{Load, edge}
use Rattle.move_ledger.proofs.GraphLaws.{edge-source}
use Rattle.move_ledger.specs.Answer.{Answer, refused, acyclic, accepted, rejected, number, none, is_refused}
use Rattle.move_ledger.specs.Answer as answer
use Rattle.move_ledger.specs.Ledger.{has_cycle, ask}
use Rattle.move_ledger.specs.Loading.{refusal, loading, loading_row, entry_sets}
use Rattle.move_area.specs.Area.{State, bodies, encode, decode}
use Rattle.move_area.specs.BodyLaws.{read_acyclic}
use Rattle.move_area.specs.Held.{bodies-sized}
use Rattle.move_area.specs.Fixed.{checks_out}
use Rattle.move_area.specs.Calls.{new, asked}
use Rattle.move_area.specs.History.{Holding, holding_decode, holding_checked, loading-holds}
use Rattle.demands.specs.Areas.{holding}
use Rattle.demands.specs.Demand2.{no_cycle}

-- both give one verdict, and both are held to the definition by closed walks: `first` is what the first finder says of the placement, `second` what
-- the book's does
pub record OneVerdict (load : Load) (place : List ℕ) (first second : Answer) : Type 0 where
  pub same : first ≡ second
  pub cyclic_exactly : (second ≡ answer.cyclic) ↔ ((X : ℕ) × Walk (edge load place) X X)
  pub acyclic_exactly : (second ≡ acyclic) ↔ no_cycle load place

-- the first finder's verdict as an area keeps it: its acyclic flag, which row 9 holds to that finder at every later call
abbrev pub kept_verdict : ℕ → List ℕ → Answer
kept_verdict N area = cond (eqb (get_or area (N * N + 2) 0) 0) answer.cyclic acyclic

is_cyclic : Answer → Bool
is_cyclic (refused n) = false
is_cyclic acyclic = false
is_cyclic answer.cyclic = true
is_cyclic (accepted r) = false
is_cyclic rejected = false
is_cyclic (answer.set s) = false
is_cyclic (number n) = false
is_cyclic (answer.edge e) = false
is_cyclic none = false

-- a verdict by a test
says-cyclic : (b : Bool) → (cond b answer.cyclic acyclic ≡ answer.cyclic) ↔ (b ≡ true)
unfolding is_cyclic
says-cyclic true = (λ e. refl, λ e. refl)
says-cyclic false = (λ e. absurd (true≢false (sym (ap is_cyclic e))), λ e. absurd (true≢false (sym e)))

says_acyclic : (b : Bool) → (cond b answer.cyclic acyclic ≡ acyclic) ↔ (b ≡ false)
unfolding is_cyclic
says_acyclic true = (λ e. absurd (true≢false (ap is_cyclic e)), λ e. absurd (true≢false e))
says_acyclic false = (λ e. refl, λ e. refl)

flag-verdict : (b : Bool) → cond (eqb (ind (not b)) 0) answer.cyclic acyclic ≡ cond b answer.cyclic acyclic
flag-verdict true = refl
flag-verdict false = refl

-- both are the test for a closed walk
judged : (load : Load) (place : List ℕ) → length place ≡ load.A → {first second : Answer} → first ≡ cond (cyclic (edge load place) place) answer.cyclic acyclic
    → second ≡ cond (cyclic (edge load place) place) answer.cyclic acyclic → OneVerdict load place first second
judged load place long e f =
    let b = cyclic (edge load place) place in
    let from : (X Y : ℕ) → edge load place X Y ≡ true → has X place ≡ true = edge-source load place long in
    let w = cyclic_walk (edge load place) place from in
    let v = acyclic_walk (edge load place) place from in
    record {
      same = e ∙ sym f;
      cyclic_exactly = (λ x. w.0 ((says-cyclic b).0 (sym f ∙ x)), λ y. f ∙ (says-cyclic b).1 (w.1 y));
      acyclic_exactly = (λ x. v.0 ((says_acyclic b).0 (sym f ∙ x)), λ y. f ∙ (says_acyclic b).1 (v.1 y));
    }

module _ {load : Load} {fixed : List ℕ} {N : ℕ} {area : List ℕ} {st : State} (h : Holding load fixed N area st) where
  answered : asked load fixed N area has_cycle ≡ cond (cyclic (edge load st.ledger.place) st.ledger.place) answer.cyclic acyclic
  unfolding asked ask
  answered = holding_checked h _ ∙ ap (λ (u : State). ask load u.ledger.place has_cycle) (holding_decode h)

  kept : kept_verdict N area ≡ cond (cyclic (edge load st.ledger.place) st.ledger.place) answer.cyclic acyclic
  unfolding bodies encode
  kept =
      ap (λ (u : List ℕ). kept_verdict N u) (sym h.whole)
      ∙ ap (λ k. cond (eqb k 0) answer.cyclic acyclic) (read_acyclic N load.A (bodies load N st) (bodies-sized h.held) area h.room)
      ∙ flag-verdict (cyclic (edge load st.ledger.place) st.ledger.place)

told : (load : Load) (fixed : List ℕ) (N : ℕ) (sets area : List ℕ) → is_refused (new load fixed N sets area).answer ≡ false
    → (new load fixed N sets area).answer ≡ cond (cyclic (edge load (entry_sets load sets)) (entry_sets load sets)) answer.cyclic acyclic
unfolding new loading
told load fixed N sets area = go (eqb (loading_row load fixed N sets (length area)) 0) (cond (cyclic (edge load (entry_sets load sets)) (entry_sets load sets)) answer.cyclic acyclic)
  where
    go : (t : Bool) (x : Answer) → is_refused (cond t x (refused (loading_row load fixed N sets (length area)))) ≡ false → cond t x (refused (loading_row load fixed N sets (length area))) ≡ x
    go true x e = refl
    go false x e = absurd (true≢false e)

-- on every load: what loading answers is what the book's finder says right after it
pub one_verdict-loading : (load : Load) (fixed : List ℕ) (N : ℕ) (sets area : List ℕ) → is_refused (new load fixed N sets area).answer ≡ false
    → OneVerdict load (entry_sets load sets) (new load fixed N sets area).answer (asked load fixed N (new load fixed N sets area).area has_cycle)
one_verdict-loading load fixed N sets area u =
    let h = loading-holds load fixed N sets area u in
    judged load (entry_sets load sets) h.held.sound.atoms (told load fixed N sets area u) (answered h)

-- and placement within the limits: on every area that no row from 1 to 9 turns back
pub one_verdict : (load : Load) (fixed : List ℕ) (N : ℕ) (area : List ℕ) → refusal load fixed N (length area) ≡ 0 → checks_out load fixed N area ≡ true
    → OneVerdict load (decode load N area).ledger.place (kept_verdict N area) (asked load fixed N area has_cycle)
one_verdict load fixed N area q c =
    let h = holding load fixed N area q c in
    judged load (decode load N area).ledger.place h.held.sound.atoms (kept h) (answered h)
