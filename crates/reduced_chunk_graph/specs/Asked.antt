-- What a question about a move graph answers, row by row, on an area that no earlier row turns back. Assumes nothing.
use Rattle.std.specs.Prelude.{ℕ, ◌+◌, ◌*◌, ◌≤◌, ◌<◌, ◌≡◌, Bool, ◌&&◌, List, Result, Ok, Err, length}
use native.Mathlib.Omega.{arith}
use Rattle.std.proofs.Math.Path.{refl, sym, ap, ap₂}
use Rattle.std.proofs.Common.{◌∙◌, le-leb}
use Rattle.std.proofs.Math.Bool.{true, false, cond}
use Rattle.std.proofs.Math.ListN.{get_or}
use Rattle.std.proofs.lemmas.Bool.{lt-leb}
use Rattle.std.proofs.lemmas.Result.{err_from_is_err_and}
use Rattle.std.specs.Result.{IsErrAnd}
use Rattle.layout.specs.Patch.{part_long, part_at}
use Rattle.graphs.specs.Walk.{cyclic}
use Rattle.entry_set.specs.Sets.{value, words, legal, numbers, number, Holds}
use Rattle.entry_set.specs.SetLaws.{holds-numbers}
use Rattle.entry_set.specs.Lanes.{lanes}
use Rattle.entry_set.specs.declared.EntrySet.{EntrySet}
use Rattle.move_ledger.specs.Graph.{Load, at, members, mult, rising, edge, edges}
use Rattle.move_ledger.specs.Answer.{Answer, refused}
use Rattle.move_ledger.specs.Answer as answer
use Rattle.move_ledger.specs.Ledger.{Question, atom_set, atom_count, multiplicity, edge_count, chunk_count, edge_at, has_cycle, kth, ask}
use Rattle.move_ledger.specs.LoadLaws.{Loadable}
use Rattle.move_ledger.proofs.LoadLaws.{refusal-none}
use Rattle.move_ledger.specs.NodeLaws.{placed_at}
use Rattle.move_area.specs.Area.{sets_in, decode}
use Rattle.move_area.specs.Bodies.{lane_at, atom_at}
use Rattle.move_area.specs.Calls.{asked}
use Rattle.move_area.specs.Checked.{nodes_in, sets-at, consistent_ranged, consistent_worked}
use Rattle.move_questions.specs.Answers.{place_in, set_of, CanReadSet, Checked}
use Rattle.move_verdict.specs.Verdict.{CanSearch}
use Rattle.move_rows.specs.Later.{later, turned-back, goes_on, later-legal, later-consistent}
use Rattle.refusals.specs.Rows.{row}
use Rattle.refusals.specs.declared.Refusal.{Refusal}

-- the set that a list lends, where it is legal; else row 11
abbrev pub SetTold : ℕ → List ℕ → Result EntrySet Refusal → Type 0
SetTold e bits (Ok set) = (legal e bits ≡ true) × Holds (value bits) set
SetTold e bits (Err r) = (legal e bits ≡ false) × (row r ≡ 11)

-- what `?` hands on: the same refusal
pub handed_on : {T : Type 0} {result : Result T Refusal} (of : Result T Refusal → Answer) (r : Refusal) → ((x : Refusal) → of (Err x) ≡ refused (row x)) → IsErrAnd result (λ x. x ≡ r) → of result ≡ refused (row r)
handed_on {result = result} of r f e = let p = err_from_is_err_and result e in ap of p.1 ∙ f p.0 ∙ ap (λ x. refused (row x)) p.2

module _ (load : Load) (fixed : List ℕ) (N : ℕ) (area : List ℕ) where
  -- q is the first of the rows 1 to 6 and 9 that fits: it turns a question back
  pub asked-back : {q : ℕ} → q ≡ later load fixed N area → (q ≡ 0 → ⊥) → (x : Question) → refused q ≡ asked load fixed N area x
  unfolding asked
  asked-back first h x = ap refused first ∙ sym (turned-back load fixed N area (λ z. h (first ∙ z)) _)

  -- or none fits
  module _ (none : 0 ≡ later load fixed N area) where
    pub asked_on : (x : Question) → ask load (place_in load N area) x ≡ asked load fixed N area x
    unfolding asked
    asked_on x = sym (goes_on load fixed N area (sym none) _)

    pub loads : Loadable load N true (length area)
    loads = refusal-none load fixed N (length area) (later-legal load fixed N area (sym none))

    pub checks : Checked load N area (get_or area (N * N) 0)
    checks =
        let room : atom_at N + load.A ≤ length area = omega (arith, loads.sizes.area) in
        record {
          loadable = loads;
          ranged = consistent_ranged load N area loads.order loads.sizes.sets room (later-consistent load fixed N area (sym none));
          worked = consistent_worked load N area loads.order loads.sizes.sets room (later-consistent load fixed N area (sym none));
          sets = refl;
        }

    -- row 10
    pub set_ten : (i : ℕ) → load.A ≤ i → refused 10 ≡ asked load fixed N area (atom_set i)
    unfolding ask
    set_ten i h = sym (ap (λ t. cond t (refused 10) (answer.set (words 4 (at (place_in load N area) i)))) (le-leb load.A i h)) ∙ asked_on (atom_set i)

    module _ (i : ℕ) (b : i < load.A) where
      node_below : get_or area (atom_at N + i) 0 < get_or area (N * N) 0
      node_below = checks.ranged.nodes i b

      pub can_read-set : CanReadSet area N i
      can_read-set = record { room = omega (arith, loads.sizes.area); node = omega (arith, node_below, checks.ranged.few) }

      set_is : at (place_in load N area) i ≡ set_of area N i
      unfolding decode
      set_is =
          let e : lane_at N 0 + get_or area (atom_at N + i) 0 ≡ N * N + 24 + get_or area (atom_at N + i) 0 = omega arith in
          placed_at (nodes_in load N area) (sets_in N area) i (omega (arith, part_long (atom_at N) load.A area))
          ∙ ap (at (sets_in N area)) (part_at (atom_at N) load.A area i b) ∙ sets-at N area _ node_below ∙ ap (λ k. lanes area k N) e

      pub set_told : {s : EntrySet} → Holds (set_of area N i) s → answer.set (numbers s) ≡ asked load fixed N area (atom_set i)
      unfolding ask
      set_told h =
          ap answer.set (holds-numbers h ∙ sym (ap (words 4) set_is))
          ∙ sym (ap (λ t. cond t (refused 10) (answer.set (words 4 (at (place_in load N area) i)))) (lt-leb load.A i b)) ∙ asked_on (atom_set i)

    pub checks_known : {known : ℕ} → known ≡ get_or area (N * N) 0 → Checked load N area known
    checks_known e = record { loadable = checks.loadable; ranged = checks.ranged; worked = checks.worked; sets = e }

    pub checks_some : {known : ℕ} → known ≡ get_or area (N * N) 0 → (load' : Load) × Checked load' N area known
    checks_some e = (load, checks_known e)

    pub head-inside : N * N < length area
    head-inside = omega (arith, loads.sizes.area)

    -- and so are the totals
    pub totals_inside : N * N + 5 ≤ length area
    totals_inside = omega (arith, loads.sizes.area)

    -- a set's atom count, or row 11
    module _ (s : List ℕ) where
      one : Bool → Answer
      one t = cond t (answer.number (members load (place_in load N area) (value s))) (refused 11)

      one_told : {t : Bool} → legal load.E s ≡ t → one t ≡ asked load fixed N area (atom_count s)
      unfolding ask one
      one_told e = ap one (sym e) ∙ asked_on (atom_count s)

      pub count_eleven : legal load.E s ≡ false → refused 11 ≡ asked load fixed N area (atom_count s)
      unfolding one
      count_eleven e = one_told e

      pub count-told : {set : EntrySet} → SetTold load.E s (Ok set) → {known count k : ℕ} → known ≡ get_or area (N * N) 0
          → ((load' : Load) → Checked load' N area known → count ≡ members load' (place_in load' N area) (number set)) → k ≡ count
          → answer.number k ≡ asked load fixed N area (atom_count s)
      unfolding one
      count-told e r f z = ap answer.number (z ∙ f load (checks_known r) ∙ ap (members load (place_in load N area)) e.1.value) ∙ one_told e.0

    -- the multiplicity between two sets, or row 11 for one of them
    module _ (s t : List ℕ) where
      both : Bool → Bool → Answer
      both x y = cond (x && y) (answer.number (mult load (place_in load N area) (value s) (value t))) (refused 11)

      both_told : {x y : Bool} → legal load.E s ≡ x → legal load.E t ≡ y → both x y ≡ asked load fixed N area (multiplicity s t)
      unfolding ask both
      both_told {x} {y} e f = ap (λ u. both u y) (sym e) ∙ ap (both (legal load.E s)) (sym f) ∙ asked_on (multiplicity s t)

      pub from_eleven : legal load.E s ≡ false → refused 11 ≡ asked load fixed N area (multiplicity s t)
      unfolding both
      from_eleven e = both_told e refl

      pub to_eleven : legal load.E s ≡ true → legal load.E t ≡ false → refused 11 ≡ asked load fixed N area (multiplicity s t)
      unfolding both
      to_eleven e f = both_told e f

      module _ {from : EntrySet} (source : SetTold load.E s (Ok from)) where
        pub multiplicity_told : {to : EntrySet} → SetTold load.E t (Ok to) → {known count k : ℕ} → known ≡ get_or area (N * N) 0
            → ((load' : Load) → Checked load' N area known → count ≡ mult load' (place_in load' N area) (number from) (number to)) → k ≡ count
            → answer.number k ≡ asked load fixed N area (multiplicity s t)
        unfolding both
        multiplicity_told e r m z =
            ap answer.number (z ∙ m load (checks_known r) ∙ ap₂ (mult load (place_in load N area)) source.1.value e.1.value)
            ∙ both_told source.0 e.0

    -- questions that no row of their own refuses
    pub edges-told : (k : ℕ) → k ≡ length (edges load (place_in load N area)) → answer.number k ≡ asked load fixed N area edge_count
    unfolding ask
    edges-told k e = ap answer.number e ∙ asked_on edge_count

    pub chunks_told : (k : ℕ) → k ≡ length (rising (place_in load N area)) → answer.number k ≡ asked load fixed N area chunk_count
    unfolding ask
    chunks_told k e = ap answer.number e ∙ asked_on chunk_count

    pub edge-told : (k : ℕ) (x : Answer) → x ≡ kth (edges load (place_in load N area)) k → x ≡ asked load fixed N area (edge_at k)
    unfolding ask
    edge-told k x e = e ∙ asked_on (edge_at k)

    pub can_search : CanSearch load N area
    can_search = record { loadable = checks.loadable; ranged = checks.ranged }

    pub verdict-told : {t : Bool} → t ≡ cyclic (edge load (place_in load N area)) (place_in load N area) → cond t answer.cyclic answer.acyclic ≡ asked load fixed N area has_cycle
    unfolding ask
    verdict-told e = ap (λ u. cond u answer.cyclic answer.acyclic) e ∙ asked_on has_cycle
