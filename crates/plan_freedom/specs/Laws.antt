-- How the call comes to its answer, and that the counts add up. Assumes nothing.
use Rattle.std.specs.Prelude.{ℕ, ◌+◌, ◌-◌, ◌*◌, ◌^◌, ◌≤◌, ◌<◌, ◌≡◌, refl, Bool, true, false, Ok, List, eqb, length}
use Rattle.std.proofs.Common.{arith, ◌∙◌, true≢false, eqb-true, eq-eqb, ne_eqb}
use Rattle.std.proofs.Math.Path.{sym, ap, subst}
use Rattle.std.proofs.Math.Bool.{cond}
use Rattle.move_ledger.specs.Graph.{Load, at, rising}
use Rattle.move_ledger.specs.Answer.{is_accepted}
use Rattle.move_ledger.specs.LoadLaws.{Loadable}
use Rattle.move_ledger.proofs.LoadLaws.{refusal-none, refusal-marks}
use Rattle.move_ledger.specs.NodeLaws.{placed-length, placed_at}
use Rattle.move_area.specs.Area.{sets_in, decode}
use Rattle.move_area.specs.Bodies.{atom_at}
use Rattle.move_area.specs.Checked.{nodes_in, sets-length, ranged_placing, consistent_ranged, consistent_worked}
use Rattle.move_rows.specs.Later.{later, later-legal, later-consistent}
use Rattle.move_free_walks.specs.HowFree.{is_rejected, is_fixed, pairs, Freedom, how_free}
use Rattle.move_free_walks.specs.Sums.{free-sum}
use Rattle.move_freedom.specs.declared.Counts.{Counts}
use Rattle.move_freedom.specs.Atoms.{place_in, CanFree, Freed}
use Rattle.plan_freedom.specs.Told.{Told, refused, counts, of_freedom, told}

module _ (load : Load) (fixed : List ℕ) (N : ℕ) (area : List ℕ) where
  -- a row turns the call back
  pub told_refused : {q : ℕ} → q ≡ later load fixed N area → (q ≡ 0 → ⊥) → refused q ≡ told load fixed N area
  unfolding told
  told_refused e h = rw (← e, ne_eqb _ 0 h) refl

  -- none does
  module _ (none : later load fixed N area ≡ 0) where
    pub loads : Loadable load N true (length area)
    loads = refusal-none load fixed N (length area) (later-legal load fixed N area none)

    room : atom_at N + load.A ≤ length area
    room = omega (arith, loads.sizes.area)

    pub can_free : CanFree load fixed N area
    can_free = record {
      loadable = loads;
      ranged = consistent_ranged load N area loads.order loads.sizes.sets room (later-consistent load fixed N area none);
      worked = consistent_worked load N area loads.order loads.sizes.sets room (later-consistent load fixed N area none);
      marks = refusal-marks load fixed N (length area) (later-legal load fixed N area none);
    }

    told_on : counts (how_free load fixed (decode load N area).ledger.place) ≡ told load fixed N area
    unfolding told
    told_on = sym (ap (λ t. cond t (counts (how_free load fixed (decode load N area).ledger.place)) (refused (later load fixed N area))) (eq-eqb (later load fixed N area) 0 none))

    pub told-counts : {all : Counts} → Freed load fixed (place_in load N area) all → of_freedom (Ok all) ≡ told load fixed N area
    unfolding decode
    told-counts v = rw (v.accepted, v.rejected, v.fixed) told_on

    whole : pairs load fixed (decode load N area).ledger.place is_accepted + pairs load fixed (decode load N area).ledger.place is_rejected + pairs load fixed (decode load N area).ledger.place is_fixed
        ≡ load.A * (length (rising (decode load N area).ledger.place) - 1)
    unfolding decode
    whole =
        let p = ranged_placing loads.sizes.sets can_free.ranged in
        free-sum load fixed (place_in load N area) (placed-length (nodes_in load N area) (sets_in N area) ∙ p.atoms)
        (λ i b.
        subst (λ k. k < 2 ^ load.E) (sym (placed_at (nodes_in load N area) (sets_in N area) i (omega (arith, p.atoms))))
        (can_free.ranged.range (at (nodes_in load N area) i) (omega (arith, p.inside i b, sets-length N area))))

-- the three counts add up to the atoms times one less than the occupied sets, or to 0 without atoms
pub call-sum : (load : Load) (fixed : List ℕ) (N : ℕ) (area : List ℕ) (f : Freedom) → told load fixed N area ≡ counts f
    → f.accepted + f.rejected + f.fixed ≡ load.A * (length (rising (decode load N area).ledger.place) - 1)
unfolding told
call-sum load fixed N area f e = go (eqb (later load fixed N area) 0) refl e
  where
    inner : Told → Freedom
    inner (refused q) = f
    inner (counts g) = g

    is-counts : Told → Bool
    is-counts (refused q) = false
    is-counts (counts g) = true

    go : (t : Bool) → eqb (later load fixed N area) 0 ≡ t → cond t (counts (how_free load fixed (decode load N area).ledger.place)) (refused (later load fixed N area)) ≡ counts f
        → f.accepted + f.rejected + f.fixed ≡ load.A * (length (rising (decode load N area).ledger.place) - 1)
    go true q h =
        subst (λ (g : Freedom). g.accepted + g.rejected + g.fixed ≡ load.A * (length (rising (decode load N area).ledger.place) - 1)) (ap inner h)
        (whole load fixed N area (eqb-true (later load fixed N area) 0 q))
    go false q h = absurd (true≢false (sym (ap is-counts h)))
