-- Theorems on the definitions of specs/Fewer: they stand here, so that the crate can be read with a definition changed. Assumes nothing.
use Rattle.std.specs.Prelude.{ℕ, ◌<◌, ◌≡◌, refl, true, false, not, List, leb, length, set}
use Rattle.std.proofs.Common.{sym, ap, subst, ◌∙◌, true≢false, length-set}
use Rattle.std.proofs.lemmas.Bool.{not-true}
use Rattle.graphs.specs.Bools.{and_left, and_right, fails}
use Rattle.graphs.specs.Walk.{Walk, one, more, cyclic}
use Rattle.graphs.specs.Walks.{acyclic_walk}
use Rattle.entry_set.specs.Sets.{value, legal}
use Rattle.move_ledger.specs.Graph.{Load, at, lies, edge}
use Rattle.move_ledger.specs.GraphLaws.{Why, by_entry, by_facade, entry-lies, lies-entry, lies_atom, lies-set, lies_in, occupied-by, occupy}
use Rattle.move_ledger.proofs.GraphLaws.{edge_why, why_edge, edge-source, outside-stays}
use Rattle.move_ledger.specs.Answer.{is_accepted}
use Rattle.move_ledger.specs.Ledger.{step1, decide}
use Rattle.move_ledger.proofs.MoveLaws.{decide_accepted, decide-late}
use Rattle.demands.specs.Fewer.{Fewer}

module _ {few all : Load} (f : Fewer few all) (p : List ℕ) where
  lies-all : (X i : ℕ) → lies few p i X ≡ true → lies all p i X ≡ true
  lies-all X i h = lies_in all p X i (subst (λ n. i < n) f.atoms (lies_atom few p X i h)) (lies-set few p X i h)

  edge-all : (X Y : ℕ) → edge few p X Y ≡ true → edge all p X Y ≡ true
  edge-all X Y h = let r = edge_why few p X Y h in why_edge all p X Y r.0 (go r.1)
    where
      go : Why few p X Y → Why all p X Y
      go (by_entry k l t) =
          let r = entry-lies few p X Y k t in
          let j = f.entries k l in
          by_entry j.0 j.1 (lies-entry all p X Y j.0
          (subst (λ i. lies all p i X ≡ true) (sym j.2) (lies-all X _ r.0)) (subst (λ i. lies all p i Y ≡ true) (sym j.3) (lies-all Y _ r.1)))
      go (by_facade e l t) =
          let r = occupied-by few p X t.here in
          by_facade e (subst (λ n. e < n) f.bits l)
          (record {
            bit = t.bit;
            here = occupy all p X r.0 (subst (λ n. r.0 < n) f.atoms r.1) r.2;
            hosted = λ q. t.hosted (ap (λ h. at h e) f.hosts ∙ q);
            there = subst (λ h. lies all p (at h e) Y ≡ true) f.hosts (lies-all Y _ t.there);
          })

  walk_all : {X Y : ℕ} → Walk (edge few p) X Y → Walk (edge all p) X Y
  walk_all (one h) = one (edge-all _ _ h)
  walk_all (more h w) = more (edge-all _ _ h) (walk_all w)

  acyclic_fewer : length p ≡ all.A → cyclic (edge all p) p ≡ false → cyclic (edge few p) p ≡ false
  acyclic_fewer n h =
      (acyclic_walk (edge few p) p (edge-source few p (n ∙ sym f.atoms))).1 (λ X w. (acyclic_walk (edge all p) p (edge-source all p n)).0 h X (walk_all w))

-- at one placement of one load, leaving out some dependency entries never turns an accepted move into a rejected one: it stays accepted
pub accepted_stays : (few all : Load) (fixed place : List ℕ) (a : ℕ) (s : List ℕ) → Fewer few all → length place ≡ all.A
    → is_accepted (decide all fixed place a s) ≡ true → is_accepted (decide few fixed place a s) ≡ true
accepted_stays few all fixed place a s f n h =
    let x = decide_accepted all fixed place a s h in
    let moved : List ℕ = set place a (value s) in
    let c : cyclic (edge few moved) moved ≡ false = acyclic_fewer f moved (length-set place a (value s) ∙ n) x.no_cycle in
    let i : step1 few place a ≡ false = fails (step1 few place a) (λ h. true≢false (sym (outside-stays few place a (value s) (n ∙ sym f.atoms) (and_left (cyclic (edge few place) place) _ h) (not-true _ (and_right (cyclic (edge few place) place) _ h))) ∙ c)) in
    ap is_accepted
    (decide-late few fixed place a s (record {
      at10 = ap (λ n. leb n a) f.atoms ∙ x.passed.at10;
      at24 = x.passed.at24;
      at11 = ap (λ e. not (legal e s)) f.bits ∙ x.passed.at11;
      at12 = x.passed.at12;
    }))
    ∙ rw (i, c) refl
