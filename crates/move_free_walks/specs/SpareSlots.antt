-- For the code: the spare node's set is no entry bit's, so that the slots with an atom there can do without it. Assumes nothing.
use Rattle.std.specs.Prelude.{ℕ, ◌+◌, ◌-◌, ◌^◌, ◌<◌, ◌≡◌, false, ◌&&◌, List, ltb}
use Rattle.std.proofs.Common.{arith, ◌∙◌, lt-ltb, ne_eqb}
use Rattle.std.proofs.Math.Decide.{dec_lt}
use Rattle.std.proofs.Math.Path.{refl, ap}
use Rattle.std.proofs.Math.Bool.{cond}
use Rattle.std.proofs.Math.Dec.{eqb}
use Rattle.std.proofs.Math.ListN.{length}
use Rattle.std.proofs.Math.Pow.{pow-lt}
use Rattle.graphs.specs.Tab.{tab_alike}
use Rattle.move_ledger.specs.Graph.{Load, at, owner, occupied}
use Rattle.move_ledger.specs.Ledger.{put}
use Rattle.move_ledger.specs.Nodes.{highest, fronts, front, face_source, face_target, source, target, sources, targets}
use Rattle.move_ledger.specs.NodeLaws.{highest-more, highest_ext}
use Rattle.move_ledger.specs.Places.{put_behind, put_same, put_other}

module _ (load : Load) (nodes sets : List ℕ) where
  abbrev more : List ℕ
  more = put (length sets) (2 ^ load.E) sets

  front_spare : (e : ℕ) → e < load.E → front load nodes more e ≡ front load nodes sets e
  unfolding front
  front_spare e b =
      ap (highest (fronts load nodes more e)) longer ∙ highest-more (fronts load nodes more e) (length sets)
      ∙ ap (λ t. cond t (length sets) (highest (fronts load nodes more e) (length sets))) ends
      ∙ highest_ext (fronts load nodes more e) (fronts load nodes sets e) (length sets) (λ x l. ap (λ X. eqb X (2 ^ e) && occupied load nodes x) (same x l))
    where
      longer : length more ≡ length sets + 1
      longer = put_behind (length sets) (2 ^ load.E) sets (omega arith) refl

      same : (x : ℕ) → x < length sets → at more x ≡ at sets x
      same x l = (put_other (length sets) (2 ^ load.E) sets (omega arith) x (omega (arith, longer)) (λ q. omega arith)).1

      ends : fronts load nodes more e (length sets) ≡ false
      ends = ap (λ t. t && occupied load nodes (length sets)) (ne_eqb (at more (length sets)) (2 ^ e) (λ q. omega (arith, pow-lt b, put_same (length sets) (2 ^ load.E) sets (omega arith))))

  pub sources_spare : sources load nodes (put (length sets) (2 ^ load.E) sets) ≡ sources load nodes sets
  unfolding sources source
  sources_spare = tab_alike _ _ (load.D + load.E) (λ k b. go k b (dec_lt k load.D))
    where
      go : (k : ℕ) → k < load.D + load.E → Dec (k < load.D)
          → cond (ltb k load.D) (at nodes (owner load k)) (face_source (front load nodes more (k - load.D)) (at load.hosts (k - load.D)))
          ≡ cond (ltb k load.D) (at nodes (owner load k)) (face_source (front load nodes sets (k - load.D)) (at load.hosts (k - load.D)))
      go k b (yes h) = rw (lt-ltb k load.D h) refl
      go k b (no h) = rw (front_spare (k - load.D) (omega arith)) refl

  pub targets_spare : targets load nodes (put (length sets) (2 ^ load.E) sets) ≡ targets load nodes sets
  unfolding targets target
  targets_spare = tab_alike _ _ (load.D + load.E) (λ k b. go k b (dec_lt k load.D))
    where
      go : (k : ℕ) → k < load.D + load.E → Dec (k < load.D)
          → cond (ltb k load.D) (at nodes (at load.dependencies k)) (face_target nodes (front load nodes more (k - load.D)) (at load.hosts (k - load.D)))
          ≡ cond (ltb k load.D) (at nodes (at load.dependencies k)) (face_target nodes (front load nodes sets (k - load.D)) (at load.hosts (k - load.D)))
      go k b (yes h) = rw (lt-ltb k load.D h) refl
      go k b (no h) = rw (front_spare (k - load.D) (omega arith)) refl
