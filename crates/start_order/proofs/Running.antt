-- Theorems on the definitions of specs/Running: they stand here, so that the crate can be read with a definition changed. Assumes nothing.
use Rattle.std.specs.Prelude.{ℕ, ◌+◌, ◌<◌, ◌≡◌, List, [], ◌∷◌, ◌++◌, map, length, set}
use Rattle.std.proofs.Common.{arith, sym, ap, ◌∙◌}
use Rattle.std.proofs.lemmas.List.{length-map, map_push}
use Rattle.graphs.specs.Count.{ind}
use Rattle.layout.specs.Patch.{patch, patch_long, patch_in, is_part, patch_one, patch_append, patch-over}
use Rattle.move_ledger.specs.Graph.{at}
use Rattle.move_order.specs.Listing.{snoc_length}
use Rattle.start_order.specs.declared.nodes.Nodes.{Nodes}
use Rattle.start_order.specs.Turns.{Setting}
use Rattle.start_order.proofs.TurnsLaws.{turn_more}
use Rattle.start_order.specs.Steps.{Sought, Taken, CanList}
use Rattle.start_order.specs.Running.{Run, z, here, zr}
use Rattle.start_order.specs.Running as running_here

-- one number more behind those that are written
patch_snoc : (v l : List ℕ) (k x : ℕ) → k ≡ length v → k < length l → set (patch 0 v l) k x ≡ patch 0 (v ++ x ∷ []) l
patch_snoc v l k x e b =
    patch_one k x (patch 0 v l) (omega (arith, patch_long 0 v l))
    ∙ ap (λ i. patch i (x ∷ []) (patch 0 v l)) {x = k} {y = 0 + length v} (omega arith)
    ∙ patch_append 0 v (x ∷ []) (patch 0 v l) (is_part 0 (patch 0 v l) v (λ i h. patch_in 0 v l i h (omega arith)))
    ∙ patch-over 0 (v ++ x ∷ []) v l (omega (arith, snoc_length v x))

module _ {s : Setting} {g : Nodes} {a : ℕ} {order low marks₀ degrees₀ chunks₀ : List ℕ} (can : CanList s g a order low marks₀ degrees₀ chunks₀) where
  module _ {k : ℕ} {marks degrees chunks : List ℕ} (run : Run s g.area.n g.registered a low chunks₀ k marks degrees chunks) where
    module _ {i : ℕ} (f : Sought order marks degrees i) (less : k < a) (m : length marks ≡ length marks₀) (d : length degrees ≡ length degrees₀) (l : length chunks ≡ length chunks₀) where
      pub run_more : {marks' degrees' chunks' : List ℕ} → Taken g (running_here.z can run f less m d l) k low marks degrees chunks marks' degrees' chunks' → Run s g.area.n g.registered a low chunks₀ (k + 1) marks' degrees' chunks'
      run_more t = record {
        listed = run.listed ++ (running_here.z can run f less m d l) ∷ [];
        turn =
            turn_more can.fits g.few run.turn can.row (running_here.here can run f less m d l) f.found f.before less t.marked (omega (arith, can.marks_long))
            (λ y b. omega (arith, t.passed y b, ap ind (can.cell y (running_here.z can run f less m d l) (omega (arith, g.few)) (omega (arith, (running_here.zr can run f less m d l), g.few)))));
        named =
            t.named ∙ ap (λ u. set u k (at low (running_here.z can run f less m d l))) run.named
            ∙ patch_snoc (map (at low) run.listed) chunks₀ k (at low (running_here.z can run f less m d l)) (omega (arith, length-map run.listed (at low), run.turn.many)) (omega (arith, can.room))
            ∙ ap (λ v. patch 0 v chunks₀) (sym (map_push (at low) run.listed (running_here.z can run f less m d l)));
      }
