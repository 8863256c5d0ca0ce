-- Theorems on the definitions of specs/Tried: they stand here, so that the crate can be read with a definition changed. Assumes nothing.
use Rattle.std.specs.Prelude.{◌≡◌, true, false, cond, List, eqb, length, get_or, set}
use Rattle.std.proofs.Math.Path.{refl, sym, ap}
use Rattle.std.proofs.Common.{subst, ◌∙◌, arith}
use Rattle.std.proofs.Math.Bool.{Bool}
use Prim.Native.Nat.{ℕ, ◌+◌, ◌*◌, ◌≤◌}
use Rattle.graphs.specs.Lists.{below}
use Rattle.graphs.specs.Walk.{cyclic}
use Rattle.move_ledger.specs.Graph.{Load}
use Rattle.move_ledger.specs.Answer.{Report, Answer, accepted, rejected, is_accepted}
use Rattle.move_ledger.specs.Ledger.{step1}
use Rattle.move_ledger.specs.Nodes.{placed, node_edge}
use Rattle.move_ledger.specs.NodePlaces.{Kept}
use Rattle.move_ledger.proofs.NodePlaces.{register-kept}
use Rattle.set_order.specs.Order.{lane_set, First}
use Rattle.move_area.specs.Area.{sets_in, decode, encode}
use Rattle.move_area.specs.Checked.{nodes_in}
use Rattle.move_area.specs.NodeBodies.{Nodes}
use Rattle.move_try.specs.Stands.{Stands, stands-encode}
use Rattle.move_try.specs.Areas.{registered, sets_with}
use Rattle.move_try.specs.Changes.{with_node}
use Rattle.move_try.specs.Outcome.{slot_report, Trial, with_target_sets, with_target, with_test}
use Rattle.move_try.proofs.Outcome.{trial_rejected, trial_accepted}
use Rattle.move_try.specs.Early.{Place}
use Rattle.move_try.specs.Settle.{Settled}
use Rattle.move_try.specs.Tried.{CanTry, Answers, stands-over, st, try_stands, more, node, target, named}
use Rattle.move_try.specs.Tried as tried_here

module _ {load : Load} {n : ℕ} {area : List ℕ} {atom T : ℕ} (can : CanTry load n area atom T) where
  module _ (m : ℕ) (many : m ≡ get_or area (n * n) 0) where
    module _ {x : ℕ} (f : First (lane_set area (n * n + 24) n) m T x) {y : ℕ} (p : Place area n x y) {r : Bool} (s1 : r ≡ step1 load (placed (nodes_in load n area) (sets_in n area)) atom)
        (left : r ≡ false) where
      module _ {l₁ : List ℕ} (e₁ : l₁ ≡ cond (eqb x m) (registered n (sets_with m y) y T area) area) where
        kept : Kept load n (nodes_in load n area) (sets_in n area) (with_target_sets load n (tried_here.st can) T)
        kept = register-kept (tried_here.try_stands can).placing (tried_here.try_stands can).few (tried_here.more can m many f p s1 left) (omega (arith, (tried_here.try_stands can).small)) T

        trial : Trial load n (tried_here.st can) atom T y
        trial =
            record {
              order = (tried_here.try_stands can).order;
              placing = (tried_here.try_stands can).placing;
              small = (tried_here.try_stands can).small;
              few = (tried_here.try_stands can).few;
              more = (tried_here.more can m many f p s1 left);
              atom = can.there;
              node = (tried_here.node can m many f p s1 left).0;
              set = (tried_here.node can m many f p s1 left).1;
            }

        -- the graph before is the same with the target registered
        present : cyclic (node_edge load (nodes_in load n area) (with_target_sets load n (tried_here.st can) T)) (below n) ≡ cyclic (node_edge load (nodes_in load n area) (sets_in n area)) (below n)
        present = rw (kept.sources, kept.targets) refl

        abbrev tested : Nodes → Nodes
        tested z = with_test load n z atom y (cyclic (node_edge load z.nodes z.sets) (below n))

        module _ {l₂ : List ℕ} where
          pub try_settled : {x : Answer} → Settled load n l₁ atom y x l₂ → Answers load n area atom T x l₂
          unfolding decode
          try_settled {x} z = go (cyclic M (below n)) refl says
            where
              M : ℕ → ℕ → Bool
              M = node_edge load (set (nodes_in load n area) atom y) (with_target_sets load n (tried_here.st can) T)

              R : Report
              R = slot_report load n (nodes_in load n area) (with_target_sets load n (tried_here.st can) T) atom y

              says : x ≡ cond (cyclic M (below n)) rejected (accepted R)
              says = subst (λ z. x ≡ cond (cyclic (node_edge load (set z.nodes atom y) z.sets) (below n)) rejected (accepted (slot_report load n z.nodes z.sets atom y))) (tried_here.named can m many f p s1 left e₁) z.says

              held : Stands load n (cond (is_accepted x) (with_node (tested (with_target load n (tried_here.st can) T)) atom y) (tested (with_target load n (tried_here.st can) T))) area l₂
              held = stands-over (tried_here.target can m many f p s1 left e₁) (subst (λ z. Stands load n (cond (is_accepted x) (with_node (tested z) atom y) (tested z)) l₁ l₂) (tried_here.named can m many f p s1 left e₁) z.stands) (go' (is_accepted x))
                where
                  go' : (t : Bool) → length (with_target load n (tried_here.st can) T).sets ≤ length (cond t (with_node (tested (with_target load n (tried_here.st can) T)) atom y) (tested (with_target load n (tried_here.st can) T))).sets
                  go' true = omega arith
                  go' false = omega arith

              go : (t : Bool) → cyclic M (below n) ≡ t → x ≡ cond t rejected (accepted R) → Answers load n area atom T x l₂
              go true q e = record {
                of = λ fixed w free v legal.
                    let k = trial_rejected trial fixed w v free legal can.other (sym s1 ∙ left) q in
                    (e ∙ sym k.0, stands-encode (rw e at held) ∙ ap (λ u. encode load n u area) (rw present (sym k.1)));
              }
              go false q e = record {
                of = λ fixed w free v legal.
                    let k = trial_accepted trial fixed w v free legal can.other (sym s1 ∙ left) q in
                    (e ∙ sym k.0, stands-encode (rw e at held) ∙ ap (λ u. encode load n u area) (rw present (sym k.1)));
              }
