-- The acyclic flag and the component against what the search found. Assumes nothing.
use mathlib.Core.Path.{◌≡◌, refl, sym, subst, ◌∙◌}
use mathlib.Core.Bool.{Bool, not}
use mathlib.Core.List.{List}
use Prim.Native.Nat.{ℕ, ◌≤◌, ◌<◌}
use native.Mathlib.Omega.{arith}
use lib.ListN.{length}
use borrow.Author.Tests.{lt-ltb}
use Rattle.graphs.specs.Bools.{Decides, same_decides}
use Rattle.graphs.specs.Count.{ind}
use Rattle.graphs.specs.Lists.{below}
use Rattle.graphs.specs.Tab.{tab-at}
use Rattle.graphs.specs.Walk.{cyclic}
use Rattle.graph_components.specs.Only.{flagged}
use Rattle.move_ledger.specs.Graph.{at}
use Rattle.move_consistency.specs.Flags.{FlagsAre, component_of, Flagged}

-- they are the graph's, where the flag that is asked for is that of an acyclic graph
pub flags-found : (e : ℕ → ℕ → Bool) (n : ℕ) {area : List ℕ} (flags : List ℕ) {flags' : List ℕ} {k : ℕ} {r q : Bool} → n ≤ length flags → q ≡ cyclic e (below n) → flags' ≡ flagged e n flags
    → k ≡ ind (not q) → Decides (FlagsAre k (at flags') n area) r → Decides (Flagged e n area) r
unfolding flagged
flags-found e n {area} flags {flags'} {k} {r} {q} long h f is-k d =
    subst (λ (t : Bool). Decides (FlagsAre (ind (not t)) (component_of e n) n area) r) h
    (same_decides
    (λ p. record { acyclic = p.acyclic ∙ is-k; component = λ x b. p.component x b ∙ is x b })
    (λ p. record { acyclic = p.acyclic ∙ sym is-k; component = λ x b. p.component x b ∙ sym (is x b) })
    d)
  where
    is : (x : ℕ) → x < n → at flags' x ≡ component_of e n x
    is x b = rw f (tab-at _ (length flags) x (omega arith) ∙ rw (lt-ltb x n b) refl)
