-- The nodes opened one after the other. Assumes nothing.
use Prim.Native.Nat.{ℕ, ◌+◌, ◌<◌, ◌≤◌}
use native.Mathlib.Omega.{arith}
use mathlib.Core.Path.{◌≡◌, refl, sym, ap, ◌∙◌}
use mathlib.Core.Bool.{Bool, false}
use mathlib.Core.List.{List}
use Rattle.std.proofs.lemmas.List.{get_or-replicate}
use lib.ListN.{length, replicate}
use borrow.Author.Count.{below_more}
use Rattle.graphs.specs.Bools.{fails}
use Rattle.graphs.specs.Lists.{below}
use Rattle.graphs.specs.Walk.{cyclic}
use Rattle.graphs.specs.Walks.{sources-below, cyclic_walk, walk_from}
use Rattle.graph_colours.specs.declared.State.{State}
use Rattle.graph_colours.specs.declared.State.TheVariants.{White, Gray, Black}
use Rattle.graph_colours.specs.States.{code}
use Rattle.graph_neighbours.specs.Lists.{edge, Graph, listed}
use Rattle.graph_book_walk.specs.Book.{at, Clean, CanOpen, Opened}

-- between two openings no node is gray, and the nodes below x are black
pub record Round (g l : List ℕ) (n x : ℕ) (colour : List State) : Type 0 where
  pub graph : Graph g l n
  pub long : length colour ≡ n
  pub within : x ≤ n
  pub clean : Clean (edge g l n) n (at colour)
  pub calm : (y : ℕ) → y < n → at colour y ≡ 1 → ⊥
  pub past : (y : ℕ) → y < x → 2 ≤ at colour y

pub cleared : (n : ℕ) {l : List State} → l ≡ replicate n White → (x : ℕ) → x < n → at l x ≡ 0
cleared n q x b = ap (λ k. at k x) q ∙ ap code (get_or-replicate n x White White b)

pub white : (s : State) → code s ≡ 0 → s ≡ White
white White h = refl
white Gray h = absurd (omega arith)
white Black h = absurd (omega arith)

pub round_first : {g l : List ℕ} {n : ℕ} {colour : List State} → Graph g l n → length colour ≡ n → ((x : ℕ) → x < n → at colour x ≡ 0) → Round g l n 0 colour
round_first v q z = record {
  graph = v;
  long = q;
  within = omega arith;
  clean = record { out = λ x y b h t. absurd (omega (arith, z x b)); none = λ x b h w. omega (arith, z x b) };
  calm = λ y b h. omega (arith, z y b);
  past = λ y b. absurd (omega arith);
}

module _ {g l : List ℕ} {n x : ℕ} {colour : List State} (v : Round g l n x colour) where
  module _ (b : x < n) where
    pub round_skip : (at colour x ≡ 0 → ⊥) → Round g l n (x + 1) colour
    round_skip h = record {
      graph = v.graph;
      long = v.long;
      within = omega arith;
      clean = v.clean;
      calm = v.calm;
      past = below_more (λ y. 2 ≤ at colour y) x v.past (let k = v.calm x b in omega arith);
    }

    pub round_can : at colour x ≡ 0 → CanOpen g l n colour x
    round_can h = record { graph = v.graph; long = v.long; node = b; white = h; clean = v.clean; path = λ y k t. absurd (v.calm y k t) }

    pub round_more : {colour' : List State} {met : Bool} → met ≡ false → length colour' ≡ length colour → Opened g l n colour x colour' met → Round g l n (x + 1) colour'
    round_more {colour'} f q k =
        let w = k.grown f in
        record {
          graph = v.graph;
          long = q ∙ v.long;
          within = omega arith;
          clean = k.clean f;
          calm = λ y t z. elim (native.Mathlib.Decide.ℕ_discrete (at colour y) 0) [
            | yes p ↦ w.fresh y t p z
            | no p ↦ v.calm y t (sym (w.known y t p) ∙ z)
          ];
          past = below_more (λ y. 2 ≤ at colour' y) x
              (λ y t. omega (arith, v.past y t, w.known y (omega arith) (λ z. omega (arith, v.past y t))))
              (k.black f);
        }

  pub round_done : n ≤ x → cyclic (edge g l n) (below n) ≡ false
  round_done h = fails _ (λ t.
      let f = (listed v.graph).from in
      let r = (cyclic_walk (edge g l n) (below n) (sources-below f)).0 t in
      let b = walk_from f r.1 in
      v.clean.none r.0 b (v.past r.0 (omega arith)) r.1)
