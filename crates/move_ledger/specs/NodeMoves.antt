-- For the code: a move in node numbers. Assumes nothing.
use Rattle.std.specs.Prelude.{ℕ, ◌≤◌, ◌<◌, ◌≡◌, List, length, set}
use Rattle.std.proofs.Common.{arith, sym, ap, ap₂, subst, ◌∙◌, length-set, ext_get_or, get_or-set_same, get_or-set_other}
use Rattle.std.proofs.Math.Decide.{ℕ_discrete, dec_lt}
use Rattle.graphs.specs.Tab.{tab, tab-length, tab-at}
use Rattle.move_ledger.specs.Graph.{Load, at}
use Rattle.move_ledger.specs.LoadLaws.{InOrder, Loadable-sets, row8_apart, entry_sets-length, entry_sets-at}
use Rattle.move_ledger.specs.Loading.{lent_set, entry_sets}
use Rattle.move_ledger.specs.Nodes.{placed, Placing}
use Rattle.move_ledger.specs.NodeLaws.{placed-length, placed_at, placed-set}

-- after a loading atom i is in node i
pub placed_first : (sets : List ℕ) (n : ℕ) → length sets ≡ n → placed (tab (λ i. i) n) sets ≡ sets
placed_first sets n e =
    ext_get_or 0 (placed (tab (λ i. i) n) sets) sets (placed-length _ sets ∙ tab-length _ n ∙ sym e)
    (λ i b.
    let l : i < length (tab (λ (i : ℕ). i) n) = subst (λ k. i < k) (placed-length _ sets) b in
    let m : i < n = subst (λ k. i < k) (tab-length _ n) l in
    placed_at _ sets i l ∙ ap (at sets) (tab-at _ n i m))

pub placing_first : {load : Load} {N : ℕ} {sets : List ℕ} {size : ℕ} → Loadable-sets load N sets size → Placing load (tab (λ i. i) load.A) (entry_sets load sets)
placing_first {load} {N} {sets} {size} r =
    let long : length (entry_sets load sets) ≡ load.A = entry_sets-length load sets in
    record {
      atoms = tab-length _ load.A;
      few = omega (arith, r.loadable.sizes.atoms);
      distinct = λ x y a b e. one x y (omega arith) (omega arith) (sym (entry_sets-at load sets x (omega arith)) ∙ e ∙ entry_sets-at load sets y (omega arith));
      inside = λ i b. rw (tab-at (λ i. i) load.A i b) (omega arith);
    }
  where
    one : (x y : ℕ) → x < load.A → y < load.A → lent_set load sets x ≡ lent_set load sets y → x ≡ y
    one x y a b e = pick (dec_lt x y) (dec_lt y x)
      where
        pick : Dec (x < y) → Dec (y < x) → x ≡ y
        pick (yes h) k = absurd (row8_apart load sets r.eight y x h b e)
        pick (no h) (yes k) = absurd (row8_apart load sets r.eight x y k a (sym e))
        pick (no h) (no k) = omega arith

-- an atom moved to node y
pub placing_set : {load : Load} {nodes sets : List ℕ} → Placing load nodes sets → (a y : ℕ) → y < length sets → Placing load (set nodes a y) sets
placing_set {load} {nodes} {sets} p a y b =
    record { atoms = rw length-set p.atoms; few = p.few; distinct = p.distinct; inside = λ i l. go i l (ℕ_discrete i a) }
  where
    go : (i : ℕ) → i < load.A → Dec (i ≡ a) → at (set nodes a y) i < length sets
    go i l (yes e) = rw (e, get_or-set_same nodes a y 0 (omega (arith, p.atoms))) b
    go i l (no d) = rw (get_or-set_other nodes a i y 0 d) (p.inside i l)

-- the move of atom a to the set T, which has the node y; n is at least the number of nodes
module _ {load : Load} {nodes sets : List ℕ} (o : InOrder load) (p : Placing load nodes sets) {place : List ℕ} (is : placed nodes sets ≡ place)
    (a T y : ℕ) (b : y < length sets) (e : at sets y ≡ T) (n : ℕ) (wide : length sets ≤ n) where
  pub placing_moved : Placing load (set nodes a y) sets
  placing_moved = placing_set p a y b

  pub placed-moved : placed (set nodes a y) sets ≡ set place a T
  placed-moved = placed-set nodes sets a y ∙ ap₂ (λ l X. set l a X) is e
