-- What the start of a loaded area names: the entry sets, and a node of its own for each atom. Assumes nothing.
use mathlib.Core.Path.{◌≡◌, refl, sym, ap, subst, ◌∙◌}
use mathlib.Core.Bool.{true}
use mathlib.Core.List.{List}
use Prim.Native.Nat.{ℕ, ◌+◌, ◌*◌, ◌^◌, ◌≤◌, ◌<◌}
use native.Mathlib.Omega.{arith}
use lib.ListN.{length, get_or, length-replicate, replicate}
use borrow.Author.Tests.{eqb-true}
use Rattle.graphs.specs.Tab.{tab, tab-length, tab-at, is_tab, zeros}
use Rattle.layout.specs.Patch.{part, part_long, part_at}
use Rattle.entry_set.specs.LaneLaws.{lanes_is}
use Rattle.entry_set.specs.SetLaws.{below_256}
use Rattle.move_ledger.specs.Graph.{Load, at}
use Rattle.move_ledger.specs.Loading.{entry_sets}
use Rattle.move_ledger.specs.LoadLaws.{Loadable, Loadable-sets, entry_sets-length}
use Rattle.move_ledger.specs.Sound.{loading_sound}
use Rattle.move_area.specs.Bodies.{lane_at, atom_at, Bodies, write, Sized}
use Rattle.move_area.specs.BodyLaws.{write_long, read-registered, read-words, read-marks, read-nodes}
use Rattle.move_area.specs.Area.{sets_in}
use Rattle.move_area.specs.Checked.{nodes_in, Ranged}
use Rattle.move_slots.specs.Filled.{CanFillOwn}
use Rattle.move_loading.specs.Start.{start_bodies, CanStart}
use Rattle.move_loading.specs.Steps.{CanLoad}

module _ (load : Load) (n : ℕ) (sets l : List ℕ) (r : Loadable-sets load n sets (length l)) where
  pub passes : Loadable load n true (length l)
  passes = record { sizes = r.loadable.sizes; lengths = refl; order = r.loadable.order }

  pub room_is : atom_at n + load.A ≤ length l
  room_is = omega (arith, r.loadable.sizes.area)

  abbrev pub start_of : Bodies
  start_of = start_bodies load.A n (entry_sets load sets) l

  long : length (entry_sets load sets) ≡ load.A
  long = entry_sets-length load sets

  pub start-sized : Sized n load.A start_of
  start-sized =
      record {
        edges = part_long 0 (n * n) l;
        few = omega (arith, r.loadable.sizes.wide);
        words = λ j b. tab-length _ load.A;
        counts = length-replicate n 0;
        marks = length-replicate n 0;
        component = length-replicate n 0;
        nodes = tab-length _ load.A;
      }

  module _ (l₁ : List ℕ) (e : l₁ ≡ write n start_of l) where
    pub start_long : length l₁ ≡ length l
    start_long = ap length e ∙ write_long n start_of l

    count_is : get_or l₁ (n * n) 0 ≡ load.A
    count_is = ap (λ (u : List ℕ). get_or u (n * n) 0) e ∙ read-registered n load.A start_of start-sized l room_is

    cell : (b k : ℕ) (w : List ℕ) → part b k (write n start_of l) ≡ w → (x : ℕ) → x < k → get_or l₁ (b + x) 0 ≡ get_or w x 0
    cell b k w h x z = ap (λ (u : List ℕ). get_or u (b + x) 0) e ∙ sym (part_at b k (write n start_of l) x z) ∙ ap (λ (u : List ℕ). get_or u x 0) h

    wide : (x : ℕ) → x < load.A → at (entry_sets load sets) x < 2 ^ 256
    wide x b = below_256 r.loadable.sizes.bits ((loading_sound r).in_range x (omega (arith, long)))

    pub sets_are : sets_in n l₁ ≡ entry_sets load sets
    unfolding sets_in
    sets_are =
        sym (is_tab (entry_sets load sets) (get_or l₁ (n * n) 0) _ (long ∙ sym count_is) (λ x b.
        let c : x < load.A = omega (arith, count_is) in
        sym (lanes_is l₁ (lane_at n 0 + x) n (at (entry_sets load sets) x) (wide x c) (λ j h.
        let q : lane_at n 0 + x + j * n ≡ lane_at n j + x = omega arith in
        ap (λ i. get_or l₁ i 0) q ∙ cell (lane_at n j) load.A _ (read-words n load.A start_of start-sized l room_is j h) x c ∙ tab-at _ load.A x c))))

    pub nodes_are : nodes_in load n l₁ ≡ tab (λ i. i) load.A
    nodes_are = ap (part (atom_at n) load.A) e ∙ read-nodes n load.A start_of start-sized l room_is

    pub start_ranged : Ranged load n l₁
    start_ranged =
        record {
          few = omega (arith, count_is, r.loadable.sizes.wide);
          nodes = λ i b. omega (arith, count_is, cell (atom_at n) load.A _ (read-nodes n load.A start_of start-sized l room_is) i b, tab-at (λ i. i) load.A i b);
          distinct = rw sets_are (record { apart = (loading_sound r).distinct });
          range = λ x b. rw sets_are ((loading_sound r).in_range x (omega (arith, count_is, long)));
          marks = λ x b. omega (arith, cell (lane_at n 9) n _ (read-marks n load.A start_of start-sized l room_is) x b, zeros n x);
        }

-- a list of k noughts
abbrev pub blank : ℕ → List ℕ
blank k = replicate k 0

pub blank_long : (k : ℕ) → length (blank k) ≡ k
blank_long k = length-replicate k 0

-- what the steps ask
module _ {load : Load} {n : ℕ} {sets area : List ℕ} {heads slots : ℕ} (can : CanLoad load n sets area heads slots) where
  pub start_can : CanStart area load.A load.E n sets
  start_can = record {
    room = room_is load n sets area can.loadable;
    few = omega (arith, can.loadable.loadable.sizes.wide);
    nodes = can.loadable.loadable.sizes.sets;
    atoms = can.loadable.loadable.sizes.atoms;
    bits = can.loadable.loadable.sizes.bits;
    lent = eqb-true _ _ can.loadable.loadable.lengths;
  }

  pub ranged : {l : List ℕ} → l ≡ write n (start_of load n sets area can.loadable) area → Ranged load n l
  ranged {l} e = start_ranged load n sets area can.loadable l e

  pub graph_can : {l : List ℕ} → l ≡ write n (start_of load n sets area can.loadable) area → CanFillOwn load n l (blank heads) (blank slots) (blank slots)
  graph_can {l} e = record {
    loadable = subst (Loadable load n true) (sym (start_long load n sets area can.loadable l e)) (passes load n sets area can.loadable);
    few = (ranged e).few;
    inside = (ranged e).nodes;
    counts_long = omega (arith, can.rows, blank_long);
    sources_long = omega (arith, can.slots_long, blank_long);
    targets_long = omega (arith, can.slots_long, blank_long);
  }
