-- What every ledger after a loading keeps, so that rows 1 to 9 can't fit within a list. Assumes nothing.
use Rattle.std.specs.Prelude.{ℕ, ◌^◌, ◌≤◌, ◌<◌, ◌≡◌, List}
use Rattle.std.proofs.Common.{arith, sym, ◌∙◌}
use Rattle.std.proofs.Math.Bool.{true}
use Rattle.std.proofs.Math.ListN.{length}
use Rattle.graphs.specs.Lists.{has, has-at}
use Rattle.move_ledger.specs.Graph.{Load, at}
use Rattle.move_ledger.specs.Ledger.{Ledger, loaded, free_place}
use Rattle.move_ledger.specs.Places.{Apart}
use Rattle.move_ledger.specs.Loading.{entry_sets}
use Rattle.move_ledger.specs.LoadLaws.{Loadable-sets, row7_small, row8_apart, entry_sets-length, entry_sets-at}

-- each atom has a registered set, and the registered sets are distinct, in range and at most N
pub record Sound (load : Load) (N : ℕ) (l : Ledger) : Type 0 where
  pub atoms : length l.place ≡ load.A
  pub room : length l.registered ≤ N
  pub distinct : Apart l.registered
  pub in_range : (i : ℕ) → i < length l.registered → at l.registered i < 2 ^ load.E
  pub registered : (i : ℕ) → i < load.A → has (at l.place i) l.registered ≡ true

module _ {load : Load} {N : ℕ} {l : Ledger} (v : Sound load N l) (more : load.A < N) (T : ℕ) (small : T < 2 ^ load.E) where
  abbrev pub r : ℕ
  r = free_place load N l.place l.registered

-- an unrefused loading gives a sound ledger
pub loading_sound : {load : Load} {N : ℕ} {sets : List ℕ} {size : ℕ} → Loadable-sets load N sets size → Sound load N (loaded (entry_sets load sets))
loading_sound {load} {N} {sets} {size} r =
    let long : length (entry_sets load sets) ≡ load.A = entry_sets-length load sets in
    record {
      atoms = long;
      room = omega (arith, r.loadable.sizes.wide);
      distinct = λ i j a b e.
          let k : j < load.A = omega arith in
          row8_apart load sets r.eight j i a k (sym (entry_sets-at load sets i (omega arith)) ∙ e ∙ entry_sets-at load sets j k);
      in_range = λ i b. let k : i < load.A = omega arith in rw (entry_sets-at load sets i k) (row7_small load sets r.seven i k);
      registered = λ i b. has-at (entry_sets load sets) i (omega arith);
    }
