-- Laws that several proofs of this crate cite. Assumes nothing.
use Prim.Native.Nat.{ℕ, ◌+◌, ◌-◌, ◌*◌, ◌^◌}
use native.Mathlib.Omega.{arith}
use mathlib.Core.Path.{◌≡◌, ap, ◌∙◌}
use mathlib.Core.Bool.{Bool, false, not}
use mathlib.Core.List.{List}
use Rattle.graphs.specs.Bools.{Decides}
use Rattle.graphs.specs.Lists.{some_below}
use lib.Dec.{ltb}
use Rattle.set_order.specs.Order.{Distinct}
use Rattle.equal_sets.specs.Laid.{row_set}
use Rattle.entry_set.specs.declared.EntrySet.{EntrySet}
use Rattle.entry_set.specs.Sets.{number, Holds}
use Rattle.entry_set.specs.Lanes.{lanes}
use Rattle.merge_state.specs.declared.Sizes.{Sizes}
use Rattle.merge_state.specs.Loading.{twice}
use Rattle.merge_area.specs.Layout.{set_place}
use Rattle.merge_area.specs.Twice.{twice_is}
use Rattle.merge_area.specs.Consistent.{faults, row_fault, flags_fault, out_of_range}

pub flags-last : (a : List ℕ) (c n x : ℕ) {r : ℕ} → some_below (row_fault a c n) x ≡ false → x ≡ n → r ≡ faults a (n * c) ((c - n) * c) 1 false → ltb 0 r ≡ flags_fault a c n
unfolding flags_fault
flags-last a c n x {r} h e q = let k : some_below (row_fault a c n) n ≡ false = rw e at h in rw (k, q)

-- two of the first n sets are equal, where they aren't distinct from the first one's place on
pub sets-twice : (z : Sizes) (a : List ℕ) (n : ℕ) {p : ℕ} {d : Bool} → p ≡ set_place z 0 → Decides (Distinct (row_set a p) n) d → not d ≡ twice (λ i. lanes a (set_place z i) 1) n
sets-twice z a n {p} {d} e r =
    let q : p ≡ z.chunks * z.chunks + 32 = omega (arith, e) in
    twice_is (row_set a p) n r ∙ ap (λ k. twice (row_set a k) n) q

-- tests of sets, by value and as numbers
pub range_eq : (z : Sizes) (a : List ℕ) (i : ℕ) {s : EntrySet} {r : Bool} → Holds (lanes a (set_place z i) 1) s → r ≡ ltb (number s) (2 ^ z.bits) → not r ≡ out_of_range z a i
unfolding out_of_range
range_eq z a i h e = rw (e, h.value)
