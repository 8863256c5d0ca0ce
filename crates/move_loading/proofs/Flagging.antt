-- What the writes of the graph and of the flags ask and make. Assumes nothing.
use mathlib.Core.Path.{◌≡◌, refl, sym, ap, ap₂, ◌∙◌}
use mathlib.Core.Bool.{Bool, true, false, true≢false}
use mathlib.Core.List.{List}
use Prim.Native.Nat.{ℕ, ◌+◌, ◌*◌, ◌≤◌}
use native.Mathlib.Omega.{arith}
use native.Mathlib.Nat.{zero-add}
use lib.Dec.{ltb}
use lib.ListN.{length, get_or, set}
use borrow.Author.Tests.{lt-ltb}
use Rattle.graphs.specs.Count.{count_ext}
use Rattle.graphs.specs.Lists.{below}
use Rattle.graphs.specs.Tab.{tab-at, is_tab}
use Rattle.graphs.specs.Walk.{cyclic}
use Rattle.layout.specs.Patch.{patch, patch_in, part, part_long, part_at}
use Rattle.move_edges.specs.Matrix.{matrix, matrix_long, matrix-at}
use Rattle.move_edges.specs.Steps.{CanFill, filled}
use Rattle.graph_components.specs.Only.{flagged}
use Rattle.move_ledger.specs.Graph.{Load}
use Rattle.move_ledger.specs.Totals.{filled_cells}
use Rattle.move_area.specs.Bodies.{lane_at}
use Rattle.move_area.specs.Area.{sets_in}
use Rattle.move_area.specs.Checked.{nodes_in, Ranged, ranged_placing, sets-length}
use Rattle.move_slots.specs.Filled.{CanFillOwn, Filled}
use Rattle.move_slots.specs.Counted.{slot_count, Counted, counted-ends, counted_le}
use Rattle.move_loading.specs.Steps.{GraphWritten, component_lane, FlagsWritten}

module _ {load : Load} {n : ℕ} {l counts s₀ t₀ : List ℕ} (can : CanFillOwn load n l counts s₀ t₀) (ranged : Ranged load n l) {counts' s t : List ℕ} (f : Filled load n (nodes_in load n l) (sets_in n l) counts' s t)
    {m : ℕ} (q : m ≡ slot_count n load.D load.E) where
  own_counted : Counted load (nodes_in load n l) (sets_in n l) s t n m
  own_counted = record {
    order = can.loadable.order;
    placing = ranged_placing can.loadable.sizes.sets ranged;
    few = omega (arith, sets-length n l, can.few);
    slots = f.slots;
    many = q;
  }

  -- the slots may be counted into the matrix
  pub fill_can : {l' : List ℕ} → length l' ≡ length l → length s ≡ length s₀ → length t ≡ length t₀ → CanFill l' n s t m × (n * n + 5 ≤ length l')
  fill_can {l'} a b c =
      let z = counted_le own_counted in (
        record {
          square = omega (arith, can.loadable.sizes.area);
          sources = omega (arith, can.sources_long);
          targets = omega (arith, can.targets_long);
          ends = counted-ends own_counted;
          few = omega (arith, can.loadable.sizes.entries, can.loadable.sizes.bits);
        },
        omega (arith, can.loadable.sizes.area),
      )

  pub graph_written : {l₁ l₂ : List ℕ} → l₁ ≡ patch (lane_at n 8) (part 0 n counts') l → l₂ ≡ set (patch 0 (matrix s t n m) l₁) (n * n + 4) (filled_cells s t n m)
      → GraphWritten load n l counts' s t m l₂
  graph_written e₁ e₂ = record { filled = f; many = q; area = e₂ ∙ ap (λ (u : List ℕ). set (patch 0 (matrix s t n m) u) (n * n + 4) (filled_cells s t n m)) e₁ }

-- the numbers of the written matrix that aren't 0 are the cells that the slots fill
pub edges_written : (n m : ℕ) (s t l : List ℕ) {e : List ℕ} {k : ℕ} → n * n ≤ length l → k ≡ filled e n → e ≡ patch 0 (matrix s t n m) l
    → set e (n * n + 4) k ≡ set (patch 0 (matrix s t n m) l) (n * n + 4) (filled_cells s t n m)
unfolding filled filled_cells
edges_written n m s t l h q r =
    ap₂ (λ (u : List ℕ) j. set u (n * n + 4) j) r (q ∙ count_ext _ _ (n * n) (λ i b.
    ap (ltb 0) (ap (λ (u : List ℕ). get_or u i 0) r ∙ ap (λ j. get_or (patch 0 (matrix s t n m) l) j 0) (sym (zero-add i))
    ∙ patch_in 0 (matrix s t n m) l i (omega (arith, matrix_long s t n m)) (omega (arith, matrix_long s t n m)) ∙ matrix-at s t n m i b)))

-- the flags of the first n nodes
flags-part : (edge : ℕ → ℕ → Bool) (n : ℕ) (l : List ℕ) {flags : List ℕ} → n ≤ length l → flags ≡ flagged edge n l → part 0 n flags ≡ component_lane edge n
unfolding flagged
flags-part edge n l {flags} b e =
    is_tab (part 0 n flags) n _ (part_long 0 n flags) (λ x h.
    part_at 0 n flags x h ∙ ap (λ i. get_or flags i 0) (zero-add x) ∙ ap (λ (u : List ℕ). get_or u x 0) e ∙ tab-at _ (length l) x (omega arith)
    ∙ rw (lt-ltb x n h) refl)

-- the two ways out
module _ {edge : ℕ → ℕ → Bool} {n : ℕ} {l : List ℕ} {r : Bool} (e : r ≡ cyclic edge (below n)) where
  pub flags-none : r ≡ false → FlagsWritten edge n l false (set l (n * n + 2) 1)
  flags-none h = record { says = sym h ∙ e; some = λ z. absurd (true≢false (sym z)); none = λ z. refl }

  pub flags_some : {l' : List ℕ} (flags : List ℕ) {flags' : List ℕ} → r ≡ true → n ≤ length flags → flags' ≡ flagged edge n flags → l' ≡ patch (lane_at n 10) (part 0 n flags') l → FlagsWritten edge n l true l'
  flags_some flags h b k q = record { says = sym h ∙ e; some = λ z. q ∙ ap (λ (u : List ℕ). patch (lane_at n 10) u l) (flags-part edge n flags b k); none = λ z. absurd (true≢false z) }
