-- What registering a chunk for a key relies on, and what it answers. Assumes nothing.
use Rattle.std.specs.Prelude.{ℕ, ◌<◌, ◌≤◌, ◌≡◌, false, length, leb}
use Rattle.std.proofs.Common.{arith, sym, ◌∙◌, le-leb}
use Rattle.std.proofs.Math.Path.{refl}
use mathlib.Core.List.{List, []}
use Rattle.std.proofs.lemmas.Bool.{lt-leb}
use Rattle.graphs.specs.Bools.{or_left, or_right, or_false}
use Rattle.merge_state.specs.declared.Sizes.{Sizes}
use Rattle.merge_state.specs.Table.{Answer, done, refused, register_chunk_graph_index, over_lists, bad_lists, later, acted}
use Rattle.merge_area.specs.Layout.{room, cell, head}
use Rattle.merge_area.specs.Within.{Within, Headed}
use Rattle.merge_area.specs.Writes.{register_area, write}
use Rattle.merge_area.specs.Calls.{standing, Called}
use Rattle.merge_laws.specs.Rows.{fits_here, fits_next, fits-none, early, late, stood, refused_called, acted_called}

-- the rows 14, 15 and 21 don't fit
pub record Standing (z : Sizes) (a : List ℕ) : Type 0 where
  pub within : Within z
  pub long : room z ≤ length a
  pub headed : Headed z a
  pub row : 0 ≡ standing z false false a

module _ (z : Sizes) (a : List ℕ) {q : ℕ} (e : q ≡ standing z false false a) where
  pub stands : q ≡ 0 → Standing z a
  stands h = let s = (stood z a false false e h).headed in record { within = s.within; long = s.long; headed = s; row = sym h ∙ e }

  pub turned-back : (k x : ℕ) {r : Answer} → (q ≡ 0 → ⊥) → r ≡ refused q → Called z a (register_chunk_graph_index k x) r a
  unfolding over_lists bad_lists
  turned-back k x h p = refused_called z a _ (early z a (register_chunk_graph_index k x) e h) h p refl

module _ {z : Sizes} {a : List ℕ} (v : Standing z a) (k x : ℕ) where
  -- the key isn't below C
  pub key_past : {r : Answer} {after : List ℕ} → z.chunks ≤ k → r ≡ refused 16 → after ≡ a → Called z a (register_chunk_graph_index k x) r after
  unfolding over_lists bad_lists later
  key_past h p s = refused_called z a _ (late z a (register_chunk_graph_index k x) 0 16 v.row refl (fits_here _ 16 [] (or_left _ _ (le-leb _ _ h)))) (omega arith) p s

  -- the chunk isn't made yet
  pub not_made : {r : Answer} {after : List ℕ} → cell a (head z 1) ≤ x → r ≡ refused 16 → after ≡ a → Called z a (register_chunk_graph_index k x) r after
  unfolding over_lists bad_lists later
  not_made h p s = refused_called z a _ (late z a (register_chunk_graph_index k x) 0 16 v.row refl (fits_here _ 16 [] (or_right (leb z.chunks k) _ (le-leb _ _ h)))) (omega arith) p s

  pub registers : {r : Answer} {after : List ℕ} → k < z.chunks → x < cell a (head z 1) → r ≡ done → after ≡ register_area z a k x → Called z a (register_chunk_graph_index k x) r after
  unfolding over_lists bad_lists later acted write
  registers l h p s =
      acted_called z a _ (late z a (register_chunk_graph_index k x) 0 0 v.row refl (fits_next _ 16 0 [] (or_false _ _ (lt-leb _ _ l) (lt-leb _ _ h)) fits-none)) refl p s
