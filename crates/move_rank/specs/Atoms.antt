-- The sets of an area's atoms, and the first atom at which two areas differ. Assumes nothing.
use Rattle.std.specs.Prelude.{ℕ, zero, suc, ◌+◌, ◌*◌, ◌≤◌, ◌<◌, ◌≡◌, refl, true, false, List, [], ◌∷◌, eqb, ltb, length}
use native.Mathlib.Omega.{arith}
use Rattle.std.proofs.Common.{sym, ap₂, ◌∙◌, below_more, ltb-true, ltb-false, eqb-true}
use Rattle.std.proofs.Math.Path.{ap}
use Rattle.std.proofs.Math.ListN.{get_or}
use Rattle.std.proofs.lemmas.Bool.{eqb-false}
use Rattle.layout.specs.Patch.{part_long, part_at}
use Rattle.entry_set.specs.Lanes.{lanes}
use Rattle.move_ledger.specs.Graph.{Load, at}
use Rattle.move_ledger.specs.NodeLaws.{placed-length, placed_at}
use Rattle.move_area.specs.Area.{sets_in, decode}
use Rattle.move_area.specs.Bodies.{lane_at, atom_at}
use Rattle.move_area.specs.Checked.{nodes_in, sets-at}
use Rattle.move_questions.specs.Answers.{place_in, set_lane, atom_node, set_of, Checked}
use Rattle.move_rank.specs.Rank.{before, equal, after, by, one_by_one}
use Rattle.move_rank.specs.RankLaws.{by-same, by_less, by-more, apart_decides, lists-same}

-- the sets of a atoms can be read
pub record CanRead (a n : ℕ) (area : List ℕ) : Type 0 where
  pub room : atom_node n a ≤ length area
  pub node : (i : ℕ) → i < a → get_or area (atom_node n i) 0 < n

-- and p is the list of them
pub record Placed (a n : ℕ) (area p : List ℕ) : Type 0 where
  pub long : length p ≡ a
  pub set : (i : ℕ) → i < a → at p i ≡ set_of area n i

-- two areas of one load and one N that no row turns back
pub record Both (load : Load) (a n : ℕ) (first second : List ℕ) : Type 0 where
  pub atoms : load.A ≡ a
  pub one : Checked load n first (get_or first (n * n) 0)
  pub other : Checked load n second (get_or second (n * n) 0)

-- f and g agree below i
pub record Alike (f g : ℕ → ℕ) (i : ℕ) : Type 0 where
  pub same : (j : ℕ) → j < i → f j ≡ g j

-- i is the first number below a at which f and g differ
pub record Differ (f g : ℕ → ℕ) (a i : ℕ) : Type 0 where
  pub inside : i < a
  pub apart : f i ≡ g i → ⊥
  pub alike : Alike f g i

-- two lists that agree are one
pub lists_one : (p q : List ℕ) → length p ≡ length q → ((i : ℕ) → i < length p → at p i ≡ at q i) → p ≡ q
lists_one [] [] e h = refl
lists_one [] (y ∷ q) e h = absurd (omega arith)
lists_one (x ∷ p) [] e h = absurd (omega arith)
lists_one (x ∷ p) (y ∷ q) e h = ap₂ {A = ℕ} {B = List ℕ} ◌∷◌ (h 0 (omega arith)) (lists_one p q (omega arith) (λ i b. h (suc i) (omega arith)))

-- the first atom whose sets differ decides
first_decides : (i : ℕ) (p q : List ℕ) → i < length p → length p ≡ length q → ((j : ℕ) → j < i → at p j ≡ at q j) → (at p i ≡ at q i → ⊥) → one_by_one p q ≡ by (at p i) (at q i)
unfolding one_by_one
first_decides i [] q b e h d = absurd (omega arith)
first_decides i (x ∷ p) [] b e h d = absurd (omega arith)
first_decides zero (x ∷ p) (y ∷ q) b e h d = apart_decides x y (one_by_one p q) d
first_decides (suc i) (x ∷ p) (y ∷ q) b e h d = rw (h 0 (omega arith), by-same y) (first_decides i p q (omega arith) (omega arith) (λ j l. h (suc j) (omega arith)) d)

module _ {a n m : ℕ} {first second p q : List ℕ} (P : Placed a n first p) (Q : Placed a m second q) where
  same-below : {i : ℕ} → i ≤ a → Alike (set_of first n) (set_of second m) i → (j : ℕ) → j < i → at p j ≡ at q j
  same-below l v j b = P.set j (omega arith) ∙ v.same j b ∙ sym (Q.set j (omega arith))

  -- no atom's sets differ
  pub ranked_equal : Alike (set_of first n) (set_of second m) a → equal ≡ one_by_one p q
  ranked_equal v =
      sym (ap (one_by_one p) (sym (lists_one p q (P.long ∙ sym Q.long) (λ j b. same-below (omega arith) v j (omega (arith, P.long))))) ∙ lists-same p)

  -- the first atom's are ordered as the lists are
  pub ranked_apart : {i : ℕ} → Differ (set_of first n) (set_of second m) a i → by (set_of first n i) (set_of second m i) ≡ one_by_one p q
  ranked_apart {i} d =
      sym (first_decides i p q (omega (arith, P.long, d.inside)) (P.long ∙ sym Q.long) (same-below (omega (arith, d.inside)) d.alike) (λ e. d.apart (sym (P.set i d.inside) ∙ e ∙ Q.set i d.inside))
      ∙ ap₂ by (P.set i d.inside) (Q.set i d.inside))

  -- the first atom's are below the second's, or above
  module _ {i : ℕ} (d : Differ (set_of first n) (set_of second m) a i) {x y : ℕ} (X : x ≡ set_of first n i) (Y : y ≡ set_of second m i) where
    pub ranked_before : ltb x y ≡ true → before ≡ one_by_one p q
    ranked_before l = sym (by_less x y (ltb-true x y l)) ∙ ap₂ by X Y ∙ ranked_apart d

    pub ranked_after : ltb x y ≡ false → after ≡ one_by_one p q
    ranked_after l = sym (by-more x y (omega (arith, ltb-false x y l, apart))) ∙ ap₂ by X Y ∙ ranked_apart d
      where
        apart : x ≡ y → ⊥
        apart e = d.apart (sym X ∙ e ∙ Y)

-- the numbers so far are alike
pub alike_none : (f g : ℕ → ℕ) → Alike f g 0
alike_none f g = record { same = λ j h. absurd (omega arith) }

pub alike_more : {f g : ℕ → ℕ} {i x y : ℕ} → Alike f g i → x ≡ f i → y ≡ g i → eqb x y ≡ true → Alike f g (i + 1)
alike_more {f} {g} {i} {x} {y} v X Y e = record { same = below_more (λ j. f j ≡ g j) i v.same (sym X ∙ eqb-true x y e ∙ Y) }

-- the first place where two lists differ
pub differ_here : {f g : ℕ → ℕ} {a i x y : ℕ} → Alike f g i → x ≡ f i → y ≡ g i → i < a → eqb x y ≡ false → Differ f g a i
differ_here {x = x} {y = y} v X Y h e = record { inside = h; apart = λ u. eqb-false x y e (X ∙ u ∙ sym Y); alike = v }

-- the atoms of a checked area
module _ {load : Load} {a n r : ℕ} {area : List ℕ} (e : load.A ≡ a) (c : Checked load n area r) where
  pub can_read : CanRead a n area
  can_read =
      record { room = omega (arith, c.loadable.sizes.area); node = λ i b. omega (arith, c.ranged.nodes i (omega arith), c.ranged.few) }

  pub placed : Placed a n area (place_in load n area)
  unfolding decode
  placed =
      record {
        long = placed-length _ _ ∙ part_long (atom_at n) load.A area ∙ e;
        set = λ i b.
            let h : i < load.A = omega arith in
            placed_at (nodes_in load n area) (sets_in n area) i (omega (arith, part_long (atom_at n) load.A area))
            ∙ ap (at (sets_in n area)) (part_at (atom_at n) load.A area i h) ∙ sets-at n area _ (c.ranged.nodes i h)
            ∙ ap (λ k. lanes area k n) {x = lane_at n 0 + get_or area (atom_at n + i) 0} {y = set_lane n + get_or area (atom_node n i) 0} (omega arith);
      }
