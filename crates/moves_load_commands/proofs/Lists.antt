-- Where an atom's dependencies start, and one more of them put in. Assumes nothing.
use Rattle.std.proofs.Common.{◌≡◌, refl, sym, ap, ◌∙◌, Bool, true, false, cond, ℕ, zero, suc, ◌+◌, ◌-◌, ◌≤◌, ◌<◌, ltb, List, ◌∷◌, length, get_or, set, take, arith, zero-add, length-take-le, length-set, get_or-take, get_or-set_same, get_or-set_other}
use Rattle.std.specs.List.{count_by, RotatedRight}
use Rattle.std.proofs.lemmas.List.Recursion.{is_count_by}
use Rattle.std.proofs.Math.Decide.{dec_lt}
use borrow.Rule.Slice.PartMut.{put_mid, mid_of, mid_len}
use Rattle.graphs.specs.Count.{ind, count, count_ext}
use Rattle.layout.specs.Patch.{part, part_long, part_at, is_patch}
use Rattle.layout.specs.Lent.{mid_at, put_long, put-inside, put-before, put-after}
use Rattle.move_ledger.specs.Graph.{at}
use Rattle.moves_load_commands.specs.Machine.{start, inserted}

-- counting from the front
count-shift : (q : ℕ → Bool) (n : ℕ) → count q (suc n) ≡ ind (q 0) + count (λ k. q (suc k)) n
unfolding count
count-shift q zero = omega arith
count-shift q (suc n) = omega (arith, count-shift q n)

counted : (p : ℕ → Bool) (l : List ℕ) → count (λ k. p (at l k)) (length l) ≡ count_by p l
unfolding count
counted p = is_count_by (λ l. count (λ k. p (at l k)) (length l)) p refl (λ x l. count-shift (λ k. p (at (x ∷ l) k)) (length l) ∙ one (p x) (count (λ k. p (at l k)) (length l)))
  where
    one : (t : Bool) (n : ℕ) → ind t + n ≡ cond t (1 + n) n
    one true n = refl
    one false n = zero-add n

pub start-counted : (l : List ℕ) (i : ℕ) → count_by (λ x. ltb x i) l ≡ start l (length l) i
unfolding start
start-counted l i = sym (counted (λ x. ltb x i) l)

-- the sources behind the first d make no difference
pub start_take : (l : List ℕ) (d i : ℕ) → d ≤ length l → start (take d l) (length (take d l)) i ≡ start l d i
unfolding start
start_take l d i h = rw (length-take-le d l h) (count_ext _ _ d (λ k b. ap (λ x. ltb x i) (get_or-take d l k 0 b)))

-- v written behind the part from p on, and that part turned round by one
module _ (l : List ℕ) (p d v : ℕ) (w : List ℕ) (h : p ≤ d) (b : d < length l) where
  abbrev lent : List ℕ
  lent = mid_of p (d + 1 - p) (set l d v)

  many : length lent ≡ d + 1 - p
  many = mid_len p (d + 1) (set l d v) (rw length-set (omega arith))

  pub inserted-turned : length w ≡ length lent → RotatedRight lent w (length lent) 1 → put_mid p (d + 1 - p) (set l d v) w ≡ inserted p d v l
  unfolding inserted
  inserted-turned e r = is_patch p (v ∷ part p (d - p) l) l (put_mid p (d + 1 - p) (set l d v) w) (put_long p (d + 1) (set l d v) w up in_list fits ∙ length-set l d v) inside outside
    where
      up : p ≤ d + 1
      up = omega arith

      in_list : d + 1 ≤ length (set l d v)
      in_list = rw length-set (omega arith)

      fits : length w ≡ d + 1 - p
      fits = e ∙ many

      inside : (i : ℕ) → i < length (v ∷ part p (d - p) l) → p + i < length l → get_or (put_mid p (d + 1 - p) (set l d v) w) (p + i) 0 ≡ get_or (v ∷ part p (d - p) l) i 0
      inside zero z y =
          let q : p + (length lent - 1 + 0) ≡ d = omega (arith, many) in
          put-inside p (d + 1) (set l d v) w up in_list fits 0 (omega arith)
          ∙ r.0 0 0 (omega arith)
          ∙ mid_at p (d + 1 - p) (set l d v) (length lent - 1 + 0) (omega (arith, many))
          ∙ (rw q (get_or-set_same l d v 0 b))
      inside (suc i) z y =
          let short : suc i < d + 1 - p = omega (arith, part_long p (d - p) l) in
          let q : suc i - 1 ≡ i = omega arith in
          put-inside p (d + 1) (set l d v) w up in_list fits (suc i) short
          ∙ r.1 (suc i) 0 (omega arith) (omega (arith, many))
          ∙ (rw q (mid_at p (d + 1 - p) (set l d v) i (omega arith)))
          ∙ get_or-set_other l d (p + i) v 0 (λ o. omega arith)
          ∙ sym (part_at p (d - p) l i (omega arith))

      outside : (k : ℕ) → k < length l → (p ≤ k → p + length (v ∷ part p (d - p) l) ≤ k) → get_or (put_mid p (d + 1 - p) (set l d v) w) k 0 ≡ get_or l k 0
      outside k y z = go (dec_lt k p)
        where
          go : Dec (k < p) → get_or (put_mid p (d + 1 - p) (set l d v) w) k 0 ≡ get_or l k 0
          go (yes o) = put-before p (d + 1) (set l d v) w up in_list fits k o ∙ get_or-set_other l d k v 0 (λ q. omega arith)
          go (no o) =
              let far : d + 1 ≤ k = omega (arith, z (omega arith), part_long p (d - p) l) in
              put-after p (d + 1) (set l d v) w up in_list fits k far ∙ get_or-set_other l d k v 0 (λ q. omega arith)
