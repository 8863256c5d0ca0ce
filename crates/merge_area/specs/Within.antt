-- What rows 14 and 15 leave: sizes within the limits, and an area that is long enough. Assumes nothing.
use Rattle.std.specs.Prelude.{ℕ, ◌+◌, ◌*◌, ◌<◌, ◌≤◌, ◌≡◌, false, List, length, eqb, ltb}
use Rattle.std.proofs.Common.{arith, mul-le-mul, ltb-false}
use Rattle.std.proofs.lemmas.Bool.{eqb-false}
use Rattle.graphs.specs.Bools.{or_false_left, or_false_right}
use Rattle.merge_state.specs.declared.Sizes.{Sizes}
use Rattle.merge_area.specs.Layout.{room, cell, head}
use Rattle.merge_area.specs.Consistent.{over, short, head_fault}

pub record Within (z : Sizes) : Type 0 where
  pub some : 0 < z.chunks
  pub chunks : z.chunks ≤ 1024
  pub square : z.chunks * z.chunks ≤ 1048576
  pub modules : z.modules ≤ 4096
  pub entries : z.entries ≤ 8192
  pub bits : z.bits ≤ 256

-- and the numbers of the header are in range
pub record Headed (z : Sizes) (a : List ℕ) : Type 0 where
  pub within : Within z
  pub long : room z ≤ length a
  pub begun : cell a (head z 0) ≤ cell a (head z 1)
  pub fits : cell a (head z 1) ≤ z.chunks
  pub named : cell a (head z 3) ≤ z.chunks + cell a (head z 1)
  pub used : cell a (head z 4) ≤ z.entries

pub within : (z : Sizes) → over z ≡ false → Within z
unfolding over
within z h =
    let h₁ = or_false_right (eqb z.chunks 0) _ h in
    let h₂ = or_false_right (ltb 1024 z.chunks) _ h₁ in
    let h₃ = or_false_right (ltb 4096 z.modules) _ h₂ in
    let none = eqb-false z.chunks 0 (or_false_left (eqb z.chunks 0) _ h) in
    let few = ltb-false 1024 z.chunks (or_false_left (ltb 1024 z.chunks) _ h₁) in
    record {
      some = omega arith;
      chunks = few;
      square = mul-le-mul few few;
      modules = ltb-false 4096 z.modules (or_false_left (ltb 4096 z.modules) _ h₂);
      entries = ltb-false 8192 z.entries (or_false_left (ltb 8192 z.entries) _ h₃);
      bits = ltb-false 256 z.bits (or_false_right (ltb 8192 z.entries) _ h₃);
    }

-- the area is long enough
pub longs : (z : Sizes) (a : List ℕ) → short z a ≡ false → room z ≤ length a
unfolding short
longs z a h = ltb-false (length a) (room z) h

pub headed : {z : Sizes} {a : List ℕ} → Within z → room z ≤ length a → head_fault z a ≡ false → Headed z a
unfolding head_fault
headed {z} {a} w s h =
    let h₁ = or_false_right (ltb (cell a (head z 1)) (cell a (head z 0))) _ h in
    let h₂ = or_false_right (ltb z.chunks (cell a (head z 1))) _ h₁ in
    record {
      within = w;
      long = s;
      begun = ltb-false _ _ (or_false_left (ltb (cell a (head z 1)) (cell a (head z 0))) _ h);
      fits = ltb-false _ _ (or_false_left (ltb z.chunks (cell a (head z 1))) _ h₁);
      named = ltb-false _ _ (or_false_left (ltb (z.chunks + cell a (head z 1)) (cell a (head z 3))) _ h₂);
      used = ltb-false _ _ (or_false_right (ltb (z.chunks + cell a (head z 1)) (cell a (head z 3))) _ h₂);
    }

-- the first n sets of the table can be read
pub record Tabled (z : Sizes) (a : List ℕ) (n : ℕ) : Type 0 where
  pub within : Within z
  pub long : room z ≤ length a
  pub few : n ≤ 2 * z.chunks
