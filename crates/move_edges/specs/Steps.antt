-- What the functions that keep the matrix ask and show. Assumes nothing.
use Rattle.std.specs.Prelude.{◌≡◌, List, Bool, true, not, ◌&&◌, ℕ, ◌+◌, ◌*◌, ◌^◌, ◌≤◌, ◌<◌, eqb, ltb, length, get_or}
use Rattle.std.proofs.Common.{arith}
use Rattle.graphs.specs.Count.{count}
use Rattle.graphs.specs.Square.{index_lt}
use Rattle.graphs.specs.Slots.{cell, flat, Ends}
use Rattle.move_edges.specs.Matrix.{Holds}

-- both ends are nodes, and the matrix is there
pub record Within (e : List ℕ) (n x y : ℕ) : Type 0 where
  pub source : x < n
  pub target : y < n
  pub square : n * n ≤ length e

pub within-place : {e : List ℕ} {n x y : ℕ} → Within e n x y → x * n + y < length e
within-place {e} {n} {x} {y} p = omega (arith, index_lt n x y p.source p.target)

pub record CanAdd (e : List ℕ) (n x y : ℕ) : Type 0 where
  pub within : Within e n x y
  pub room : get_or e (x * n + y) 0 < 4294967295

pub record CanRemove (e : List ℕ) (n x y : ℕ) : Type 0 where
  pub within : Within e n x y
  pub there : (x ≡ y → ⊥) → 1 ≤ get_or e (x * n + y) 0

-- how many numbers of a square of n rows aren't 0: its distinct edges
unfoldable pub filled : List ℕ → ℕ → ℕ
filled e n = count (λ i. ltb 0 (get_or e i 0)) (n * n)

-- an edge more from x to y appears, an edge less vanishes
abbrev pub appears : List ℕ → ℕ → ℕ → ℕ → Bool
appears e n x y = not (eqb x y) && eqb (get_or e (x * n + y) 0) 0

abbrev pub vanishes : List ℕ → ℕ → ℕ → ℕ → Bool
vanishes e n x y = not (eqb x y) && eqb (get_or e (x * n + y) 0) 1

-- how many edges the slots (u, v) have that the slots (s, t) haven't
abbrev pub fresh : ℕ → List ℕ → List ℕ → List ℕ → List ℕ → ℕ → ℕ
fresh n s t u v m = count (λ i. eqb (flat s t n m i) 0 && ltb 0 (flat u v n m i)) (n * n)

pub record Changed (n : ℕ) (s t u v : List ℕ) (m come gone : ℕ) : Type 0 where
  pub appeared : come ≡ fresh n s t u v m
  pub vanished : gone ≡ fresh n u v s t m

-- whether the edge from a to b is another than that from c to d
abbrev pub another : ℕ → ℕ → ℕ → ℕ → Bool
another a b c d = not (eqb a c && eqb b d)

-- whether slot k changes from (s, t) to (u, v)
abbrev pub changed : List ℕ → List ℕ → List ℕ → List ℕ → ℕ → Bool
changed s t u v k = another (get_or s k 0) (get_or t k 0) (get_or u k 0) (get_or v k 0)

-- slot k is there in both lists of slots
pub record InBoth (s t u v : List ℕ) (k : ℕ) : Type 0 where
  pub source : k < length s
  pub target : k < length t
  pub new_source : k < length u
  pub new_target : k < length v

pub record CanGainOne (e : List ℕ) (n : ℕ) (s t u v : List ℕ) (k : ℕ) : Type 0 where
  pub slot : InBoth s t u v k
  pub add : CanAdd e n (get_or u k 0) (get_or v k 0)

pub record CanShedOne (e : List ℕ) (n : ℕ) (s t u v : List ℕ) (k : ℕ) : Type 0 where
  pub slot : InBoth s t u v k
  pub within : Within e n (get_or s k 0) (get_or t k 0)
  pub there : changed s t u v k ≡ true → (get_or s k 0 ≡ get_or t k 0 → ⊥) → 1 ≤ get_or e (get_or s k 0 * n + get_or t k 0) 0

-- whether it does, and its new edge stands at place i, or its old one
abbrev pub gained : List ℕ → List ℕ → List ℕ → List ℕ → ℕ → ℕ → ℕ → Bool
gained s t u v n i k = changed s t u v k && cell u v n i k

abbrev pub lost : List ℕ → List ℕ → List ℕ → List ℕ → ℕ → ℕ → ℕ → Bool
lost s t u v n i k = changed s t u v k && cell s t n i k

-- old slots (s, t) and new slots (u, v)
pub record Both (n : ℕ) (s t u v : List ℕ) (m : ℕ) : Type 0 where
  pub sources : m ≤ length s
  pub targets : m ≤ length t
  pub new_sources : m ≤ length u
  pub new_targets : m ≤ length v
  pub ends : Ends s t n m
  pub new_ends : Ends u v n m
  pub few : m < 2 ^ 31

pub record CanGain (e : List ℕ) (n : ℕ) (s t u v : List ℕ) (m : ℕ) : Type 0 where
  pub both : Both n s t u v m
  pub square : n * n ≤ length e
  pub room : (i : ℕ) → i < n * n → get_or e i 0 ≤ m

pub record CanShed (e : List ℕ) (n : ℕ) (s t u v : List ℕ) (m : ℕ) : Type 0 where
  pub both : Both n s t u v m
  pub square : n * n ≤ length e
  pub there : (i : ℕ) → i < n * n → count (lost s t u v n i) m ≤ get_or e i 0

-- each number grew, or fell, by how many of the first k slots pass a test of its place
pub record Grown (q : ℕ → ℕ → Bool) (k : ℕ) (e e' : List ℕ) : Type 0 where
  pub at : (i : ℕ) → get_or e' i 0 ≡ get_or e i 0 + count (q i) k
  pub long : length e' ≡ length e

pub record Fallen (q : ℕ → ℕ → Bool) (k : ℕ) (e e' : List ℕ) : Type 0 where
  pub at : (i : ℕ) → get_or e' i 0 + count (q i) k ≡ get_or e i 0
  pub long : length e' ≡ length e

pub record CanUpdate (e : List ℕ) (n : ℕ) (s t u v : List ℕ) (m : ℕ) : Type 0 where
  pub both : Both n s t u v m
  pub square : n * n ≤ length e
  pub holds : Holds e n s t m

pub record CanFill (e : List ℕ) (n : ℕ) (s t : List ℕ) (m : ℕ) : Type 0 where
  pub square : n * n ≤ length e
  pub sources : m ≤ length s
  pub targets : m ≤ length t
  pub ends : Ends s t n m
  pub few : m < 2 ^ 32
