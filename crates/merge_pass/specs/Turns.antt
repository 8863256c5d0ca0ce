-- What a turn of the pass relies on and leaves, and the pass itself. Assumes nothing.
use Rattle.std.specs.Prelude.{ℕ, ◌+◌, ◌<◌, ◌≤◌, ◌≡◌, true, false, cond, List, get_or, length, set}
use Rattle.graphs.specs.Count.{ind, count}
use Rattle.merge_state.specs.declared.Sizes.{Sizes}
use Rattle.merge_state.specs.State.{None, Graph}
use Rattle.merge_state.specs.Merges.{waits}
use Rattle.merge_state.specs.Methods.{merges, passed}
use Rattle.merge_state.specs.Table.{any_misfit, any_gone}
use Rattle.merge_area.specs.Layout.{cell, head}
use Rattle.merge_area.specs.Read.{read}
use Rattle.merge_area.specs.Writes.{candidate_area, pass_area}
use Rattle.merge_laws.specs.Rows.{Stood}
use Rattle.merge_reads.specs.Pass.{CanPlace}
use Rattle.merge_pass.specs.declared.Placed.{Placed}
use Rattle.merge_pass.specs.declared.Placed.TheVariants.{Merged, Created}

-- the kind, 0 merged or 1 created, and the number of candidate x with proposal p and bar b
unfoldable pub kind_of : Graph → ℕ → ℕ → ℕ → ℕ
kind_of g x p b = cond (merges g x p b) 0 1

unfoldable pub number_of : Graph → ℕ → ℕ → ℕ → ℕ
number_of g x p b = cond (merges g x p b) p (g.initial + g.created)

-- the kind that is answered, and the number
abbrev pub kind_in : Placed → ℕ
kind_in (Merged x) = 0
kind_in (Created n) = 1

abbrev pub number_in : Placed → ℕ
number_in (Merged x) = x.0
number_in (Created n) = n

pub record PlacedIn (z : Sizes) (a : List ℕ) (x p b : ℕ) (r : Placed) (after : List ℕ) : Type 0 where
  pub kind : kind_in r ≡ kind_of (read z a) x p b
  pub number : number_in r ≡ number_of (read z a) x p b
  pub area : after ≡ candidate_area z a x p b

-- candidate j, if chunk k is one, can be placed and its answers written; ps and bs are proposals and bars, ks and ns the answer lists
pub record CanAnswer (z : Sizes) (a ps bs ks ns : List ℕ) (k j : ℕ) : Type 0 where
  pub place : CanPlace z a k (get_or ps j None)
  pub proposals : j < length ps
  pub bars : j < length bs
  pub kinds : j < length ks
  pub numbers : j < length ns

pub record CanTurn (z : Sizes) (a ps bs ks ns : List ℕ) (k j : ℕ) : Type 0 where
  pub stood : Stood z a
  pub source : k < cell a (head z 1)
  pub answer : waits (read z a) k ≡ true → CanAnswer z a ps bs ks ns k j

-- what a turn leaves: area r, answer lists ks' and ns', and i candidates so far
pub record TurnedIn (z : Sizes) (a ps bs ks ns : List ℕ) (k j i : ℕ) (r ks' ns' : List ℕ) : Type 0 where
  pub next : i ≡ j + ind (waits (read z a) k)
  pub area : r ≡ cond (waits (read z a) k) (candidate_area z a k (get_or ps j None) (get_or bs j 0)) a
  pub kinds : ks' ≡ cond (waits (read z a) k) (set ks j (kind_of (read z a) k (get_or ps j None) (get_or bs j 0))) ks
  pub numbers : ns' ≡ cond (waits (read z a) k) (set ns j (number_of (read z a) k (get_or ps j None) (get_or bs j 0))) ns

pub record CanPass (z : Sizes) (a ps bs ks ns : List ℕ) : Type 0 where
  pub stood : Stood z a
  pub proper : any_misfit (cell a (head z 0)) true ps ≡ false
  pub unmerged : any_gone (read z a) ps ≡ false
  pub left : cell a (head z 0) + cell a (head z 2) + count (waits (read z a)) (cell a (head z 1)) ≤ z.chunks
  pub proposals : length ps ≡ count (waits (read z a)) (cell a (head z 1))
  pub bars : length bs ≡ count (waits (read z a)) (cell a (head z 1))
  pub kinds : length ks ≡ count (waits (read z a)) (cell a (head z 1))
  pub numbers : length ns ≡ count (waits (read z a)) (cell a (head z 1))

-- what the pass leaves
pub record PassedIn (z : Sizes) (a ps bs r ks ns : List ℕ) : Type 0 where
  pub area : r ≡ pass_area z a ps bs (cell a (head z 1))
  pub kinds : ks ≡ (passed (read z a) ps bs (cell a (head z 1))).kinds
  pub numbers : ns ≡ (passed (read z a) ps bs (cell a (head z 1))).numbers
