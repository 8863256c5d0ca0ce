-- The merge graph's state. Assumes nothing.
use Rattle.std.specs.Prelude.{ℕ, zero, suc, ◌≡◌, refl, Bool, not, cond, ◌&&◌, List, [], ◌∷◌, ◌++◌, get_or, leb, eqb}
use Rattle.std.proofs.Common.{ap, eq-eqb, ne_eqb}

-- None, in a list of numbers, is 4,294,967,295
abbrev pub None : ℕ
None = 4294967295

-- A chunk is a number below `made`, the initial ones first; a set is a number, its bit 0 lowest.
pub record Graph : Type 0 where
  pub initial : ℕ
  pub made : ℕ
  pub created : ℕ
  -- the first chunk depends on the second
  pub depends : ℕ → ℕ → Bool
  -- the chunk has side effects
  pub effects : ℕ → Bool
  -- the chunk needs creation
  pub needs : ℕ → Bool
  -- every (chunk, module) ever listed, in order: a chunk's modules are its entries here
  pub log : List (ℕ × ℕ)
  -- every (set, chunk)
  pub sets : List (ℕ × ℕ)
  -- a module's chunk, or None
  pub home : ℕ → ℕ
  -- the chunk registered for a key, or None
  pub keys : ℕ → ℕ
  -- merged chunks stand for their target: a mode, chosen at loading by a nonzero number
  pub mode : Bool
  -- in the mode, the chunk that a chunk was merged into, or None
  pub into : ℕ → ℕ

-- f, but v at i
unfoldable pub put : {A : Type 0} → (ℕ → A) → ℕ → A → ℕ → A
put f i v x = cond (eqb x i) v (f x)

pub put_same : {A : Type 0} (f : ℕ → A) (i : ℕ) (v : A) → put f i v i ≡ v
unfolding put
put_same f i v = ap (λ b. cond b v (f i)) (eq-eqb i i refl)

pub put_other : {A : Type 0} (f : ℕ → A) (i : ℕ) (v : A) (x : ℕ) → (x ≡ i → ⊥) → put f i v x ≡ f x
unfolding put
put_other f i v x h = ap (λ b. cond b v (f x)) (ne_eqb x i h)

-- the chunk named with set v, or None
unfoldable pub chunk_of : ℕ → List (ℕ × ℕ) → ℕ
chunk_of v [] = None
chunk_of v (e ∷ l) = cond (eqb e.0 v) e.1 (chunk_of v l)

-- nonzero means yes
abbrev pub yes : ℕ → Bool
yes v = not (eqb v 0)

abbrev pub flag : List ℕ → ℕ → Bool
flag l i = yes (get_or l i 0)

-- an entry of a list of pairs
abbrev pub at : List (ℕ × ℕ) → ℕ → ℕ × ℕ
at l i = get_or l i (0, 0)

-- f 0, .. f (n - 1), of pairs
unfoldable pub pairs : (ℕ → ℕ × ℕ) → ℕ → List (ℕ × ℕ)
pairs f zero = []
pairs f (suc n) = pairs f n ++ (f n ∷ [])

-- v isn't below top, nor None where that is allowed
unfoldable pub misfit : ℕ → Bool → ℕ → Bool
misfit top free v = leb top v && not (free && eqb v None)
