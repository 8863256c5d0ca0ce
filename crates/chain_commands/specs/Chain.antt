-- The load that the program `chain` writes, and what stands at each place of its lists. Assumes nothing.
use Rattle.std.specs.Prelude.{ℕ, suc, ◌+◌, ◌-◌, ◌≤◌, ◌<◌, ◌≡◌, refl, cond, List, leb, replicate}
use Rattle.std.proofs.Common.{arith, ap, ◌∙◌, le-leb}
use Rattle.std.proofs.Math.Decide.{ℕ_discrete}
use Rattle.std.proofs.lemmas.Bool.{lt-leb}
use Rattle.graphs.specs.Tab.{tab, tab-at}
use Rattle.move_ledger.specs.Graph.{Load, none, at, owner}
use Rattle.move_ledger.specs.LoadLaws.{Starts, owner_is}

-- n atoms, each on the next; of 16 entry bits none has a host
abbrev pub chain : ℕ → Load
chain n =
    record {
      A = n;
      D = n - 1;
      E = 16;
      starts = tab (λ i. cond (leb i (n - 1)) i (n - 1)) (n + 1);
      dependencies = tab suc (n - 1);
      hosts = replicate 16 none;
    }

-- the atoms' sets are 1 to n
abbrev pub sets : ℕ → List ℕ
sets n = tab suc n

module _ (n : ℕ) where
  pub set_at : (i : ℕ) → i < n → at (sets n) i ≡ suc i
  set_at i h = tab-at suc n i h

  pub next-at : (k : ℕ) → k < n - 1 → at (chain n).dependencies k ≡ suc k
  next-at k h = tab-at suc (n - 1) k h

  start-at : (i : ℕ) → i ≤ n - 1 → at (chain n).starts i ≡ i
  start-at i h = tab-at (λ i. cond (leb i (n - 1)) i (n - 1)) (n + 1) i (omega arith) ∙ rw (le-leb i (n - 1) h) refl

  start-end : at (chain n).starts n ≡ n - 1
  start-end = go (ℕ_discrete n (n - 1))
    where
      go : Dec (n ≡ n - 1) → at (chain n).starts n ≡ n - 1
      go (yes e) = omega (arith, start-at n (omega arith))
      go (no d) = tab-at (λ i. cond (leb i (n - 1)) i (n - 1)) (n + 1) n (omega arith) ∙ rw (lt-leb n (n - 1) (omega arith)) refl

  pub starts : Starts (chain n)
  starts = record { first = start-at 0 (omega arith); step = λ i h. up i h (ℕ_discrete (suc i) n); last = start-end }
    where
      up : (i : ℕ) → i < n → Dec (suc i ≡ n) → at (chain n).starts i ≤ at (chain n).starts (suc i)
      up i h (yes e) = omega (arith, start-at i (omega arith), start-end, ap (at (chain n).starts) e)
      up i h (no d) = omega (arith, start-at i (omega arith), start-at (suc i) (omega arith))

  -- entry k is the dependency of atom k
  pub owner_at : (k : ℕ) → k < n - 1 → owner (chain n) k ≡ k
  owner_at k h =
      owner_is starts k k (omega arith) (omega (arith, start-at k (omega arith))) (omega (arith, start-at (suc k) (omega arith)))
