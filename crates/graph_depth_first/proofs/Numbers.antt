-- The numbers of the nodes, by their states. Assumes nothing.
use Rattle.std.specs.Prelude.{ℕ, zero, suc, ◌<◌, ◌≤◌, ◌≡◌, refl, List, cond, eqb, set, length}
use Rattle.std.proofs.Common.{arith, ap, sym, ◌∙◌}
use Rattle.std.proofs.Math.Decide.{ℕ_discrete}
use borrow.Author.Tests.{eq-eqb, ne_eqb}
use lib.Seq.{get_or-set_same, get_or-set_other}
use Rattle.graphs.specs.Total.{is0, whites, total-same}
use Rattle.graph_colours.specs.declared.State.{State}
use Rattle.graph_colours.specs.declared.State.TheVariants.{White, Gray, Black}
use Rattle.graph_colours.specs.States.{code}
use Rattle.graph_colours.specs.Colours.{colour_of}
use Rattle.graph_depth_first.specs.Search.{size}
use Rattle.graph_depth_first.specs.Steps.{state_at}

pub number_white : (k : ℕ) → colour_of k ≡ White → k ≡ 0
number_white zero h = refl
number_white (suc zero) h = absurd (omega (arith, ap code h))
number_white (suc (suc k)) h = absurd (omega (arith, ap code h))

pub number_gray : (k : ℕ) → colour_of k ≡ Gray → k ≡ 1
number_gray zero h = absurd (omega (arith, ap code h))
number_gray (suc zero) h = refl
number_gray (suc (suc k)) h = absurd (omega (arith, ap code h))

pub number_black : (k : ℕ) → colour_of k ≡ Black → 2 ≤ k
number_black zero h = absurd (omega (arith, ap code h))
number_black (suc zero) h = absurd (omega (arith, ap code h))
number_black (suc (suc k)) h = omega arith

pub black_number : (k : ℕ) → 2 ≤ k → colour_of k ≡ Black
black_number zero h = absurd (omega arith)
black_number (suc zero) h = absurd (omega arith)
black_number (suc (suc k)) h = refl

pub apart : {s t : State} → (code s ≡ code t → ⊥) → s ≡ t → ⊥
apart h q = h (ap code q)

-- c, but v at j
pub put : (ℕ → ℕ) → ℕ → ℕ → ℕ → ℕ
put c j v x = cond (eqb x j) v (c x)

module _ (c : ℕ → ℕ) (j v : ℕ) where
  pub put_same : put c j v j ≡ v
  unfolding put
  put_same = rw (eq-eqb j j refl) refl

  pub put_other : (x : ℕ) → (x ≡ j → ⊥) → put c j v x ≡ c x
  unfolding put
  put_other x h = rw (ne_eqb x j h) refl

-- the states are those of the numbers
abbrev pub Agree : ℕ → List State → (ℕ → ℕ) → Type 0
Agree n states c = (x : ℕ) → x < n → state_at states x ≡ colour_of (c x)

-- the state and the number of one node change
pub agree_put : {n : ℕ} (states : List State) (c : ℕ → ℕ) → Agree n states c → n ≤ length states → (j v : ℕ) (q : State) → j < n → q ≡ colour_of v → Agree n (set states j q) (put c j v)
agree_put states c h long j v q jn is x b = elim (ℕ_discrete x j) [
  | yes z ↦ rw z (get_or-set_same states j q White (omega arith) ∙ is ∙ ap colour_of (sym (put_same c j v)))
  | no z ↦ get_or-set_other states j x q White z ∙ h x b ∙ ap colour_of (sym (put_other c j v x z))
]

-- the number that each step makes less, by the states
pub size_states : {n : ℕ} (states : List State) (c : ℕ → ℕ) → Agree n states c → (d u : ℕ → ℕ) (sp : ℕ) → size n d (λ x. code (state_at states x)) u sp ≡ size n d c u sp
unfolding size whites
size_states {n} states c h d u sp = omega (arith, total-same (λ x. is0 (c x)) (λ x. is0 (code (state_at states x))) n (λ x b. rw (h x b) (whiteness (c x))))
  where
    whiteness : (k : ℕ) → is0 (code (colour_of k)) ≡ is0 k
    whiteness zero = refl
    whiteness (suc zero) = refl
    whiteness (suc (suc k)) = refl
