-- A node starts white, is gray exactly while its edges are gone through, then black to the end: of every run. Assumes nothing.
use Rattle.std.specs.Prelude.{ℕ, ◌<◌, ◌≡◌, ◌↔◌, true}
use Rattle.std.proofs.Common.{arith, sym, ap, subst, ◌∙◌}
use Rattle.std.proofs.Math.Decide.{ℕ_discrete}
use Rattle.graphs.specs.Lists.{has}
use Rattle.graph_colours.specs.declared.State.{State}
use Rattle.graph_colours.specs.declared.State.TheVariants.{White, Gray, Black}
use Rattle.graph_colours.specs.States.{code}
use Rattle.graph_colours.specs.Colours.{next_state, View, Turns, Step, opens, passes, closes, Run, none, more}

-- at every moment of a run
pub record Life (n : ℕ) (d : ℕ → ℕ) (v : View) : Type 0 where
  -- a white node: none of its edges is gone through
  pub white : (x : ℕ) → x < n → v.state x ≡ White → v.cursor x ≡ 0
  -- a gray node: its edges are being gone through
  pub gray : (x : ℕ) → x < n → (v.state x ≡ Gray) ↔ (has x v.path ≡ true)
  -- a black node: all its edges are gone through
  pub black : (x : ℕ) → x < n → v.state x ≡ Black → v.cursor x ≡ d x

-- what every next state keeps
module _ (P : State → Type 0) (t : (s : State) → P s → P (next_state s)) {n : ℕ} {x : ℕ} (b : x < n) where
  keeps_turn : (v w : View) (y : ℕ) → Turns n y v.state w.state → P (v.state x) → P (w.state x)
  keeps_turn v w y o h = elim (ℕ_discrete x y) [
    | yes q ↦ subst P (sym (ap w.state q ∙ o.this ∙ ap (λ z. next_state (v.state z)) (sym q))) (t (v.state x) h)
    | no q ↦ subst P (sym (o.others x b q)) h
  ]

  keeps_step : {d : ℕ → ℕ} {f : ℕ → ℕ → ℕ} {v w : View} → Step n d f v w → P (v.state x) → P (w.state x)
  keeps_step {v} {w} (opens y o) h = keeps_turn v w y o.turns h
  keeps_step (passes y z o) h = subst P (sym (o.states x b)) h
  keeps_step {v} {w} (closes y o) h = keeps_turn v w y o.turns h

  keeps : {d : ℕ → ℕ} {f : ℕ → ℕ → ℕ} {v w : View} → Run n d f v w → P (v.state x) → P (w.state x)
  keeps none h = h
  keeps (more r s) h = keeps_step s (keeps r h)

-- black to the end: from any moment on
pub black-stays : {n : ℕ} {d : ℕ → ℕ} {f : ℕ → ℕ → ℕ} {v w : View} → Run n d f v w → (x : ℕ) → x < n → v.state x ≡ Black → w.state x ≡ Black
black-stays r x b h = keeps (λ s. s ≡ Black) (λ s q. ap next_state q) b r h

-- and a node that was discovered is white no more
pub never_white : {n : ℕ} {d : ℕ → ℕ} {f : ℕ → ℕ → ℕ} {v w : View} → Run n d f v w → (x : ℕ) → x < n → (v.state x ≡ White → ⊥) → w.state x ≡ White → ⊥
never_white r x b h = keeps (λ s. s ≡ White → ⊥) next_known b r h
  where
    next_known : (s : State) → (s ≡ White → ⊥) → next_state s ≡ White → ⊥
    next_known White q h = omega (arith, ap code h)
    next_known Gray q h = omega (arith, ap code h)
    next_known Black q h = omega (arith, ap code h)
