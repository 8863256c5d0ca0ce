-- The moves of the search as steps of the book's walk. Assumes nothing.
use Prim.Native.Nat.{ℕ, zero, suc, ◌+◌, ◌-◌, ◌<◌, ◌≤◌}
use native.Mathlib.Omega.{arith}
use native.Mathlib.Numerals.{add-one}
use mathlib.Core.Path.{◌≡◌, refl, sym, ap, ◌∙◌}
use mathlib.Core.Logic.{◌⊎◌}
use mathlib.Core.List.{List, [], ◌∷◌}
use lib.ListN.{length, set}
use lib.Seq.{get_or-set_same, get_or-set_other}
use Rattle.graph_colours.specs.declared.State.{State}
use Rattle.graph_colours.specs.declared.State.TheVariants.{White, Gray, Black}
use Rattle.graph_colours.specs.Colours.{next_state, View, Next, Opens, Passes, Closes, Run, none, more, held, view}
use Rattle.graph_depth_first.specs.Steps.{at, state_at}

held_more : (s : ℕ → ℕ) (p : ℕ) → held s (p + 1) ≡ s p ∷ held s p
unfolding held
held_more s p = rw add-one refl

pub held_none : (s : ℕ → ℕ) → held s 0 ≡ []
unfolding held
held_none s = refl

held_top : (s : ℕ → ℕ) (p : ℕ) → 0 < p → held s p ≡ s (p - 1) ∷ held s (p - 1)
held_top s p b = let q : p ≡ (p - 1) + 1 = omega arith in ap (held s) q ∙ held_more s (p - 1)

held_same : (s t : ℕ → ℕ) (p : ℕ) → ((i : ℕ) → i < p → t i ≡ s i) → held t p ≡ held s p
unfolding held
held_same s t zero h = refl
held_same s t (suc p) h = rw (h p (omega arith), held_same s t p (λ i b. h i (omega arith))) refl

module _ (n : ℕ) (d : ℕ → ℕ) (f : ℕ → ℕ → ℕ) (states : List State) (cursor stack : List ℕ) (sp : ℕ) (long : n ≤ length states) where
  -- the node on top of the stack is the one opened last
  pub next_top : (t y : ℕ) → t ≡ at stack (sp - 1) → 0 < sp → at cursor t < d t → f t (at cursor t) ≡ y → Next d f (view states cursor stack sp) t y
  next_top t y q b m e = record { rest = held (at stack) (sp - 1); top = rw q (held_top (at stack) sp b); more = m; there = e }

  pub view_opens : (y : ℕ) → y < n → sp < length stack → state_at states y ≡ White → (held (at stack) sp ≡ []) ⊎ ((x : ℕ) × Next d f (view states cursor stack sp) x y)
      → Opens n d f (view states cursor stack sp) (view (set states y Gray) cursor (set stack sp y) (sp + 1)) y
  view_opens y b room new from = record {
    node = b;
    white = new;
    from = from;
    turns = record {
      this = get_or-set_same states y Gray White (omega arith) ∙ sym (ap next_state new);
      others = λ x h q. get_or-set_other states y x Gray White q;
    };
    cursors = λ x h. refl;
    path = held_more (at (set stack sp y)) sp ∙ rw (get_or-set_same stack sp y 0 room, held_same (at stack) (at (set stack sp y)) sp (λ i h. get_or-set_other stack sp i y 0 (λ q. omega arith))) refl;
  }

  pub view-passes : (t y : ℕ) → t < n → n ≤ length cursor → Next d f (view states cursor stack sp) t y → (state_at states y ≡ White → ⊥)
      → Passes n d f (view states cursor stack sp) (view states (set cursor t (at cursor t + 1)) stack sp) t y
  view-passes t y b room next known = record {
    next = next;
    known = known;
    states = λ z h. refl;
    this = get_or-set_same cursor t (at cursor t + 1) 0 (omega arith);
    others = λ z h q. get_or-set_other cursor t z (at cursor t + 1) 0 q;
    path = refl;
  }

  pub view-closes : (t : ℕ) → t < n → t ≡ at stack (sp - 1) → 0 < sp → state_at states t ≡ Gray → at cursor t ≡ d t → Closes n d (view states cursor stack sp) (view (set states t Black) cursor stack (sp - 1)) t
  view-closes t b q some gray all = record {
    path = rw q (held_top (at stack) sp some);
    all = all;
    turns = record {
      this = get_or-set_same states t Black White (omega arith) ∙ sym (ap next_state gray);
      others = λ x h k. get_or-set_other states t x Black White k;
    };
    cursors = λ z h. refl;
  }

pub run_join : {n : ℕ} {d : ℕ → ℕ} {f : ℕ → ℕ → ℕ} {u v w : View} → Run n d f u v → Run n d f v w → Run n d f u w
run_join r none = r
run_join r (more q s) = more (run_join r q) s
