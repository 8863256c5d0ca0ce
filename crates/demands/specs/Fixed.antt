-- A fixed atom stays in its chunk. Assumes nothing.
use Rattle.std.specs.Prelude.{ℕ, ◌<◌, ◌≡◌, true, false}
use Rattle.std.proofs.Math.Path.{refl}
use Rattle.std.proofs.Common.{ap, ◌∙◌}
use mathlib.Core.List.{List, [], ◌∷◌}
use Rattle.move_ledger.specs.Graph.{Load, at}
use Rattle.move_ledger.specs.Answer.{is_refused}
use Rattle.move_ledger.specs.Ledger.{Ledger, loaded, stays, Call, try_move, asks, call, ledger}
use Rattle.move_ledger.specs.Loading.{entry_sets, lent_set}
use Rattle.move_ledger.specs.LoadLaws.{entry_sets-at}
use Rattle.move_ledger.proofs.MoveLaws.{fixed_atom}
use Rattle.move_area.specs.Area.{State, decode}
use Rattle.move_area.specs.Calls.{first, new}
use Rattle.move_area.specs.History.{holding_decode, area_after, loading-holds, run}
use Rattle.demands.specs.History.{history}

module _ (load : Load) (fixed : List ℕ) (N : ℕ) (b : ℕ) (h : stays fixed b ≡ true) where
  call_stays : (l : Ledger) (c : Call) → at (call load fixed N l c).after.place b ≡ at l.place b
  unfolding call
  call_stays l (try_move a s) = fixed_atom load fixed N l a s b h
  call_stays l (asks q) = refl

  list_stays : (l : Ledger) (calls : List Call) → at (ledger load fixed N l calls).place b ≡ at l.place b
  unfolding ledger
  list_stays l [] = refl
  list_stays l (c ∷ calls) = list_stays (call load fixed N l c).after calls ∙ call_stays l c

-- a fixed atom is in its entry set after every list of calls, refused ones included
pub fixed_stays : (load : Load) (fixed : List ℕ) (N : ℕ) (sets : List ℕ) (calls : List Call) (b : ℕ) → b < load.A → stays fixed b ≡ true
    → at (history load fixed N sets calls).place b ≡ lent_set load sets b
fixed_stays load fixed N sets calls b i h = list_stays load fixed N b h (loaded (entry_sets load sets)) calls ∙ entry_sets-at load sets b i

-- and so on the areas that the calls are lent
pub fixed_stays_on_areas : (load : Load) (fixed : List ℕ) (N : ℕ) (sets area : List ℕ) (calls : List Call) (b : ℕ) → b < load.A → stays fixed b ≡ true
    → is_refused (new load fixed N sets area).answer ≡ false
    → at (decode load N (area_after load fixed N (new load fixed N sets area).area calls)).ledger.place b ≡ lent_set load sets b
fixed_stays_on_areas load fixed N sets area calls b i h u =
    let r = run load fixed N (new load fixed N sets area).area (first load N sets) calls (loading-holds load fixed N sets area u) in
    ap (λ (z : State). at z.ledger.place b) (holding_decode r.holds) ∙ ap (λ (l : Ledger). at l.place b) r.ends
    ∙ fixed_stays load fixed N sets calls b i h
