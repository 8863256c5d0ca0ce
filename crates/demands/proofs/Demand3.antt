-- Theorems on the definitions of specs/Demand3: they stand here, so that the crate can be read with a definition changed. Assumes nothing.
use Rattle.std.specs.Prelude.{ℕ, ◌<◌, ◌≡◌, false, List}
use Rattle.std.proofs.Common.{arith, sym, ap, ◌∙◌, ext_get_or}
use Rattle.move_ledger.specs.Graph.{Load, at}
use Rattle.move_ledger.specs.Answer.{is_refused}
use Rattle.move_ledger.specs.Ledger.{Ledger, decide, move, ask, Call, try_move, asks, call}
use Rattle.move_area.specs.Calls.{new}
use Rattle.move_area.specs.History.{call_area, area_after}
use Rattle.demands.specs.History.{history, history-length}
use Rattle.demands.specs.Demand3.{reply, next-answer}

-- the answer to a call is a matter of the placement
same_place : (load : Load) (fixed : List ℕ) (N N' : ℕ) (l l' : Ledger) (c : Call) → l.place ≡ l'.place → reply load fixed N l c ≡ reply load fixed N' l' c
unfolding call move
same_place load fixed N N' l l' (try_move a s) e = ap (λ p. decide load fixed p a s) e
same_place load fixed N N' l l' (asks q) e = ap (λ p. ask load p q) e

-- for every two such lists from one load, whatever the entry sets at loading, whose ledgers end with each atom in the same entry set, the next move or
-- question gets the same answer, with the same marks in both; N may differ too
pub same_placement_same-answer : (load : Load) (fixed : List ℕ) (N N' : ℕ) (sets sets' : List ℕ) (calls calls' : List Call) (next : Call)
    → let l = history load fixed N sets calls in
    let l' = history load fixed N' sets' calls' in
    ((atom : ℕ) → atom < load.A → at l.place atom ≡ at l'.place atom)
    → reply load fixed N l next ≡ reply load fixed N' l' next
same_placement_same-answer load fixed N N' sets sets' calls calls' next h =
    let l = history load fixed N sets calls in
    let l' = history load fixed N' sets' calls' in
    let k = history-length load fixed N sets calls in
    let k' = history-length load fixed N' sets' calls' in
    same_place load fixed N N' l l' next (ext_get_or 0 l.place l'.place (k ∙ sym k') (λ i b. h i (omega arith)))

-- for every two such lists from one load: the answer to the next call
pub same_placement_on_areas : (load : Load) (fixed : List ℕ) (N N' : ℕ) (sets sets' area area' : List ℕ) (calls calls' : List Call) (next : Call)
    → is_refused (new load fixed N sets area).answer ≡ false → is_refused (new load fixed N' sets' area').answer ≡ false
    → let x = (call_area load fixed N (area_after load fixed N (new load fixed N sets area).area calls) next).answer in
    let y = (call_area load fixed N' (area_after load fixed N' (new load fixed N' sets' area').area calls') next).answer in
    ((atom : ℕ) → atom < load.A → at (history load fixed N sets calls).place atom ≡ at (history load fixed N' sets' calls').place atom)
    → x ≡ y
same_placement_on_areas load fixed N N' sets sets' area area' calls calls' next u v h =
    next-answer load fixed N sets area calls next u ∙ same_placement_same-answer load fixed N N' sets sets' calls calls' next h
    ∙ sym (next-answer load fixed N' sets' area' calls' next v)
