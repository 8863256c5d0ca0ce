-- The lines of a listing, one after the other. Assumes nothing.
use Rattle.std.proofs.Common.{◌≡◌, refl, ap, subst, Bool, true, false, cond, ℕ, zero, suc, ◌+◌, ◌*◌, ◌≤◌, ◌<◌, List, ◌++◌, eqb, length, length-append, get_or, arith, add-one}
use Rattle.refusals.specs.Rows.{row, row_some}
use Rattle.refusals.specs.declared.Refusal.{Refusal}
use Rattle.move_ledger.specs.Graph.{Load, edges}
use Rattle.move_ledger.specs.Answer.{Answer, refused, number}
use Rattle.move_ledger.specs.Ledger.{Question, edge_count, edge_at, kth, ask}
use Rattle.move_ledger.specs.Loading.{refusal}
use Rattle.move_area.specs.Area.{decode}
use Rattle.move_area.specs.Fixed.{checks_out}
use Rattle.move_area.specs.Calls.{asked, checked}
use Rattle.move_questions.specs.Answers.{place_in, Checked, Listable}
use Rattle.reduced_chunk_graph.specs.Asked.{asked-back, checks, head-inside, totals_inside, edges-told, edge-told}
use Rattle.move_rows.specs.Listed.{RowTold, listable_known, listable_some}
use Rattle.moves_replies.specs.Words.{reply}
use Rattle.moves_replies.specs.Room.{reply_long}
use Rattle.moves_replies.specs.declared.Replies.{Replies}
use Rattle.moves_replies.specs.Wrote.{Wrote, HasRoom, wrote_none, wrote_then}
use Rattle.moves_commands.specs.Program.{N, unmarked, areas, lines, lines_of, listing}
use Rattle.moves_commands.specs.Steps.{CanList, CanListAll}
use Rattle.moves_commands.specs.Few.{edges_few}

pub lines_long : (asks : Question → Answer) (n : ℕ) → length (lines asks n) ≤ 64 * n
unfolding lines
lines_long asks zero = omega arith
lines_long asks (suc n) = simp length-append (omega (arith, lines_long asks n, reply_long (asks (edge_at n))))

-- the first k lines are written, and one more
pub lines_none : (asks : Question → Answer) (r : Replies) → HasRoom 0 r → Wrote (lines asks 0) r r
unfolding lines
lines_none asks r h = wrote_none r h

pub lines_more : (asks : Question → Answer) (k : ℕ) {r s t : Replies} → Wrote (lines asks k) r s → Wrote (reply (asks (edge_at k))) s t → Wrote (lines asks (k + 1)) r t
unfolding lines
lines_more asks k v w = rw add-one (wrote_then v w)

pub lines_room : (asks : Question → Answer) (n k : ℕ) {r s : Replies} → Wrote (lines asks k) r s → k < n → HasRoom (64 * n) r → HasRoom 64 s
lines_room asks n k v h b = omega (arith, lines_long asks k, v.put.end, v.put.long)

-- of a graph of the program's size
pub asked_few : (load : Load) (fixed : List ℕ) (N : ℕ) (area : List ℕ) (n : ℕ) → number n ≡ asked load fixed N area edge_count → n ≤ load.D + load.E
unfolding asked checked ask
asked_few load fixed N area n = go (eqb (refusal load fixed N (length area)) 0) (checks_out load fixed N area)
  where
    p : List ℕ
    p = (decode load N area).ledger.place

    go : (t u : Bool) → number n ≡ cond t (cond u (number (length (edges load (decode load N area).ledger.place))) (refused 9)) (refused (refusal load fixed N (length area))) → n ≤ load.D + load.E
    go true true e = let q : n ≡ length (edges load (decode load N area).ledger.place) = cc in omega (arith, edges_few load (decode load N area).ledger.place)
    go true false e = let z : ◌≡◌ {A = ℕ} 0 1 = cc in absurd (omega arith)
    go false u e = let z : ◌≡◌ {A = ℕ} 0 1 = cc in absurd (omega arith)

-- the check's word at each call of `listing`
module _ {load : Load} {area order degrees : List ℕ} where
  module _ {known : ℕ} (can : CanList load area known order degrees) where
    pub list_some : (l : Load) × Listable l N area known order degrees
    list_some = listable_some can.told refl can.sets

    pub line-told : (k : ℕ) {x : Answer} → ((l : Load) → Listable l N area known order degrees → x ≡ kth (edges l (place_in l N area)) k) → reply x ≡ reply (areas.asks load area (edge_at k))
    line-told k f = ap reply (edge-told load (unmarked load) N area can.told.row k _ (f load (listable_known can.told refl can.sets)))

  module _ (can : CanListAll load area order degrees) where
    pub list_one : {known : ℕ} → known ≡ get_or area (N * N) 0 → CanList load area known order degrees
    list_one e = record { told = can.told; sets = e }

    pub head-there : N * N < length area
    head-there = head-inside load (unmarked load) N area can.told.row

    pub totals_there : N * N + 5 ≤ length area
    totals_there = totals_inside load (unmarked load) N area can.told.row

    pub count-told : {n : ℕ} → ((l : Load) (registered : ℕ) → Checked l N area registered → n ≡ length (edges l (place_in l N area))) → number n ≡ areas.asks load area edge_count
    count-told f = edges-told load (unmarked load) N area can.told.row _ (f load _ (checks load (unmarked load) N area can.told.row))

    pub all_few : {n : ℕ} → number n ≡ areas.asks load area edge_count → n ≤ 144
    all_few e = omega (arith, asked_few load (unmarked load) N area _ e, can.few)

-- the lines, and then the count
pub listing_steps : (asks : Question → Answer) (n : ℕ) {r s t : Replies} → number n ≡ asks edge_count → Wrote (lines asks n) r s → Wrote (reply (number n)) s t → Wrote (listing asks) r t
unfolding listing
listing_steps asks n {r} {s} {t} e v w = subst (λ a. Wrote (lines_of asks a ++ reply a) r t) e (wrote_then v w)

listing_refused : (asks : Question → Answer) (row : ℕ) {r s : Replies} → refused row ≡ asks edge_count → Wrote (reply (refused row)) r s → Wrote (listing asks) r s
unfolding listing
listing_refused asks row {r} {s} e w = subst (λ a. Wrote (lines_of asks a ++ reply a) r s) e w

-- the check's answer: a row that fits turns the listing back
pub listing-back : {load : Load} {area order degrees : List ℕ} (r : Refusal) → RowTold load (unmarked load) N area degrees order (row r) → {s t : Replies} → Wrote (reply (refused (row r))) s t
    → Wrote (listing (areas.asks load area)) s t
listing-back {load} {area} r t w = listing_refused (areas.asks load area) (row r) (asked-back load (unmarked load) N area t.row (row_some r) edge_count) w
