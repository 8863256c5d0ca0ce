-- What the marks are at the end of a walk. Assumes nothing.
use Prim.Native.Nat.{ℕ, ◌+◌, ◌*◌, ◌<◌}
use native.Mathlib.Omega.{arith}
use native.Mathlib.Decide.{dec_lt}
use mathlib.Core.Path.{◌≡◌, refl, sym, ◌∙◌}
use mathlib.Core.Logic.{◌⊎◌, inl, inr, ⊎_elim}
use mathlib.Core.Bool.{Bool, true, false, not, cond, true≢false}
use mathlib.Core.List.{List}
use lib.ListN.{get_or, length}
use lib.Dec.{eqb}
use Rattle.graphs.specs.Lists.{below}
use Rattle.graphs.specs.Tab.{is_tab}
use Rattle.graphs.specs.Walk.{Walk, one, more, via}
use Rattle.graphs.specs.Walks.{sources-below, join, sound, complete, walk_to}
use Rattle.graph_neighbours.specs.Lists.{deg, nb, edge, Graph, listed, listed-to}
use Rattle.graph_walks.specs.Closed.{flag_edge, closed}
use Rattle.graph_walks.specs.ClosedLaws.{flag_from, flag-to, flag_is, closed-first, closed-next, closed_all}
use Rattle.graph_walks.specs.Marks.{marking}
use Rattle.graph_walks.specs.Spread.{met, stk, every, wide, itself, Offers, Spread, Kept, CanLook, LookedWhere, HandsOn, Scanned, Done, CanReach, Unmarked}
use Rattle.graph_walks.proofs.Layer.{met-yes, met_no, yes-met, kept_trans, kept-met, look_can, turn_skip, turn_more}
use Rattle.graph_walks.proofs.Moves as moves

-- neighbour lists, and rows of flags, as a walk reads them
pub offers_list : {starts list : List ℕ} {n : ℕ} → Graph starts list n → Offers (edge starts list n) n (deg starts) (nb starts list) every
offers_list g = record {
  ends = λ x i b l q. (listed g).ends x i b l;
  step = λ x i b l q. (listed g).step x i b l;
  from = (listed g).from;
  find = λ x y h. let r = (listed g).find x y h in (r.0, r.1, refl, r.2);
}

pub offers_rows : (l : List ℕ) (c n : ℕ) → Offers (flag_edge l c n) n (wide n) itself (flag_edge l c n)
offers_rows l c n = record {
  ends = λ x i b h q. h;
  step = λ x i b h q. q;
  from = flag_from l c n;
  find = λ x y h. (y, flag-to l c n x y h, h, refl);
}

-- the marks after a walk before which no node below n was marked, and which marked the nodes that pass the test r
pub marking_is : {r : ℕ → Bool} {n mark : ℕ} (l : List ℕ) {l' : List ℕ} → Kept n mark l l' → length l' ≡ length l → ((x : ℕ) → x < n → get_or l x 0 < mark) → ((x : ℕ) → r x ≡ true → x < n)
    → ((x : ℕ) → x < n → met mark l' x ≡ 1 → r x ≡ true) → ((x : ℕ) → r x ≡ true → met mark l' x ≡ 1) → l' ≡ marking r mark l
unfolding marking
marking_is {r} {n} {mark} l {l'} k long fresh inside to of = is_tab l' (length l) _ long (λ x b. go x (r x) refl)
  where
    go : (x : ℕ) (t : Bool) → r x ≡ t → get_or l' x 0 ≡ cond t mark (get_or l x 0)
    go x true q = k.new x (fresh x (inside x q)) (yes-met mark l' x (of x q))
    go x false q = elim (dec_lt x n) [
      | no b ↦ k.beyond x (omega arith)
      | yes b ↦ elim (dec_lt (get_or l' x 0) mark) [
        | yes m ↦ k.low x m
        | no m ↦ absurd (true≢false (sym (to x b (met-yes mark l' x (omega arith))) ∙ q))
      ]
    ]

abbrev none : ℕ → Bool
none x = false

-- at first no node is marked
pub start : {n : ℕ} {d : ℕ → ℕ} {f : ℕ → ℕ → ℕ} {h : ℕ → ℕ → Bool} {r : ℕ → Bool} (mark : ℕ) (l s : List ℕ) → ((x : ℕ) → x < n → get_or l x 0 < mark) → Spread n d f h none r (met mark l) (stk s) 0 n 0
start mark l s fresh = moves.first (λ x b q. absurd (true≢false (sym q))) (λ x b w. absurd (omega (arith, met_no mark l x (fresh x b))))

-- after a scan of t, whose neighbours the walk may mark
module _ {e : ℕ → ℕ → Bool} {n : ℕ} {d : ℕ → ℕ} {f : ℕ → ℕ → ℕ} {h : ℕ → ℕ → Bool} (G : Offers e n d f h) (r : ℕ → Bool) {mark : ℕ} {l s l' s' : List ℕ} {sp sp' t : ℕ}
    (v : Scanned e n d f h mark l s sp t (d t) l' s' sp') (w : Spread n d f h none r (met mark l) (stk s) sp n 0) (gives : (y : ℕ) → e t y ≡ true → r y ≡ true) where
  scanned : Spread n d f h none r (met mark l') (stk s') sp' t (d t)
  scanned = v.state none r (moves.begin w t) (λ y k u. gives y k)

  pub scan_done : Spread n d f h none r (met mark l') (stk s') sp' n 0
  scan_done = moves.done scanned (omega arith)

  pub scan_met : (y : ℕ) → e t y ≡ true → met mark l' y ≡ 1
  scan_met y k = let q = G.find t y k in rw q.3 at (scanned.part q.0 q.1 q.1 q.2)

-- `reach`
module _ {starts list : List ℕ} {n mark root : ℕ} {l s : List ℕ} (can : CanReach starts list n mark root l s) where
  abbrev e : ℕ → ℕ → Bool
  e = edge starts list n

  abbrev to : ℕ → Bool
  to = via e (below n) root

  low : (x y : ℕ) → e x y ≡ true → Rattle.graphs.specs.Lists.has x (below n) ≡ true
  low = sources-below (listed can.graph).from

  gives : (y : ℕ) → e root y ≡ true → to y ≡ true
  gives y k = complete e (below n) low root y (one k)

  hands : HandsOn e none to
  hands x y w k u = complete e (below n) low root y (join (sound e (below n) root x w) (one k))

  module _ {l₁ s₁ l₂ s₂ : List ℕ} {sp : ℕ} (v : Scanned e n (deg starts) (nb starts list) every mark l s 0 root (deg starts root) l₁ s₁ sp)
      (w : Done e n (deg starts) (nb starts list) every mark l₁ s₁ sp l₂ s₂ 0) where
    last : Spread n (deg starts) (nb starts list) every none to (met mark l₂) (stk s₂) 0 n 0
    last = w.state none to hands (scan_done (offers_list can.graph) to v (start mark l s can.fresh) gives)

    all : {x y : ℕ} → x < n → met mark l₂ x ≡ 1 → Walk e x y → met mark l₂ y ≡ 1
    all b m (one {x} {y} k) = moves.step-out (offers_list can.graph) last x y b m refl k
    all b m (more {x} {y} k p) = all (listed-to (listed can.graph) x y k) (moves.step-out (offers_list can.graph) last x y b m refl k) p

    seed : (y : ℕ) → e root y ≡ true → met mark l₂ y ≡ 1
    seed y k = kept-met w.kept y (scan_met (offers_list can.graph) to v (start mark l s can.fresh) gives y k)

    from_root : {y : ℕ} → Walk e root y → met mark l₂ y ≡ 1
    from_root (one {y} k) = seed y k
    from_root (more {y} k p) = all (listed-to (listed can.graph) root y k) (seed y k) p

    pub reach-done : length l₂ ≡ length l → l₂ ≡ marking to mark l
    reach-done long = marking_is l (kept_trans v.kept w.kept) long can.fresh
        (λ x q. walk_to (listed-to (listed can.graph)) (sound e (below n) root x q))
        (λ x b m. last.from x b m refl)
        (λ x q. from_root (sound e (below n) root x q))

-- the closed union of two nodes' edges, after a scan of each and of all that goes on the stack
module _ {deps : ℕ → ℕ → Bool} {n : ℕ} {d : ℕ → ℕ} {f : ℕ → ℕ → ℕ} {h : ℕ → ℕ → Bool} (G : Offers deps n d f h) (source target : ℕ) {mark : ℕ} {l s : List ℕ} (can : Unmarked n mark l s) where
  next-in : (x y : ℕ) → deps x y ≡ true → y < n
  next-in x y k = let q = G.find x y k in rw q.3 at (G.ends x q.0 (G.from x y k) q.1 q.2)

  abbrev in_closed : ℕ → Bool
  in_closed = closed deps n source target

  given_by : (y : ℕ) → (deps source y ≡ true) ⊎ (deps target y ≡ true) → in_closed y ≡ true
  given_by y k = closed-first deps n source target y (⊎_elim (next-in source y) (next-in target y) k) k

  handed-on : HandsOn deps none in_closed
  handed-on x y w k u = closed-next deps n source target G.from x y w k

  module _ {l₁ s₁ l₂ s₂ l₃ s₃ : List ℕ} {sp₁ sp₂ : ℕ} (v : Scanned deps n d f h mark l s 0 source (d source) l₁ s₁ sp₁) (v₂ : Scanned deps n d f h mark l₁ s₁ sp₁ target (d target) l₂ s₂ sp₂)
      (w : Done deps n d f h mark l₂ s₂ sp₂ l₃ s₃ 0) where
    one_row : Spread n d f h none in_closed (met mark l₁) (stk s₁) sp₁ n 0
    one_row = scan_done G in_closed v (start mark l s can.fresh) (λ y k. given_by y (inl k))

    ended : Spread n d f h none in_closed (met mark l₃) (stk s₃) 0 n 0
    ended = w.state none in_closed handed-on (scan_done G in_closed v₂ one_row (λ y k. given_by y (inr k)))

    seeds : (y : ℕ) → (deps source y ≡ true) ⊎ (deps target y ≡ true) → met mark l₃ y ≡ 1
    seeds y k = kept-met w.kept y (⊎_elim
        (λ a. kept-met v₂.kept y (scan_met G in_closed v (start mark l s can.fresh) (λ y k. given_by y (inl k)) y a))
        (λ a. scan_met G in_closed v₂ one_row (λ y k. given_by y (inr k)) y a)
        k)

    closed-met : (x : ℕ) → in_closed x ≡ true → (x < n) × (met mark l₃ x ≡ 1)
    closed-met = closed_all deps n source target (λ x. (x < n) × (met mark l₃ x ≡ 1))
        (λ x k. (⊎_elim (next-in source x) (next-in target x) k, seeds x k))
        (λ x y m k. (next-in x y k, moves.step-out G ended x y m.0 m.1 refl k))

    pub union-done : length l₃ ≡ length l → l₃ ≡ marking in_closed mark l
    union-done long = marking_is l (kept_trans (kept_trans v.kept v₂.kept) w.kept) long can.fresh
        (λ x k. (closed-met x k).0)
        (λ x b m. ended.from x b m refl)
        (λ x k. (closed-met x k).1)

-- one flag of row t
module _ (q : List ℕ) (c : ℕ) {n mark : ℕ} {l₀ s₀ l s : List ℕ} {sp₀ sp t j : ℕ} (tn : t < n)
    (v : Scanned (flag_edge q c n) n (wide n) itself (flag_edge q c n) mark l₀ s₀ sp₀ t j l s sp) (jn : j < n) where
  pub flag_can : CanLook l s mark sp j
  flag_can = look_can v.ready jn

  pub flag-more : (b : Bool) → b ≡ not (eqb (get_or q (t * c + j) 0) 0) → {l' s' : List ℕ} {sp' : ℕ} → LookedWhere b l s mark sp j l' s' sp'
      → Scanned (flag_edge q c n) n (wide n) itself (flag_edge q c n) mark l₀ s₀ sp₀ t (j + 1) l' s' sp'
  flag-more true is w = turn_more (offers_rows q c n) v tn jn (flag_is q c n t j tn jn ∙ sym is) refl (w.looked refl)
  flag-more false is w = let k = w.skipped refl in rw (k.0, k.1, k.2) (turn_skip (offers_rows q c n) v (λ z. absurd (true≢false (sym z ∙ flag_is q c n t j tn jn ∙ sym is))))
