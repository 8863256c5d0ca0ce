-- A loading that no row refuses gives a graph in order. Assumes nothing.
use Prim.Native.Nat.{ℕ, zero, suc, ◌+◌, ◌*◌, ◌^◌, ◌<◌, ◌≤◌}
use Rattle.std.proofs.Common.{arith, add-one, sym, ◌∙◌, inr, true≢false, eqb-true, ltb-true, ltb-false}
use Rattle.std.specs.Prelude.{◌≡◌, ◌⊎◌, Bool, true, false, not, cond, List, length, eqb, leb, ltb}
use Rattle.std.proofs.Math.Path.{refl, ap}
use Rattle.std.proofs.Math.Logic.{inl}
use Rattle.std.proofs.Math.ListN.{get_or}
use Rattle.std.proofs.lemmas.Bool.{eqb-false, lt-leb, not-false}
use Rattle.graphs.specs.Bools.{and_right, or_false_left, or_false_right}
use Rattle.graphs.specs.Count.{count, count_le}
use Rattle.graphs.specs.Lists.{some_below, some_none}
use Rattle.entry_set.specs.Sets.{value, width, legal}
use Rattle.merge_state.specs.declared.Sizes.{Sizes}
use Rattle.merge_state.specs.State.{None, Graph, at}
use Rattle.graphs.specs.Walk.{Walk, one, more}
use Rattle.merge_state.specs.Merges.{merged_into}
use Rattle.merge_state.specs.Methods.{appended}
use Rattle.merge_state.specs.Ends.{step-take}
use Rattle.merge_state.specs.Table.{first_fitting, falling, bad_starts, any_misfit}
use Rattle.merge_state.specs.Loading.{Lent, lister, set_at, lent_pair, lent_pairs, loaded, came_before, twice, over_load, bad_load, later_load, load}
use Rattle.merge_state.specs.Ordered.{Ordered, one_longer, appended-kept}
use Rattle.merge_state.specs.Pairs.{pairs-length, pairs-at}
use Rattle.merge_state.specs.Kept.{none-fits, no_misfit}

lister_in : (starts : List ℕ) (n k d : ℕ) → get_or starts n 0 ≡ d → get_or starts 0 0 ≡ 0 → k < d → lister starts n k < n
unfolding lister count
lister_in starts zero k d b a h = absurd (omega arith)
lister_in starts (suc n) k d b a h =
    let last : leb (get_or starts (n + 1) 0) k ≡ false = lt-leb (get_or starts (n + 1) 0) k (omega (arith, ap (λ i. get_or starts i 0) (add-one n))) in
    rw last (omega (arith, count_le (λ x. leb (get_or starts (x + 1) 0) k) n))

pub record Loaded (z : Sizes) (n k : ℕ) (g : Graph) : Type 0 where
  pub ordered : Ordered z g
  pub made : g.made ≡ n
  pub log : length g.log ≡ k

key_range : (n c k : ℕ) → n ≤ c → (cond (ltb k n) k None ≡ None) ⊎ ((k < c) × (cond (ltb k n) k None < n))
key_range n c k h = go (ltb k n) refl
  where
    go : (t : Bool) → ltb k n ≡ t → (cond t k None ≡ None) ⊎ ((k < c) × (cond t k None < n))
    go true q = inr (omega (arith, ltb-true k n q), ltb-true k n q)
    go false q = inl refl

-- what no row's fitting means
pub record Allowed (z : Sizes) (n : Lent) : Type 0 where
  pub few : n.initial ≤ z.chunks
  pub few_pairs : length n.chunks ≤ z.chunks
  pub count : length n.starts ≡ n.initial + 1
  pub begin : get_or n.starts 0 0 ≡ 0
  pub end : get_or n.starts n.initial 0 ≡ length n.modules
  pub rising : (i : ℕ) → i < n.initial → get_or n.starts i 0 ≤ get_or n.starts (i + 1) 0
  pub flat : length n.flat ≡ length n.chunks * width z.bits
  pub effects : length n.effects ≡ z.modules
  pub modules : (i : ℕ) → i < length n.modules → get_or n.modules i 0 < z.modules
  pub sets : (i : ℕ) → i < length n.chunks → value (set_at (width z.bits) n.flat i) < 2 ^ z.bits
  pub chunks : (i : ℕ) → i < length n.chunks → get_or n.chunks i 0 < n.initial
  pub distinct : (i j : ℕ) → i < j → j < length n.chunks → value (set_at (width z.bits) n.flat i) ≡ value (set_at (width z.bits) n.flat j) → ⊥
  pub room : length n.modules ≤ z.entries

pub allowed : (z : Sizes) (n : Lent) → over_load z n ≡ false → bad_load z n ≡ false → first_fitting (later_load z n) ≡ 0 → Allowed z n
unfolding over_load bad_load bad_starts falling later_load twice came_before
allowed z n a b c =
    let w = width z.bits in
    let p = length n.chunks in
    let h₁ = none-fits _ 16 _ (omega arith) c in
    let h₂ = none-fits _ 17 _ (omega arith) h₁.1 in
    let h₃ = none-fits _ 19 _ (omega arith) h₂.1 in
    let st = or_false_left (bad_starts n.initial n.starts (length n.modules)) _ b in
    let rest = or_false_right (bad_starts n.initial n.starts (length n.modules)) _ b in
    let st₁ = or_false_right (not (eqb (length n.starts) (n.initial + 1))) _ st in
    let st₂ = or_false_right (not (eqb (get_or n.starts 0 0) 0)) _ st₁ in
    let st₃ = or_false_right (not (eqb (get_or n.starts n.initial 0) (length n.modules))) _ st₂ in
    let indices = or_false_right (any_misfit z.modules false n.modules) _ h₁.0 in
    record {
      few = ltb-false _ _ (or_false_left (ltb z.chunks n.initial) _ a);
      few_pairs = ltb-false _ _ (or_false_right (ltb z.chunks n.initial) _ a);
      count = eqb-true _ _ (not-false _ (or_false_left (not (eqb (length n.starts) (n.initial + 1))) _ st));
      begin = eqb-true _ _ (not-false _ (or_false_left (not (eqb (get_or n.starts 0 0) 0)) _ st₁));
      end = eqb-true _ _ (not-false _ (or_false_left (not (eqb (get_or n.starts n.initial 0) (length n.modules))) _ st₂));
      rising = λ i h. ltb-false _ _ (some_none (λ i. ltb (get_or n.starts (i + 1) 0) (get_or n.starts i 0)) n.initial st₃ i h);
      flat = eqb-true _ _ (not-false _ (or_false_left (not (eqb (length n.flat) (p * w))) _ rest));
      effects = eqb-true _ _ (not-false _ (or_false_right (not (eqb (length n.flat) (p * w))) _ rest));
      modules = no_misfit z.modules n.modules (or_false_left (any_misfit z.modules false n.modules) _ h₁.0);
      sets = λ i h. ltb-true _ _ (and_right (eqb (length (set_at w n.flat i)) w) _ (not-false _ (some_none (λ i. not (legal z.bits (set_at w n.flat i))) p (or_false_left (some_below (λ i. not (legal z.bits (set_at w n.flat i))) p) _ indices) i h)));
      chunks = no_misfit n.initial n.chunks (or_false_right (some_below (λ i. not (legal z.bits (set_at w n.flat i))) p) _ indices);
      distinct = λ i j l h. eqb-false _ _ (some_none (λ i. eqb (value (set_at w n.flat i)) (value (set_at w n.flat j))) j (some_none (came_before (λ i. value (set_at w n.flat i))) p h₂.0 j h) i l);
      room = ltb-false _ _ h₃.0;
    }

module _ (z : Sizes) (n : Lent) (small : z.chunks ≤ 1024) (ok : Allowed z n) where
  abbrev p : ℕ
  p = length n.chunks

  abbrev w : ℕ
  w = width z.bits

  long : length (lent_pairs z n) ≡ p
  long = pairs-length (lent_pair w n.flat n.chunks) p

  pair : (i : ℕ) → i < p → at (lent_pairs z n) i ≡ lent_pair w n.flat n.chunks i
  pair i h = pairs-at (lent_pair w n.flat n.chunks) p i h

  bare-kept : Ordered z (loaded z n 0)
  unfolding loaded
  bare-kept =
      record {
        small = small;
        begun = omega arith;
        fits = ok.few;
        sound = record { self = λ x. refl; from = λ x y h. absurd (true≢false (sym h)); to = λ x y h. absurd (true≢false (sym h)) };
        initial_needs_none = λ x h. refl;
        homes = λ k. inl refl;
        keyed = λ k. key_range n.initial z.chunks k ok.few;
        named = λ i h. let b : i < p = omega (arith, long) in rw (pair i b) (ok.sets i b, ok.chunks i b);
        distinct = λ i j l h q.
            let b : j < p = omega (arith, long) in
            ok.distinct i j l b (ap (λ e. e.0) (sym (pair i (omega arith))) ∙ q ∙ ap (λ e. e.0) (pair j b));
        room = omega (arith, long, ok.few_pairs);
        logged = λ i h. absurd (omega arith);
        used = omega arith;
        merges = record { range = λ x h. absurd (h refl); no_ring = λ x w. no-merge w; off = λ h x. refl };
      }
    where
      no-merge : {x y : ℕ} → Walk (merged_into (λ x. None)) x y → ⊥
      no-merge (one {x} {y} h) = (step-take (λ x. None) x y h).0 refl
      no-merge (more {x} {y} h w) = (step-take (λ x. None) x y h).0 refl

  pub listed_in : (k : ℕ) → k < length n.modules → lister n.starts n.initial k < n.initial
  listed_in k h = lister_in n.starts n.initial k (length n.modules) ok.end ok.begin h

  pub loaded-kept : (k : ℕ) → k ≤ length n.modules → Loaded z n.initial k (loaded z n k)
  unfolding loaded appended
  loaded-kept zero h = record { ordered = bare-kept; made = refl; log = refl }
  loaded-kept (suc k) h =
      let r = loaded-kept k (omega arith) in
      let g = loaded z n k in
      record {
        ordered = appended-kept r.ordered n.effects (lister n.starts n.initial k) (get_or n.modules k 0) (omega (arith, listed_in k (omega arith), r.made)) (ok.modules k (omega arith)) (omega (arith, r.log, ok.room));
        made = r.made;
        log = omega (arith, one_longer g.log (lister n.starts n.initial k, get_or n.modules k 0), r.log);
      }

  pub load_kept : Ordered z (load z n)
  unfolding load
  load_kept = (loaded-kept (length n.modules) (omega arith)).ordered
