-- The rows of a loading: what one that none refuses may rely on, and what `new` then answers and leaves. Assumes nothing.
use Rattle.std.specs.Prelude.{ℕ, ◌≤◌, ◌≡◌, refl, true, false, List, length}
use Rattle.std.proofs.Common.{arith, ◌∙◌}
use Rattle.std.proofs.Math.Path.{sym, ap}
use Rattle.graphs.specs.Bools.{or_left, or_right, or_false, or_false_left, or_false_right}
use Rattle.merge_state.specs.declared.Sizes.{Sizes}
use Rattle.merge_state.specs.Table.{Answer, done, refused, first_fitting}
use Rattle.merge_state.specs.Kept.{none-fits}
use Rattle.merge_state.specs.Loading.{Lent, over_load, bad_load, later_load}
use Rattle.merge_state.specs.LoadKept.{Allowed, allowed}
use Rattle.merge_area.specs.Layout.{room}
use Rattle.merge_area.specs.Consistent.{over, short}
use Rattle.merge_area.specs.Within.{Within, within, longs}
use Rattle.merge_laws.specs.Rows.{fits_here, fits_next, turned_refused, turned-free}
use Rattle.merge_loading.specs.Loading.{lent, mode_area, bare_area, loaded_area, load_refusal, load_step, Loaded}
use Rattle.merge_loading.specs.Bare.{CanName, mode_long, bare_long, bare-used}
use Rattle.merge_loading.specs.Listing.{CanList}

-- no row fits
pub record CanLoad (z : Sizes) (n : Lent) (a : List ℕ) : Type 0 where
  pub within : Within z
  pub long : room z ≤ length a
  pub allowed : Allowed z n

pub can_load : (z : Sizes) (n : Lent) (a : List ℕ) {q : ℕ} → q ≡ load_refusal z n a → q ≡ 0 → CanLoad z n a
unfolding load_refusal
can_load z n a e h =
    let h₁ = none-fits _ 14 _ (omega arith) (sym e ∙ h) in
    let h₂ = none-fits _ 15 _ (omega arith) h₁.1 in
    record {
      within = within z (or_false_left (over z) _ h₁.0);
      long = longs z a (or_false_right (bad_load z n) _ h₂.0);
      allowed = allowed z n (or_false_right (over z) _ h₁.0) (or_false_left (bad_load z n) _ h₂.0) h₂.1;
    }

-- the list entries can then be written
module _ {z : Sizes} {n : Lent} {a : List ℕ} (can : CanLoad z n a) where
  pub load_name : {b : List ℕ} → b ≡ mode_area z n.mode a → CanName z n.flat n.chunks b
  load_name e = rw e (record { within = can.within; long = omega (arith, can.long, mode_long z n.mode a); few = can.allowed.few_pairs; full = can.allowed.flat })

  pub load_list : {b : List ℕ} → b ≡ bare_area z n.initial n.flat n.chunks (mode_area z n.mode a) → CanList z n.initial n.starts n.modules n.effects b
  load_list {b} e =
      let k = mode_long z n.mode a in
      let l = bare_long z n.initial n.flat n.chunks (mode_area z n.mode a) can.allowed.few_pairs in
      let u = bare-used z n.initial n.flat n.chunks (mode_area z n.mode a) can.allowed.few_pairs (omega (arith, can.long, k)) in
      rw e (record {
        within = can.within;
        long = omega (arith, can.long, k, l);
        few = can.allowed.few;
        count = can.allowed.count;
        begin = can.allowed.begin;
        end = can.allowed.end;
        rising = can.allowed.rising;
        listed = can.allowed.modules;
        told = can.allowed.effects;
        room = can.allowed.room;
        empty = u;
      })

-- the rows of a loading don't look at the mode
pub any_mode : (z : Sizes) (i : ℕ) (starts modules flat chunks effects : List ℕ) (m : ℕ) (a : List ℕ) → load_refusal z (lent i starts modules flat chunks effects 0) a ≡ load_refusal z (lent i starts modules flat chunks effects m) a
unfolding load_refusal over_load bad_load later_load
any_mode z i starts modules flat chunks effects m a = refl

-- the tests before the later rows, in order
module _ (z : Sizes) (n : Lent) (a : List ℕ) where
  pub over-sizes : over z ≡ true → 14 ≡ load_refusal z n a
  unfolding load_refusal
  over-sizes h = fits_here _ 14 _ (or_left (over z) _ h)

  pub over_lists : over_load z n ≡ true → 14 ≡ load_refusal z n a
  unfolding load_refusal
  over_lists h = fits_here _ 14 _ (or_right (over z) _ h)

  module _ (k : over z ≡ false) (l : over_load z n ≡ false) where
    pub bad_lists : bad_load z n ≡ true → 15 ≡ load_refusal z n a
    unfolding load_refusal
    bad_lists h = fits_next _ 14 15 _ (or_false (over z) _ k l) (fits_here _ 15 _ (or_left (bad_load z n) _ h))

    pub short_area : short z a ≡ true → 15 ≡ load_refusal z n a
    unfolding load_refusal
    short_area h = fits_next _ 14 15 _ (or_false (over z) _ k l) (fits_here _ 15 _ (or_right (bad_load z n) _ h))

    pub later_rows : (q : ℕ) → bad_load z n ≡ false → short z a ≡ false → q ≡ first_fitting (later_load z n) → q ≡ load_refusal z n a
    unfolding load_refusal
    later_rows q b s e = fits_next _ 14 q _ (or_false (over z) _ k l) (fits_next _ 15 q _ (or_false (bad_load z n) _ b s) e)

module _ (z : Sizes) (n : Lent) (a : List ℕ) where
  pub refused_load : {q : ℕ} {r : Answer} {b : List ℕ} → q ≡ load_refusal z n a → (q ≡ 0 → ⊥) → r ≡ refused q → b ≡ a → Loaded z n a r b
  unfolding load_step
  refused_load {q} {r} {b} e h p s =
      let t = turned_refused (load_refusal z n a) a (done, loaded_area z n a) (λ k. h (e ∙ k)) in
      record { answer = p ∙ ap refused e ∙ sym (ap (λ x. x.0) t); area = s ∙ sym (ap (λ x. x.1) t) }

  pub free-load : {q : ℕ} {r : Answer} {b : List ℕ} → q ≡ load_refusal z n a → q ≡ 0 → r ≡ done → b ≡ loaded_area z n a → Loaded z n a r b
  unfolding load_step
  free-load e h p s =
      let t = turned-free (load_refusal z n a) a (done, loaded_area z n a) (sym e ∙ h) in
      record { answer = p ∙ sym (ap (λ x. x.0) t); area = s ∙ sym (ap (λ x. x.1) t) }
