-- A graph in order, as row 21 asks of a merge area; each method leaves it so. Assumes nothing.
use Rattle.std.specs.Prelude.{ℕ, zero, suc, ◌+◌, ◌^◌, ◌<◌, ◌≤◌, ◌≡◌, refl, ◌⊎◌, Bool, false, cond, ◌&&◌, ◌||◌, List, [], ◌∷◌, ◌++◌, get_or, leb}
use native.Mathlib.Omega.{arith}
use Rattle.std.proofs.Math.Decide.{ℕ_discrete, dec_lt}
use Rattle.std.proofs.Common.{sym, ap, ◌∙◌, inl, inr, true≢false, length-append}
use Rattle.std.proofs.Math.Logic.{⊎_elim}
use Rattle.std.proofs.Math.Bool.{true, not}
use Rattle.std.proofs.Math.ListN.{length, get_or-append}
use Rattle.std.proofs.Math.Seq.{get_or-append_seam}
use Rattle.std.proofs.Math.Dec.{eqb, ltb}
use borrow.Author.Tests.{eqb-true, eqb-false, leb-false, not-true}
use Rattle.graphs.specs.Bools.{or_cases, and_left, and_right, fails}
use Rattle.graphs.specs.Lists.{some_take}
use Rattle.merge_state.specs.declared.Sizes.{Sizes}
use Rattle.merge_state.specs.State.{None, Graph, put, put_same, put_other, chunk_of, at}
use Rattle.merge_state.specs.Methods.{appended, opened, assigned_to, registered, module_on, listed_on, calculated, absorbed, merged, created_chunk}
use Rattle.merge_state.specs.Warning.{Sound}
use Rattle.merge_state.specs.Ends.{Merges, merges_grown, merges-more}
use Rattle.merge_state.specs.Absorbed.{absorbed-source, absorbed-target, absorbed-other}

-- A merge area: every index in range, no self-dependency, sets distinct, no initial chunk needing creation, used entries within L, and no
-- merges that run in a ring
pub record Ordered (z : Sizes) (g : Graph) : Type 0 where
  pub small : z.chunks ≤ 1024
  pub begun : g.initial ≤ g.made
  pub fits : g.made ≤ z.chunks
  pub sound : Sound g
  pub initial_needs_none : (x : ℕ) → x < g.initial → g.needs x ≡ false
  pub homes : (k : ℕ) → (g.home k ≡ None) ⊎ ((k < z.modules) × (g.home k < g.made))
  pub keyed : (k : ℕ) → (g.keys k ≡ None) ⊎ ((k < z.chunks) × (g.keys k < g.made))
  pub named : (i : ℕ) → i < length g.sets → ((at g.sets i).0 < 2 ^ z.bits) × ((at g.sets i).1 < g.made)
  pub distinct : (i j : ℕ) → i < j → j < length g.sets → (at g.sets i).0 ≡ (at g.sets j).0 → ⊥
  -- room for the sets of the chunks still to be made, in a table of 2 × C
  pub room : length g.sets ≤ z.chunks + g.made
  pub logged : (i : ℕ) → i < length g.log → ((at g.log i).0 < g.made) × ((at g.log i).1 < z.modules)
  pub used : length g.log ≤ z.entries
  pub merges : Merges g.mode g.into g.made

pub never : (b : Bool) → b ≡ true → b ≡ false → ⊥
never b p q = true≢false (sym p ∙ q)

-- a list with one more entry
module _ (l : List (ℕ × ℕ)) (e : ℕ × ℕ) where
  pub one_longer : length (l ++ (e ∷ [])) ≡ length l + 1
  one_longer = length-append l (e ∷ [])

  pub at_old : (i : ℕ) → i < length l → at (l ++ (e ∷ [])) i ≡ at l i
  at_old i h = get_or-append l (e ∷ []) (0, 0) i h

  pub at_new : at (l ++ (e ∷ [])) (length l) ≡ e
  at_new = get_or-append_seam l e [] (0, 0)

  pub each_more : (P : ℕ × ℕ → Type 0) → ((i : ℕ) → i < length l → P (at l i)) → P e → (i : ℕ) → i < length (l ++ (e ∷ [])) → P (at (l ++ (e ∷ [])) i)
  each_more P f p i h = elim (dec_lt i (length l)) [
    | yes b ↦ rw (at_old i b) (f i b)
    | no b ↦ let q : i ≡ length l = omega (arith, one_longer) in rw (q, at_new) p
  ]

pub unseen : (v : ℕ) (l : List (ℕ × ℕ)) → ((i : ℕ) → i < length l → (at l i).1 < None) → chunk_of v l ≡ None → (i : ℕ) → i < length l → (at l i).0 ≡ v → ⊥
unfolding chunk_of
unseen v [] f h i b q = omega arith
unseen v (e ∷ l) f h i b q = go (eqb e.0 v) refl h i b q (unseen v l (λ j c. f (suc j) (omega arith)))
  where
    go : (t : Bool) → eqb e.0 v ≡ t → cond t e.1 (chunk_of v l) ≡ None → (i : ℕ) → i < length (e ∷ l) → (at (e ∷ l) i).0 ≡ v
        → (chunk_of v l ≡ None → (i : ℕ) → i < length l → (at l i).0 ≡ v → ⊥) → ⊥
    go true p k i b q r = omega (arith, f 0 (omega arith))
    go false p k zero b q r = eqb-false e.0 v p q
    go false p k (suc i) b q r = r k i (omega arith) q

pub seen : (v : ℕ) (l : List (ℕ × ℕ)) → (chunk_of v l ≡ None → ⊥) → (i : ℕ) × (i < length l) × ((at l i).1 ≡ chunk_of v l)
unfolding chunk_of
seen v [] h = absurd (h refl)
seen v (e ∷ l) h = go (eqb e.0 v) h (seen v l)
  where
    go : (t : Bool) → (cond t e.1 (chunk_of v l) ≡ None → ⊥) → ((chunk_of v l ≡ None → ⊥) → (i : ℕ) × (i < length l) × ((at l i).1 ≡ chunk_of v l))
        → (i : ℕ) × (i < length (e ∷ l)) × ((at (e ∷ l) i).1 ≡ cond t e.1 (chunk_of v l))
    go true k r = (0, omega arith, refl)
    go false k r = let s = r k in (suc s.0, omega arith, s.2)

-- what `put` leaves within a bound
put_range : {f : ℕ → ℕ} {n top k v : ℕ} → ((x : ℕ) → (f x ≡ None) ⊎ ((x < n) × (f x < top))) → k < n → v < top → (x : ℕ) → (put f k v x ≡ None) ⊎ ((x < n) × (put f k v x < top))
put_range {f} {n} {top} {k} {v} h a b x = elim (ℕ_discrete x k) [
  | yes q ↦ inr (omega arith, rw (q, put_same f k v) b)
  | no q ↦ rw (put_other f k v x q) (h x)
]

module _ {z : Sizes} {g : Graph} (o : Ordered z g) where
  pub appended-kept : (effs : List ℕ) (x k : ℕ) → x < g.made → k < z.modules → length g.log < z.entries → Ordered z (appended effs g x k)
  unfolding appended
  appended-kept effs x k a b c =
      record {
        small = o.small;
        begun = o.begun;
        fits = o.fits;
        initial_needs_none = o.initial_needs_none;
        keyed = o.keyed;
        named = o.named;
        distinct = o.distinct;
        room = o.room;
        sound = record { self = o.sound.self; from = o.sound.from; to = o.sound.to };
        homes = put_range o.homes b a;
        logged = each_more g.log (x, k) (λ e. (e.0 < g.made) × (e.1 < z.modules)) o.logged (a, b);
        used = omega (arith, one_longer g.log (x, k));
        merges = o.merges;
      }

  grown : {A : Type 0} {f : ℕ} {n : ℕ} → (f ≡ None) ⊎ (A × (f < n)) → (f ≡ None) ⊎ (A × (f < n + 1))
  grown h = ⊎_elim (λ a. inl a) (λ b. inr (b.0, omega (arith, b.1))) h

  pub opened-kept : (v : ℕ) → g.made < z.chunks → v < 2 ^ z.bits → chunk_of v g.sets ≡ None → Ordered z (opened g v)
  unfolding opened
  opened-kept v a b c =
      record {
        small = o.small;
        begun = omega (arith, o.begun);
        fits = omega arith;
        sound = record { self = o.sound.self; from = λ x y h. omega (arith, o.sound.from x y h); to = λ x y h. omega (arith, o.sound.to x y h) };
        initial_needs_none = λ x h. put_other g.needs g.made true x (omega (arith, o.begun)) ∙ o.initial_needs_none x h;
        homes = λ k. grown (o.homes k);
        keyed = λ k. grown (o.keyed k);
        named = each_more g.sets (v, g.made) (λ e. (e.0 < 2 ^ z.bits) × (e.1 < g.made + 1)) (λ i h. ((o.named i h).0, omega (arith, (o.named i h).1))) (b, omega arith);
        distinct = λ i j l h q. apart i j l h q;
        room = omega (arith, one_longer g.sets (v, g.made), o.room);
        logged = λ i h. (omega (arith, (o.logged i h).0), (o.logged i h).1);
        used = o.used;
        merges = merges_grown o.merges;
      }
    where
      apart : (i j : ℕ) → i < j → j < length (g.sets ++ ((v, g.made) ∷ [])) → (at (g.sets ++ ((v, g.made) ∷ [])) i).0 ≡ (at (g.sets ++ ((v, g.made) ∷ [])) j).0 → ⊥
      apart i j l h q = elim (dec_lt j (length g.sets)) [
        | yes b ↦ o.distinct i j l b (rw (at_old g.sets (v, g.made) i (omega arith), at_old g.sets (v, g.made) j b) at q)
        | no b ↦
            let e : j ≡ length g.sets = omega (arith, one_longer g.sets (v, g.made)) in
            let f : i < length g.sets = omega arith in
            unseen v g.sets (λ k r. omega (arith, (o.named k r).1, o.fits, o.small)) c i f (rw (e, at_new g.sets (v, g.made), at_old g.sets (v, g.made) i f) at q)
      ]

  pub registered-kept : (k x : ℕ) → k < z.chunks → x < g.made → Ordered z (registered g k x)
  unfolding registered
  registered-kept k x a b =
      record {
        small = o.small;
        begun = o.begun;
        fits = o.fits;
        initial_needs_none = o.initial_needs_none;
        homes = o.homes;
        named = o.named;
        distinct = o.distinct;
        room = o.room;
        logged = o.logged;
        used = o.used;
        merges = o.merges;
        sound = record { self = o.sound.self; from = o.sound.from; to = o.sound.to };
        keyed = put_range o.keyed a b;
      }

  pub created_chunk-kept : (x : ℕ) → g.initial + g.created < z.chunks → x < g.made → Ordered z (created_chunk g x)
  unfolding created_chunk
  created_chunk-kept x a b =
      record {
        small = o.small;
        begun = o.begun;
        fits = o.fits;
        initial_needs_none = o.initial_needs_none;
        homes = o.homes;
        named = o.named;
        distinct = o.distinct;
        room = o.room;
        logged = o.logged;
        used = o.used;
        merges = o.merges;
        sound = record { self = o.sound.self; from = o.sound.from; to = o.sound.to };
        keyed = put_range o.keyed a b;
      }

  pub merged-kept : (t s : ℕ) → t < g.made → s < g.made → (s ≡ t → ⊥) → g.into t ≡ None → g.into s ≡ None → Ordered z (merged g t s)
  unfolding merged
  merged-kept t s a b apart free-t free-s =
      record {
        small = o.small;
        begun = o.begun;
        fits = o.fits;
        initial_needs_none = o.initial_needs_none;
        homes = o.homes;
        keyed = o.keyed;
        named = o.named;
        distinct = o.distinct;
        room = o.room;
        logged = o.logged;
        used = o.used;
        merges = merges-more g.mode s t o.merges apart b a free-s free-t;
        sound = record {
          self = λ x. fails _ (λ h. ⊎_elim (λ k. k.1 k.0) (λ k. never _ k (o.sound.self x)) (cases x x h));
          from = λ x y h. ⊎_elim (λ k. rw k.0 a) (λ k. o.sound.from x y k) (cases x y h);
          to = λ x y h. ⊎_elim (λ k. ⊎_elim (λ l. o.sound.to t y l) (λ l. o.sound.to s y l) k.2) (λ k. o.sound.to x y k) (cases x y h);
        };
      }
    where
      target : (y : ℕ) → ((g.depends t y || g.depends s y) && not (eqb y t)) ≡ true → (y ≡ t → ⊥) × ((g.depends t y ≡ true) ⊎ (g.depends s y ≡ true))
      target y h = (eqb-false y t (not-true _ (and_right (g.depends t y || g.depends s y) _ h)), or_cases (g.depends t y) _ (and_left (g.depends t y || g.depends s y) _ h))

      cases : (x y : ℕ) → absorbed g.depends t s x y ≡ true → ((x ≡ t) × (y ≡ t → ⊥) × ((g.depends t y ≡ true) ⊎ (g.depends s y ≡ true))) ⊎ (g.depends x y ≡ true)
      cases x y h = elim (ℕ_discrete x s) [
        | yes q ↦ absurd (never _ (rw q at h) (ap (λ r. r y) (absorbed-source g.depends t s)))
        | no q ↦ elim (ℕ_discrete x t) [
          | yes p ↦
              let u = target y (sym (ap (λ r. r y) (absorbed-target g.depends t s (λ k. q (p ∙ k)))) ∙ (rw p at h)) in
              inl (p, u.0, u.1)
          | no p ↦ inr (sym (ap (λ r. r y) (absorbed-other g.depends t s x p q)) ∙ h)
        ]
      ]

  pub calculated-kept : (starts deps : List ℕ) → Ordered z (calculated g starts deps)
  unfolding calculated module_on listed_on
  calculated-kept starts deps =
      record {
        small = o.small;
        begun = o.begun;
        fits = o.fits;
        initial_needs_none = o.initial_needs_none;
        homes = o.homes;
        keyed = o.keyed;
        named = o.named;
        distinct = o.distinct;
        room = o.room;
        logged = o.logged;
        used = o.used;
        merges = o.merges;
        sound = record {
          self = λ x. fails _ (λ h. ⊎_elim (λ k. never _ k (o.sound.self x)) (λ k. k.1 refl) (cases x x h));
          from = λ x y h. ⊎_elim (λ k. o.sound.from x y k) (λ k. k.2) (cases x y h);
          to = λ x y h. ⊎_elim (λ k. o.sound.to x y k) (λ k. k.3) (cases x y h);
        };
      }
    where
      lies : (k y : ℕ) → (y ≡ None → ⊥) → module_on g starts deps k y ≡ true → y < g.made
      lies k y n h =
          let r = some_take (λ i. (leb (get_or starts k 0) i && ltb i (get_or starts (k + 1) 0)) && eqb (g.home (get_or deps i 0)) y) (length deps) h in
          let i = r.0 in
          let q = eqb-true (g.home (get_or deps i 0)) y (and_right (leb (get_or starts k 0) i && ltb i (get_or starts (k + 1) 0)) _ r.2) in
          ⊎_elim (λ a. absurd (n (sym q ∙ a))) (λ b. rw q at b.1) (o.homes (get_or deps i 0))

      found : (x y : ℕ) → (y ≡ None → ⊥) → listed_on g starts deps x y ≡ true → (x < g.made) × (y < g.made)
      found x y n h =
          let r = some_take (λ i. eqb (at g.log i).0 x && module_on g starts deps (at g.log i).1 y) (length g.log) h in
          let i = r.0 in
          (rw (eqb-true (at g.log i).0 x (and_left (eqb (at g.log i).0 x) _ r.2)) at (o.logged i r.1).0, lies (at g.log i).1 y n (and_right (eqb (at g.log i).0 x) _ r.2))

      cases : (x y : ℕ) → (g.depends x y || ((not (eqb y None) && not (eqb x y)) && listed_on g starts deps x y)) ≡ true
          → (g.depends x y ≡ true) ⊎ ((y ≡ None → ⊥) × (x ≡ y → ⊥) × (x < g.made) × (y < g.made))
      cases x y h =
          ⊎_elim (λ a. inl a)
          (λ b.
          let t = and_left (not (eqb y None) && not (eqb x y)) _ b in
          let n = eqb-false y None (not-true _ (and_left (not (eqb y None)) _ t)) in
          let f = found x y n (and_right (not (eqb y None) && not (eqb x y)) _ b) in
          inr (n, eqb-false x y (not-true _ (and_right (not (eqb y None)) _ t)), f.0, f.1))
          (or_cases (g.depends x y) _ h)

pub opened-made : (g : Graph) (v : ℕ) → g.made < (opened g v).made
unfolding opened
opened-made g v = omega arith

pub opened_log : (g : Graph) (v : ℕ) {n : ℕ} → length g.log < n → length (opened g v).log < n
unfolding opened
opened_log g v h = h

pub assigned-kept : {z : Sizes} {g : Graph} → Ordered z g → (effs : List ℕ) (k v : ℕ) → k < z.modules → v < 2 ^ z.bits → ((eqb (chunk_of v g.sets) None && leb z.chunks g.made) ≡ false)
    → length g.log < z.entries → Ordered z (assigned_to effs g k v)
unfolding assigned_to
assigned-kept {z} {g} o effs k v a b c l = go (eqb (chunk_of v g.sets) None) refl
  where
    made-new : eqb (chunk_of v g.sets) None ≡ true → g.made < z.chunks
    made-new q = leb-false z.chunks g.made (rw q at c)

    go : (t : Bool) → eqb (chunk_of v g.sets) None ≡ t → Ordered z (cond t (appended effs (opened g v) g.made k) (appended effs g (chunk_of v g.sets) k))
    go true q = appended-kept (opened-kept o v (made-new q) b (eqb-true (chunk_of v g.sets) None q)) effs g.made k (opened-made g v) a (opened_log g v l)
    go false q =
        let s = seen v g.sets (eqb-false (chunk_of v g.sets) None q) in
        appended-kept o effs (chunk_of v g.sets) k (rw s.2 at (o.named s.0 s.1).1) a l
