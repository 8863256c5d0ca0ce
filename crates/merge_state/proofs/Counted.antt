-- Theorems on the definitions of specs/Counted: they stand here, so that the crate can be read with a definition changed. Assumes nothing.
use Rattle.std.specs.Prelude.{ℕ, ◌<◌, ◌≡◌, ◌↔◌, Bool, ◌&&◌, ◌||◌, []}
use Rattle.std.proofs.Math.Decide.{ℕ_discrete}
use Rattle.std.proofs.Math.Path.{refl, sym, ap}
use Rattle.std.proofs.Common.{subst, ◌∙◌, inr, ⊎_elim, eq-eqb, ne_eqb}
use Rattle.std.proofs.Math.Bool.{true, false, not, true≢false}
use Rattle.std.proofs.Math.Dec.{eqb}
use Rattle.graphs.specs.Bools.{or_cases, or_left, or_right, and_left, and_right, and_both, alike}
use Rattle.graphs.specs.Walk.{Walk, one, more}
use Rattle.graphs.specs.Walks.{join}
use Rattle.merge_state.specs.State.{None, Graph, put, put_same, put_other}
use Rattle.graph_walks.specs.Counted.{counted, without, counted_give, counted-take}
use Rattle.merge_state.specs.Methods.{absorbed, warns}
use Rattle.merge_state.specs.Warning.{fused, fuse, fuse_ends, fuse_cases, Sound, Looped}
use Rattle.merge_state.proofs.Warning.{warning_exactly}
use Rattle.merge_state.specs.Absorbed.{union, absorbed-source, absorbed-target, absorbed-other}
use Rattle.merge_state.specs.Counted.{moved, fewer, keep, none}
use Rattle.merge_state.specs.Counted as counted_here

-- A merge of s into t, both at the end of their merges: what is counted after it is the fused graph of what was counted before.
module _ (d : ℕ → ℕ → Bool) (end : ℕ → ℕ) (n s t : ℕ) (apart : s ≡ t → ⊥) (s-end : end s ≡ s) (t-end : end t ≡ t) (s-in : s < n) (t-in : t < n) where
  -- where a chunk's merges end after this one
  abbrev stands : ℕ → ℕ
  stands z = put (λ x. x) s t z

  abbrev after : ℕ → ℕ
  after i = stands (end i)

  not_s : (z : ℕ) → stands z ≡ s → ⊥
  not_s z h = elim (ℕ_discrete z s) [
    | yes q ↦ apart (sym h ∙ ap stands q ∙ put_same (λ x. x) s t)
    | no q ↦ q (sym (put_other (λ x. x) s t z q) ∙ h)
  ]

  stays : (z : ℕ) → (z ≡ s → ⊥) → stands z ≡ z
  stays z q = put_other (λ x. x) s t z q

  -- a stored dependency after the merge was one before, of the same chunk or of the source
  earlier : (i j : ℕ) → absorbed d t s i j ≡ true → i < n → (k : ℕ) × (k < n) × (d k j ≡ true) × (after k ≡ after i)
  earlier i j h b = elim (ℕ_discrete i s) [
    | yes q ↦ absurd (true≢false (sym h ∙ ap (λ r. absorbed d t s r j) q ∙ ap (λ f. f j) (absorbed-source d t s)))
    | no q ↦ elim (ℕ_discrete i t) [
      | yes p ↦
          let e : union (d t) (d s) t j ≡ true = sym (ap (λ f. f j) (absorbed-target d t s (λ k. apart (sym k)))) ∙ ap (λ r. absorbed d t s r j) (sym p) ∙ h in
          ⊎_elim (λ a. (t, t-in, a, ap after (sym p)))
          (λ a. (s, s-in, a, ap stands s-end ∙ put_same (λ x. x) s t ∙ sym (stays t (λ k. apart (sym k))) ∙ ap stands (sym t-end) ∙ ap after (sym p)))
          (or_cases (d t j) _ (and_left (d t j || d s j) _ e))
      | no p ↦ (i, b, sym (ap (λ f. f j) (absorbed-other d t s i p q)) ∙ h, refl)
    ]
  ]

  -- and one before is there after, of the same chunk or of the target, unless it was on the target and of one of the two
  later : (i j : ℕ) → d i j ≡ true → i < n → (after i ≡ after j → ⊥) → (k : ℕ) × (k < n) × (absorbed d t s k j ≡ true) × (after k ≡ after i)
  later i j h b ne = elim (ℕ_discrete i s) [
    | yes q ↦
        let at-t : after i ≡ t = ap after q ∙ ap stands s-end ∙ put_same (λ x. x) s t in (
          t,
          t-in,
          ap (λ f. f j) (absorbed-target d t s (λ k. apart (sym k)))
              ∙ and_both _ _ (or_right (d t j) _ (rw q at h)) (ap not (ne_eqb j t (λ p. ne (at-t ∙ sym (ap after p ∙ ap stands t-end ∙ stays t (λ k. apart (sym k))))))),
          ap stands t-end ∙ stays t (λ k. apart (sym k)) ∙ sym at-t,
        )
    | no q ↦ elim (ℕ_discrete i t) [
      | yes p ↦ (
        t,
        t-in,
        ap (λ f. f j) (absorbed-target d t s (λ k. apart (sym k)))
            ∙ and_both _ _ (or_left (d t j) _ (rw p at h)) (ap not (ne_eqb j t (λ o. ne (ap after p ∙ sym (ap after o))))),
        ap after (sym p),
      )
      | no p ↦ (i, b, ap (λ f. f j) (absorbed-other d t s i p q) ∙ h, refl)
    ]
  ]

  abbrev old : ℕ → ℕ → Bool
  old = counted d end n

  abbrev new : ℕ → ℕ → Bool
  new = counted (absorbed d t s) after n

  merged-fused : (x y : ℕ) → new x y ≡ true → fused old s t x y ≡ true
  unfolding fused
  merged-fused x y h =
      let r = counted-take (absorbed d t s) after n x y h in
      let e = earlier r.source r.target r.edge r.source_in in
      let k = e.0 in
      let j = r.target in
      let kx : after k ≡ x = e.3 ∙ r.from in
      let ne : end k ≡ end j → ⊥ = λ q. r.differ (sym kx ∙ ap stands q ∙ r.to) in
      let c : old (end k) (end j) ≡ true = counted_give d end n k j e.1 r.target_in e.2 ne in
      and_both _ _ (and_both _ _ (ap not (ne_eqb x y r.differ)) (and_both _ _ (ap not (ne_eqb x s (λ q. not_s (end k) (kx ∙ q)))) (ap not (ne_eqb y s (λ q. not_s (end j) (r.to ∙ q))))))
      (go k j kx r.to c)
    where
      go : (k j : ℕ) → after k ≡ x → after j ≡ y → old (end k) (end j) ≡ true → (old x y || ((eqb x t && old s y) || (eqb y t && old x s))) ≡ true
      go k j kx jy c = elim (ℕ_discrete (end k) s) [
        | yes q ↦ elim (ℕ_discrete (end j) s) [
          | yes p ↦ absurd ((counted-take d end n (end k) (end j) c).differ (q ∙ sym p))
          | no p ↦ or_right (old x y) _ (or_left _ _ (and_both _ _ (eq-eqb x t (sym kx ∙ ap stands q ∙ put_same (λ z. z) s t)) (moved old q (sym (stays (end j) p) ∙ jy) c)))
        ]
        | no q ↦ elim (ℕ_discrete (end j) s) [
          | yes p ↦ or_right (old x y) _ (or_right (eqb x t && old s y) _ (and_both _ _ (eq-eqb y t (sym jy ∙ ap stands p ∙ put_same (λ z. z) s t)) (moved old (sym (stays (end k) q) ∙ kx) p c)))
          | no p ↦ or_left _ _ (moved old (sym (stays (end k) q) ∙ kx) (sym (stays (end j) p) ∙ jy) c)
        ]
      ]

  -- a dependency that was counted, seen after the merge
  kept : (x y u v : ℕ) → old u v ≡ true → stands u ≡ x → stands v ≡ y → (x ≡ y → ⊥) → new x y ≡ true
  kept x y u v h a b ne =
      let r = counted-take d end n u v h in
      let i = r.source in
      let j = r.target in
      let ix : after i ≡ x = ap stands r.from ∙ a in
      let jy : after j ≡ y = ap stands r.to ∙ b in
      let e = later i j r.edge r.source_in (λ q. ne (sym ix ∙ q ∙ jy)) in
      let kx : after e.0 ≡ x = e.3 ∙ ix in
      moved new kx jy (counted_give (absorbed d t s) after n e.0 j e.1 r.target_in e.2 (λ q. ne (sym kx ∙ q ∙ jy)))

  fused-merged : (x y : ℕ) → fused old s t x y ≡ true → new x y ≡ true
  fused-merged x y h =
      let e = fuse_ends old s t x y h in
      let stay-x : stands x ≡ x = stays x e.1 in
      let stay-y : stands y ≡ y = stays y e.2 in
      ⊎_elim (λ a. kept x y x y a stay-x stay-y e.0)
      (λ b. ⊎_elim (λ p. kept x y s y p.1 (put_same (λ z. z) s t ∙ sym p.0) stay-y e.0) (λ p. kept x y x s p.1 stay-x (put_same (λ z. z) s t ∙ sym p.0) e.0) b)
      (fuse_cases old s t x y h)

  -- what is counted after a merge
  pub counted-merged : (x y : ℕ) → counted (absorbed d t s) (λ i. put (λ z. z) s t (end i)) n x y ≡ fused (counted d end n) s t x y
  counted-merged x y = alike _ _ (merged-fused x y) (fused-merged x y)

module _ (d : ℕ → ℕ → Bool) (n s t : ℕ) (self : (x : ℕ) → d x x ≡ false) (from : (x y : ℕ) → d x y ≡ true → x < n) (to : (x y : ℕ) → d x y ≡ true → y < n) (apart : s ≡ t → ⊥) where
  drop : (x y : ℕ) → (counted_here.fewer d n s t self from to apart) x y ≡ true → d x y ≡ true
  unfolding without
  drop x y h = and_left (d x y) _ h

  -- a graph with these dependencies
  abbrev holder : Graph
  holder = record { initial = 0; made = n; created = 0; depends = (counted_here.fewer d n s t self from to apart); effects = λ x. false; needs = λ x. false; log = []; sets = []; home = λ x. None; keys = λ x. None; mode = true; into = λ x. None }

  sound : Sound holder
  sound = record { self = λ x. (counted_here.none d n s t self from to apart) x; from = λ x y h. from x y (drop x y h); to = λ x y h. to x y (drop x y h) }

  -- the fused graph is the same
  fused-drop : (x y : ℕ) → fused (counted_here.fewer d n s t self from to apart) s t x y ≡ true → fused d s t x y ≡ true
  fused-drop x y h =
      let e = fuse_ends (counted_here.fewer d n s t self from to apart) s t x y h in
      fuse d s t x y e.0 e.1 e.2
      (⊎_elim (λ a. or_left _ _ (drop x y a))
      (λ b. or_right (d x y) _ (⊎_elim (λ p. or_left _ _ (and_both _ _ (eq-eqb x t p.0) (drop s y p.1))) (λ p. or_right (eqb x t && d s y) _ (and_both _ _ (eq-eqb y t p.0) (drop x s p.1))) b))
      (fuse_cases (counted_here.fewer d n s t self from to apart) s t x y h))

  fused_keep : (x y : ℕ) → fused d s t x y ≡ true → fused (counted_here.fewer d n s t self from to apart) s t x y ≡ true
  fused_keep x y h =
      let e = fuse_ends d s t x y h in
      fuse (counted_here.fewer d n s t self from to apart) s t x y e.0 e.1 e.2
      (⊎_elim (λ a. or_left _ _ ((counted_here.keep d n s t self from to apart) x y (λ q r. e.1 q) a))
      (λ b. or_right ((counted_here.fewer d n s t self from to apart) x y) _ (⊎_elim (λ p. or_left _ _ (and_both _ _ (eq-eqb x t p.0) ((counted_here.keep d n s t self from to apart) s y (λ q r. e.0 (p.0 ∙ sym r)) p.1)))
      (λ p. or_right (eqb x t && (counted_here.fewer d n s t self from to apart) s y) _ (and_both _ _ (eq-eqb y t p.0) ((counted_here.keep d n s t self from to apart) x s (λ q r. e.1 q) p.1))) b))
      (fuse_cases d s t x y h))

  along : {f g : ℕ → ℕ → Bool} → ((x y : ℕ) → f x y ≡ true → g x y ≡ true) → {x y : ℕ} → Walk f x y → Walk g x y
  along k (one h) = one (k _ _ h)
  along k (more h w) = more (k _ _ h) (along k w)

  looped : {x y : ℕ} → x ≡ t → y ≡ t → Walk (fused (counted_here.fewer d n s t self from to apart) s t) x y → Looped holder s t
  looped p q (one {x} {y} h) = absurd ((fuse_ends (counted_here.fewer d n s t self from to apart) s t x y h).0 (p ∙ sym q))
  looped p q (more {x} {y = z} h w) = record {
    other = z;
    differs = λ r. (fuse_ends (counted_here.fewer d n s t self from to apart) s t x z h).0 (p ∙ sym r);
    out = one (moved (fused (counted_here.fewer d n s t self from to apart) s t) p refl h);
    back = subst (λ e. Walk (fused (counted_here.fewer d n s t self from to apart) s t) z e) q w;
  }

  direct : (counted_here.fewer d n s t self from to apart) s t ≡ true → ⊥
  unfolding without
  direct h = true≢false (sym (and_right (d s t) _ h) ∙ ap not (and_both _ _ (eq-eqb s s refl) (eq-eqb t t refl)))

  -- The warning is then yes exactly when the fused chunk lies on a cycle with another; a direct dependency alone doesn't warn.
  pub mode_warning : (warns (without d s t) n s t ≡ true) ↔ Walk (fused d s t) t t
  mode_warning =
      let w = warning_exactly holder sound s t apart in
      (λ h. ⊎_elim (λ a. absurd (direct a)) (λ (l : Looped holder s t). along fused-drop (join l.out l.back)) (w.0 h), λ c. w.1 (inr (looped refl refl (along fused_keep c))))
