-- The fields of the graph that an area holds, by the area's numbers. Assumes nothing.
use Rattle.std.specs.Prelude.{ℕ, ◌+◌, ◌*◌, ◌<◌, ◌≡◌, Bool, not, ◌&&◌, List, [], ◌∷◌, ◌++◌}
use Rattle.std.proofs.Common.{arith, sym, ap₂, ◌∙◌}
use Rattle.std.proofs.Math.Decide.{ℕ_discrete, dec_lt}
use Rattle.std.proofs.Math.Path.{refl, ap, fun_ext}
use Rattle.std.proofs.Math.Bool.{true, false, cond}
use Rattle.std.proofs.Math.Dec.{ltb}
use borrow.Author.Tests.{ne_eqb, lt-ltb, le-ltb}
use Rattle.graphs.specs.Bools.{and_both}
use Rattle.graphs.specs.Count.{ind}
use Rattle.entry_set.specs.Lanes.{lanes}
use Rattle.merge_state.specs.declared.Sizes.{Sizes}
use Rattle.merge_state.specs.State.{None, put, put_same, put_other, pairs}
use Rattle.merge_state.specs.State as state
use Rattle.merge_area.specs.Layout.{cell, head, set_place, set_chunk, side, need, key, into, home, entry_chunk, entry_module}
use Rattle.merge_area.specs.Read.{entry, named_set, depends_in, effects_in, needs_in, log_in, sets-in, home_in, keys_in, mode_in, into_in}
use Rattle.merge_state.specs.Pairs.{pairs-same, pairs-more}

-- a flag that is written and read
pub yes-ind : (k : Bool) → state.yes (ind k) ≡ k
yes-ind true = refl
yes-ind false = refl

-- a flag that is set is a dependency
pub depends_on : (z : Sizes) (a : List ℕ) (x y : ℕ) → x < z.chunks → y < z.chunks → (cell a (x * z.chunks + y) ≡ 0 → ⊥) → depends_in z a x y ≡ true
unfolding depends_in
depends_on z a x y b c h = and_both _ _ (and_both _ _ (lt-ltb x _ b) (lt-ltb y _ c)) (ap not (ne_eqb _ 0 h))

-- a module's chunk
pub home_at : (z : Sizes) (a : List ℕ) (m : ℕ) → m < z.modules → home_in z a m ≡ cell a (home z m)
unfolding home_in
home_at z a m h = rw (lt-ltb m z.modules h)

-- a number of a lane of n numbers, as it is read
masked : {A : Type 0} {v w : ℕ} (r : Bool → ℕ → A) → ((i j : ℕ) → r false i ≡ r false j) → (n x : ℕ) → (x < n → v ≡ w) → r (ltb x n) v ≡ r (ltb x n) w
masked {v = v} {w = w} r out n x h = elim (dec_lt x n) [
  | yes b ↦ ap (r (ltb x n)) (h b)
  | no b ↦ rw (le-ltb x n (omega arith)) (out v w)
]

-- a flag, and a number or None
flagged : {v w : ℕ} (n x : ℕ) → (x < n → v ≡ w) → (ltb x n && state.yes v) ≡ (ltb x n && state.yes w)
flagged n x h = masked (λ t v. t && state.yes v) (λ i j. refl) n x h

numbered : {v w : ℕ} (n x : ℕ) → (x < n → v ≡ w) → cond (ltb x n) v None ≡ cond (ltb x n) w None
numbered n x h = masked (λ t v. cond t v None) (λ i j. refl) n x h

-- area b's field is area a's where the numbers are the same
module _ (z : Sizes) (a b : List ℕ) where
  pub depends-same : ((x y : ℕ) → x < z.chunks → y < z.chunks → cell b (x * z.chunks + y) ≡ cell a (x * z.chunks + y)) → depends_in z b ≡ depends_in z a
  unfolding depends_in
  depends-same h = fun_ext (λ x. fun_ext (λ y. elim (dec_lt x z.chunks) [
    | yes p ↦ elim (dec_lt y z.chunks) [ yes q ↦ ap (λ v. (ltb x z.chunks && ltb y z.chunks) && state.yes v) (h x y p q) | no q ↦ rw (lt-ltb x z.chunks p, le-ltb y z.chunks (omega arith)) ]
    | no p ↦ rw (le-ltb x z.chunks (omega arith))
  ]))

  pub effects_same : ((x : ℕ) → x < z.chunks → cell b (side z x) ≡ cell a (side z x)) → effects_in z b ≡ effects_in z a
  unfolding effects_in
  effects_same h = fun_ext (λ x. flagged z.chunks x (h x))

  pub needs_same : ((x : ℕ) → x < z.chunks → cell b (need z x) ≡ cell a (need z x)) → needs_in z b ≡ needs_in z a
  unfolding needs_in
  needs_same h = fun_ext (λ x. flagged z.chunks x (h x))

  pub home_same : ((m : ℕ) → m < z.modules → cell b (home z m) ≡ cell a (home z m)) → home_in z b ≡ home_in z a
  unfolding home_in
  home_same h = fun_ext (λ m. numbered z.modules m (h m))

  pub keys-same : ((k : ℕ) → k < z.chunks → cell b (key z k) ≡ cell a (key z k)) → keys_in z b ≡ keys_in z a
  unfolding keys_in
  keys-same h = fun_ext (λ k. numbered z.chunks k (h k))

  pub mode_same : cell b (head z 5) ≡ cell a (head z 5) → mode_in z b ≡ mode_in z a
  unfolding mode_in
  mode_same e = ap state.yes e

  pub into-same : cell b (head z 5) ≡ cell a (head z 5) → ((x : ℕ) → x < z.chunks → cell b (into z x) ≡ cell a (into z x)) → into_in z b ≡ into_in z a
  unfolding into_in
  into-same e h = fun_ext (λ x. masked (λ t v. cond (mode_in z b && t) v None) (out (mode_in z b)) z.chunks x (h x) ∙ ap (λ m. cond (m && ltb x z.chunks) (cell a (into z x)) None) (mode_same e))
    where
      out : (m : Bool) (i j : ℕ) → cond (m && false) i None ≡ cond (m && false) j None
      out true i j = refl
      out false i j = refl

  entries-same : ((i : ℕ) → i < cell a (head z 4) → (cell b (entry_chunk z i) ≡ cell a (entry_chunk z i)) × (cell b (entry_module z i) ≡ cell a (entry_module z i)))
      → pairs (entry z b) (cell a (head z 4)) ≡ log_in z a
  entries-same h = pairs-same (entry z b) (entry z a) (cell a (head z 4)) (λ i l. ap₂ (λ u v. (u, v)) (h i l).0 (h i l).1)

  pub log_same : cell b (head z 4) ≡ cell a (head z 4)
      → ((i : ℕ) → i < cell a (head z 4) → (cell b (entry_chunk z i) ≡ cell a (entry_chunk z i)) × (cell b (entry_module z i) ≡ cell a (entry_module z i))) → log_in z b ≡ log_in z a
  log_same e h = ap (pairs (entry z b)) e ∙ entries-same h

  pub log_more : (x m : ℕ) → cell b (head z 4) ≡ cell a (head z 4) + 1
      → ((i : ℕ) → i < cell a (head z 4) → (cell b (entry_chunk z i) ≡ cell a (entry_chunk z i)) × (cell b (entry_module z i) ≡ cell a (entry_module z i)))
      → cell b (entry_chunk z (cell a (head z 4))) ≡ x → cell b (entry_module z (cell a (head z 4))) ≡ m → log_in z b ≡ log_in z a ++ ((x, m) ∷ [])
  log_more x m e h p q =
      ap (pairs (entry z b)) e ∙ pairs-more (entry z b) (cell a (head z 4)) ∙ ap₂ (λ l f. l ++ (f ∷ [])) (entries-same h) (ap₂ (λ u v. (u, v)) p q)

  named-same : ((i : ℕ) → i < cell a (head z 3) → (lanes b (set_place z i) 1 ≡ lanes a (set_place z i) 1) × (cell b (set_chunk z i) ≡ cell a (set_chunk z i)))
      → pairs (named_set z b) (cell a (head z 3)) ≡ sets-in z a
  named-same h = pairs-same (named_set z b) (named_set z a) (cell a (head z 3)) (λ i l. ap₂ (λ u v. (u, v)) (h i l).0 (h i l).1)

  pub sets_same : cell b (head z 3) ≡ cell a (head z 3)
      → ((i : ℕ) → i < cell a (head z 3) → (lanes b (set_place z i) 1 ≡ lanes a (set_place z i) 1) × (cell b (set_chunk z i) ≡ cell a (set_chunk z i))) → sets-in z b ≡ sets-in z a
  sets_same e h = ap (pairs (named_set z b)) e ∙ named-same h

  pub sets_more : (v x : ℕ) → cell b (head z 3) ≡ cell a (head z 3) + 1
      → ((i : ℕ) → i < cell a (head z 3) → (lanes b (set_place z i) 1 ≡ lanes a (set_place z i) 1) × (cell b (set_chunk z i) ≡ cell a (set_chunk z i)))
      → lanes b (set_place z (cell a (head z 3))) 1 ≡ v → cell b (set_chunk z (cell a (head z 3))) ≡ x → sets-in z b ≡ sets-in z a ++ ((v, x) ∷ [])
  sets_more v x e h p q =
      ap (pairs (named_set z b)) e ∙ pairs-more (named_set z b) (cell a (head z 3)) ∙ ap₂ (λ l f. l ++ (f ∷ [])) (named-same h) (ap₂ (λ u v. (u, v)) p q)

-- f is g but for one place
but : {A : Type 0} {f g : ℕ → A} (i : ℕ) (v : A) → f i ≡ v → ((x : ℕ) → (x ≡ i → ⊥) → f x ≡ g x) → f ≡ put g i v
but {f = f} {g = g} i v e h = fun_ext (λ x. elim (ℕ_discrete x i) [ yes q ↦ rw q (e ∙ sym (put_same g i v)) | no q ↦ h x q ∙ sym (put_other g i v x q) ])

module _ (z : Sizes) (a b : List ℕ) where
  pub effects_put : (x : ℕ) (e : Bool) → x < z.chunks → cell b (side z x) ≡ ind e → ((y : ℕ) → y < z.chunks → (y ≡ x → ⊥) → cell b (side z y) ≡ cell a (side z y)) → effects_in z b ≡ put (effects_in z a) x e
  unfolding effects_in
  effects_put x e l p h = but x e (rw (lt-ltb x z.chunks l, p) (yes-ind e)) (λ y n. flagged z.chunks y (λ c. h y c n))

  pub needs_put : (x : ℕ) (e : Bool) → x < z.chunks → cell b (need z x) ≡ ind e → ((y : ℕ) → y < z.chunks → (y ≡ x → ⊥) → cell b (need z y) ≡ cell a (need z y)) → needs_in z b ≡ put (needs_in z a) x e
  unfolding needs_in
  needs_put x e l p h = but x e (rw (lt-ltb x z.chunks l, p) (yes-ind e)) (λ y n. flagged z.chunks y (λ c. h y c n))

  pub home-put : (m x : ℕ) → m < z.modules → cell b (home z m) ≡ x → ((k : ℕ) → k < z.modules → (k ≡ m → ⊥) → cell b (home z k) ≡ cell a (home z k)) → home_in z b ≡ put (home_in z a) m x
  unfolding home_in
  home-put m x l p h = but m x (rw (lt-ltb m z.modules l) p) (λ k n. numbered z.modules k (λ c. h k c n))

  pub keys-put : (k x : ℕ) → k < z.chunks → cell b (key z k) ≡ x → ((j : ℕ) → j < z.chunks → (j ≡ k → ⊥) → cell b (key z j) ≡ cell a (key z j)) → keys_in z b ≡ put (keys_in z a) k x
  unfolding keys_in
  keys-put k x l p h = but k x (rw (lt-ltb k z.chunks l) p) (λ j n. numbered z.chunks j (λ c. h j c n))

  pub into-put : (x v : ℕ) → mode_in z a ≡ true → cell b (head z 5) ≡ cell a (head z 5) → x < z.chunks → cell b (into z x) ≡ v → ((y : ℕ) → y < z.chunks → (y ≡ x → ⊥) → cell b (into z y) ≡ cell a (into z y))
      → into_in z b ≡ put (into_in z a) x v
  unfolding into_in
  into-put x v m e l p h =
      let n : mode_in z b ≡ true = mode_same z a b e ∙ m in
      but x v (rw (n, lt-ltb x z.chunks l) p) (λ y q. rw (n, m) (numbered z.chunks y (λ c. h y c q)))
