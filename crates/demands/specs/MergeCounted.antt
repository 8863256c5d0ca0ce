-- The dependencies that count, of a graph in order: what the warning says of them, and which methods close no loop. Assumes nothing.
use Prim.Native.Nat.{ℕ, zero, suc, ◌+◌, ◌<◌, ◌≤◌}
use Rattle.std.proofs.Common.{arith, sym, ap₂, subst, ◌∙◌, inl, inr, eqb-true, eq-eqb, ne_eqb}
use Rattle.std.proofs.Math.Decide.{ℕ_discrete, dec_lt}
use Rattle.std.specs.Prelude.{◌≡◌, ◌↔◌, Bool, cond, ◌&&◌, List, [], ◌∷◌, ◌++◌}
use Rattle.std.proofs.Math.Path.{refl, fun_ext}
use Rattle.std.proofs.Math.Bool.{true, false, not}
use Rattle.std.proofs.Math.ListN.{get_or}
use Rattle.std.proofs.Math.Dec.{eqb}
use Rattle.std.proofs.lemmas.Bool.{eqb-false, not-true, not-false}
use Rattle.graphs.specs.Bools.{fails, and_left, and_right}
use Rattle.graphs.specs.Count.{count}
use Rattle.graphs.specs.Lists.{below}
use Rattle.graphs.specs.Walk.{Walk, one, more, cyclic}
use Rattle.graphs.specs.Walks.{sources-below, acyclic_walk}
use Rattle.graph_walks.specs.Counted.{counted, Stored, counted_give, counted-take}
use Rattle.merge_state.specs.declared.Sizes.{Sizes}
use Rattle.merge_state.specs.State.{None, Graph, put}
use Rattle.merge_state.specs.Merges.{ending, end, counts, waits}
use Rattle.merge_state.specs.Methods.{absorbed, opened, warn, merged, created_chunk, Passed, merges, candidate, passed}
use Rattle.merge_state.specs.Warning.{fused}
use Rattle.merge_state.specs.Counted.{counted-ends, fused_acyclic}
use Rattle.merge_state.proofs.Counted.{counted-merged, mode_warning}
use Rattle.merge_state.specs.Ends.{stop, settled, ended, ends-after, Merges, merges-more}
use Rattle.merge_state.specs.Table.{any_misfit, any_gone}
use Rattle.merge_state.specs.Ordered.{Ordered, never}
use Rattle.merge_state.specs.Kept.{Passing, Proper, proposal, unmerged}
use Rattle.merge_state.proofs.Kept.{passed-kept}

-- where merges end, of the chunks below n
ending_in : (f : ℕ → ℕ) (n : ℕ) → ((x : ℕ) → (f x ≡ None → ⊥) → (x < n) × (f x < n)) → (k x : ℕ) → x < n → ending f k x < n
unfolding ending
ending_in f n range zero x b = b
ending_in f n range (suc k) x b = elim (ℕ_discrete (f x) None) [
  | yes q ↦ rw (eq-eqb (f x) None q) b
  | no q ↦ rw (ne_eqb (f x) None q) (ending_in f n range k (f x) (range x q).1)
]

-- no dependency that counts closes a loop
abbrev pub Loopless : Graph → Type 0
Loopless g = (x : ℕ) → Walk (counts g) x x → ⊥

module _ {z : Sizes} {g : Graph} (o : Ordered z g) where
  inside : (x : ℕ) → x < g.made → end g x < g.made
  inside x b = ending_in g.into g.made o.merges.range g.made x b

  stored : (x y : ℕ) → counts g x y ≡ true → Stored g.depends (end g) g.made x y
  stored x y h = counted-take g.depends (end g) g.made x y h

  from : (x y : ℕ) → counts g x y ≡ true → x < g.made
  from x y h = let k = stored x y h in subst (λ v. v < g.made) k.from (inside k.source k.source_in)

  to : (x y : ℕ) → counts g x y ≡ true → y < g.made
  to x y h = let k = stored x y h in subst (λ v. v < g.made) k.to (inside k.target k.target_in)

  itself : (x : ℕ) → counts g x x ≡ false
  itself x = fails _ (λ h. (stored x x h).differ refl)

  -- the computed test
  pub loopless : (cyclic (counts g) (below g.made) ≡ false) ↔ Loopless g
  loopless = acyclic_walk (counts g) (below g.made) (sources-below from)

  -- the warning is yes exactly when the fused chunk lies on a cycle with another
  pub warn_walk : (s t : ℕ) → g.mode ≡ true → (s ≡ t → ⊥) → (warn g s t ≡ true) ↔ Walk (fused (counts g) s t) t t
  unfolding warn
  warn_walk s t m apart = rw m (mode_warning (counts g) g.made s t itself from to apart)

  last : (x : ℕ) → g.into (end g x) ≡ None
  last x = ended g.into g.made o.merges.range o.merges.no_ring x

  -- a chunk more, which nothing depends on yet
  pub opened_loopless : (v : ℕ) → Loopless g → Loopless (opened g v)
  unfolding opened
  opened_loopless v none x w = none x (along w)
    where
      same : (x : ℕ) → ending g.into (g.made + 1) x ≡ end g x
      same x = settled g.into g.made 1 x (last x)

      before : (x y : ℕ) → counted g.depends (ending g.into (g.made + 1)) (g.made + 1) x y ≡ true → counts g x y ≡ true
      before x y h =
          let k = counted-take g.depends (ending g.into (g.made + 1)) (g.made + 1) x y h in
          let p : end g k.source ≡ x = sym (same k.source) ∙ k.from in
          let q : end g k.target ≡ y = sym (same k.target) ∙ k.to in
          sym (ap₂ (counts g) p q)
          ∙ counted_give g.depends (end g) g.made k.source k.target (o.sound.from _ _ k.edge) (o.sound.to _ _ k.edge) k.edge (λ e. k.differ (sym p ∙ e ∙ q))

      along : {x y : ℕ} → Walk (counted g.depends (ending g.into (g.made + 1)) (g.made + 1)) x y → Walk (counts g) x y
      along (one h) = one (before _ _ h)
      along (more h w) = more (before _ _ h) (along w)

  -- a merge of s into t, where merged chunks stand for their target, neither merged yet
  module _ (t s : ℕ) (m : g.mode ≡ true) (a : t < g.made) (b : s < g.made) (apart : s ≡ t → ⊥) (free-t : g.into t ≡ None) (free-s : g.into s ≡ None) where
    onward : Merges true (put g.into s t) g.made
    onward = merges-more true s t (subst (λ b. Merges b g.into g.made) m o.merges) apart b a free-s free-t

    moved : (x : ℕ) → ending (put g.into s t) g.made x ≡ put (λ z. z) s t (end g x)
    moved x =
        ends-after g.into s t apart free-s free-t (λ e. omega (arith, o.fits, o.small)) g.made x (last x)
        (ended (put g.into s t) g.made onward.range onward.no_ring x)

    -- what counts afterwards is what counted before, the two fused
    merge_fuses : counts (merged g t s) ≡ fused (counts g) s t
    unfolding merged
    merge_fuses = rw m (
        counted-ends (absorbed g.depends t s) (ending (put g.into s t) g.made) (λ x. put (λ z. z) s t (end g x)) g.made (λ x b. moved x)
        ∙ fun_ext (λ x. fun_ext (λ y. counted-merged g.depends (end g) g.made s t apart (stop g.into g.made s free-s) (stop g.into g.made t free-t) b a x y))
        )

    -- unwarned, it closes no loop
    pub merge_loopless : warn g s t ≡ false → Loopless g → Loopless (merged g t s)
    merge_loopless u none x w =
        fused_acyclic (counts g) s t none (λ c. never (warn g s t) ((warn_walk s t m apart).1 c) u) x (subst (λ d. Walk d x x) merge_fuses w)

    -- warned of, it closes one
    pub merge-closes : warn g s t ≡ true → Walk (counts (merged g t s)) t t
    merge-closes h = subst (λ d. Walk d t t) (sym merge_fuses) ((warn_walk s t m apart).0 h)

-- a candidate that waits, with a proposal that no row refuses
module _ {z : Sizes} {g : Graph} (o : Ordered z g) (m : g.mode ≡ true) where
  later_than : (k : ℕ) → waits g k ≡ true → g.initial ≤ k
  later_than k w = elim (dec_lt k g.initial) [
    | yes b ↦ absurd (never _ (and_left (g.needs k) _ w) (o.initial_needs_none k b))
    | no b ↦ omega arith
  ]

  free : (k : ℕ) → waits g k ≡ true → g.into k ≡ None
  free k w = eqb-true _ None (not-false _ (not-true _ (and_right (g.needs k) _ w)))

  candidate_loopless : (r : Passed) (k p b : ℕ) → Passing z g k r → k < g.made → waits g k ≡ true → ((p ≡ None → ⊥) → Proper g k p)
      → Loopless r.graph → Loopless (candidate r k p b).graph
  unfolding candidate merges created_chunk
  candidate_loopless r k p b v l n f none = go ((not (eqb p None) && eqb b 0) && not (warn r.graph k p)) refl
    where
      go : (t : Bool) → ((not (eqb p None) && eqb b 0) && not (warn r.graph k p)) ≡ t
          → Loopless (cond {A = Passed} t
          (record { graph = merged r.graph p k; kinds = r.kinds ++ (0 ∷ []); numbers = r.numbers ++ (p ∷ []) })
          (record { graph = created_chunk r.graph k; kinds = r.kinds ++ (1 ∷ []); numbers = r.numbers ++ ((r.graph.initial + r.graph.created) ∷ []) })).graph
      go true q =
          let c = f (eqb-false p None (not-true _ (and_left (not (eqb p None)) _ (and_left (not (eqb p None) && eqb b 0) _ q)))) in
          merge_loopless v.ordered p k (v.mode ∙ m) (omega (arith, c.initial, v.made, o.begun)) (omega (arith, v.made)) (λ e. omega (arith, c.initial, later_than k n))
          (v.into p (inl c.initial) ∙ c.unmerged) (v.into k (inr (omega arith)) ∙ free k n)
          (not-true _ (and_right (not (eqb p None) && eqb b 0) _ q)) none
      go false q = none

  -- it is acyclic after every candidate, for any proposals and bars that no row refuses
  pub passed_loopless : g.initial + g.created + count (waits g) g.made ≤ z.chunks → (props bars : List ℕ) → any_misfit g.initial true props ≡ false → any_gone g props ≡ false
      → Loopless g → (k : ℕ) → k ≤ g.made → Loopless (passed g props bars k).graph
  unfolding passed
  passed_loopless room props bars f u none zero h = none
  passed_loopless room props bars f u none (suc k) h = go (waits g k) refl (passed_loopless room props bars f u none k (omega arith)) (passed-kept o room props bars f u k (omega arith))
    where
      p : ℕ
      p = get_or props (count (waits g) k) None

      b : ℕ
      b = get_or bars (count (waits g) k) 0

      proper : (p ≡ None → ⊥) → Proper g k p
      proper n = record { initial = proposal g props f (count (waits g) k) n; unmerged = unmerged g props u (count (waits g) k) n }

      go : (t : Bool) → waits g k ≡ t → Loopless (passed g props bars k).graph → Passing z g k (passed g props bars k)
          → Loopless (cond {A = Passed} t (candidate (passed g props bars k) k p b) (passed g props bars k)).graph
      go true q none v = candidate_loopless (passed g props bars k) k p b v (omega arith) q proper none
      go false q none v = none
