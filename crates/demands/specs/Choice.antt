-- The choice of a merge target: what a target that is found is, and that the pass can take it. Assumes nothing.
use Rattle.std.specs.Prelude.{ℕ, zero, suc, ◌/◌, ◌%◌, ◌^◌, ◌<◌, ◌≤◌, ◌≡◌, ◌⊎◌, Bool, cond, ◌&&◌, ◌||◌, List, get_or, length, ltb, leb}
use Rattle.std.proofs.Common.{arith, ◌∙◌}
use Rattle.std.proofs.Math.Path.{refl, sym, ap, subst, fun_ext}
use Rattle.std.proofs.Math.Logic.{inl, inr, ⊎_elim}
use Rattle.std.proofs.Math.Bool.{true, false, not}
use Rattle.std.proofs.Math.Dec.{eqb}
use borrow.Author.Tests.{eq-eqb, ne_eqb, eqb-true, eqb-false, ltb-true, lt-leb, not-true, not-false}
use Rattle.graphs.specs.Bools.{and_left, and_right, or_cases, or_false_left, or_false_right, fails, Same, it, other, same?}
use Rattle.graphs.specs.Lists.{some_none, none_below}
use Rattle.graphs.specs.Tab.{tab, tab-length, tab-at}
use Rattle.merge_state.specs.State.{None, misfit}
use Rattle.merge_state.specs.Table.{refused, any_misfit}
use Rattle.merge_choice.specs.Choice.{Lent, bits, role, in_list, some_role, imports, wins, first_below, first_target, unreached, leaks, strayed, polluted, guarded, user_target, dynamic_target, chosen, choice, built_in}
use Rattle.merge_choice.specs.Find.{row23, told, find, find_by}
use Rattle.merge_choice.specs.Classes.{built_in-legal}
use Rattle.merge_choice.specs.Named.{bits_le}
use Rattle.merge_choice.specs.Chosen.{first_in}

-- what the bits of a set name: nothing, a dynamic entry, a user entry, a common chunk
abbrev Roles : Type 0
Roles = ℕ → ℕ

-- the role that is searched: user entries, or dynamic ones where there is no user entry
unfoldable pub searched : Roles → ℕ → ℕ
searched r k = cond (some_role r (bits k) 2) 2 1

-- of k chunks with these roles the first wins whose module all others of these import, subject to the guards on reached entries, leaked side effects,
-- importers and exports
pub record Target (r : Roles) (k : ℕ) (l : Lent) (t : ℕ) : Type 0 where
  pub below : t < bits k
  -- a common chunk among them means no target
  pub no_common : (b : ℕ) → b < bits k → r b ≡ 3 → ⊥
  pub class : r t ≡ searched r k
  pub imported : (o : ℕ) → o < bits k → r o ≡ searched r k → (get_or l.entries o 0 ≡ get_or l.entries t 0) ⊎ (in_list l.static (get_or l.entries t 0) (get_or l.entries o 0) ≡ true)
  pub first : (u : ℕ) → u < t → wins r (bits k) l.entries l.static (searched r k) u ≡ false
  pub reaches : searched r k ≡ 2 → unreached r (bits k) l.reached t ≡ false
  pub sealed : searched r k ≡ 2 → leaks r (bits k) l.reached l.effects k t ≡ false
  pub at_home : searched r k ≡ 2 → strayed l.modules l.dynamic l.candidate t ≡ false
  pub clean : searched r k ≡ 1 → polluted r (bits k) l.entries l.exports l.candidate t ≡ false

guarded-found : (bars : ℕ → Bool) (x : ℕ) → (guarded bars x ≡ None → ⊥) → (guarded bars x ≡ x) × (x ≡ None → ⊥) × (bars x ≡ false)
unfolding guarded
guarded-found bars x h = go (eqb x None) refl (bars x) refl h
  where
    go : (s : Bool) → eqb x None ≡ s → (b : Bool) → bars x ≡ b → (cond (s || b) None x ≡ None → ⊥) → (cond (s || b) None x ≡ x) × (x ≡ None → ⊥) × (b ≡ false)
    go true p b q h = absurd (h refl)
    go false p true q h = absurd (h refl)
    go false p false q h = (refl, eqb-false x None p, refl)

-- a search that finds nothing, and one that finds something: what it passed
nothing_first : (p : ℕ → Bool) (n : ℕ) → n ≤ None → first_below p n ≡ None → (u : ℕ) → u < n → p u ≡ false
unfolding first_below
nothing_first p zero s h u b = absurd (omega arith)
nothing_first p (suc n) s h u b = go (same? (first_below p n) None) (p n) refl (nothing_first p n (omega arith)) h
  where
    go : Same (first_below p n) None → (t : Bool) → p n ≡ t → (first_below p n ≡ None → (u : ℕ) → u < n → p u ≡ false)
        → cond (eqb (first_below p n) None) (cond t n None) (first_below p n) ≡ None → p u ≡ false
    go (other e) t q f h = absurd (e (rw (ne_eqb (first_below p n) None e) at h))
    go (it e) true q f h = absurd (omega (arith, rw (eq-eqb (first_below p n) None e) at h))
    go (it e) false q f h = pick (same? u n)
      where
        pick : Same u n → p u ≡ false
        pick (it z) = ap p z ∙ q
        pick (other z) = f e u (omega arith)

first_least : (p : ℕ → Bool) (n : ℕ) → n ≤ None → (first_below p n ≡ None → ⊥) → (u : ℕ) → u < first_below p n → p u ≡ false
unfolding first_below
first_least p zero s h u b = absurd (h refl)
first_least p (suc n) s h u b = go (same? (first_below p n) None) (p n) refl (first_least p n (omega arith)) h b
  where
    go : Same (first_below p n) None → (t : Bool) → p n ≡ t → ((first_below p n ≡ None → ⊥) → (u : ℕ) → u < first_below p n → p u ≡ false)
        → (cond (eqb (first_below p n) None) (cond t n None) (first_below p n) ≡ None → ⊥) → u < cond (eqb (first_below p n) None) (cond t n None) (first_below p n) → p u ≡ false
    go (other e) t q f h b = f e u (rw (ne_eqb (first_below p n) None e) at b)
    go (it e) true q f h b = nothing_first p n (omega arith) e u (rw (eq-eqb (first_below p n) None e) at b)
    go (it e) false q f h b = absurd (h (rw (eq-eqb (first_below p n) None e)))

module _ (r : Roles) (k : ℕ) (l : Lent) where
  won : (v x o : ℕ) → wins r (bits k) l.entries l.static v x ≡ true → o < bits k → r o ≡ v
      → (get_or l.entries o 0 ≡ get_or l.entries x 0) ⊎ (in_list l.static (get_or l.entries x 0) (get_or l.entries o 0) ≡ true)
  unfolding wins imports
  won v x o h b e =
      let none = not-true _ (and_right (eqb (r x) v) _ h) in
      let q = some_none (λ o. eqb (r o) v && not (imports r (bits k) l.entries l.static x o)) (bits k) none o b in
      ⊎_elim (λ a. inl (eqb-true _ _ a)) (λ a. inr a) (or_cases (eqb (get_or l.entries o 0) (get_or l.entries x 0)) _ (not-false _ (rw (eq-eqb (r o) v e) at q)))

  own_role : (v x : ℕ) → wins r (bits k) l.entries l.static v x ≡ true → r x ≡ v
  unfolding wins
  own_role v x h = eqb-true _ _ (and_left (eqb (r x) v) _ h)

  common-free : some_role r (bits k) 3 ≡ false → (b : ℕ) → b < bits k → r b ≡ 3 → ⊥
  unfolding some_role
  common-free h b i e = eqb-false (r b) 3 (some_none (λ b. eqb (r b) 3) (bits k) h b i) e

  small : bits k ≤ None
  small = omega (arith, (bits_le k).0)

  first-role : (v : ℕ) → searched r k ≡ v → some_role r (bits k) 3 ≡ false → (first_target r (bits k) l.entries l.static v ≡ None → ⊥)
      → (v ≡ 2 → (unreached r (bits k) l.reached (first_target r (bits k) l.entries l.static v) ≡ false)
      × (leaks r (bits k) l.reached l.effects k (first_target r (bits k) l.entries l.static v) ≡ false)
      × (strayed l.modules l.dynamic l.candidate (first_target r (bits k) l.entries l.static v) ≡ false))
      → (v ≡ 1 → polluted r (bits k) l.entries l.exports l.candidate (first_target r (bits k) l.entries l.static v) ≡ false)
      → Target r k l (first_target r (bits k) l.entries l.static v)
  unfolding first_target
  first-role v e c h g d =
      let p = wins r (bits k) l.entries l.static v in
      let i = first_in p (bits k) h in
      record {
        below = i.0;
        no_common = common-free c;
        class = own_role v (first_below p (bits k)) i.1 ∙ sym e;
        imported = λ o b q. won v (first_below p (bits k)) o i.1 b (q ∙ e);
        first = λ u b. ap (λ w. wins r (bits k) l.entries l.static w u) e ∙ first_least p (bits k) small h u b;
        reaches = λ q. (g (sym e ∙ q)).0;
        sealed = λ q. (g (sym e ∙ q)).1;
        at_home = λ q. (g (sym e ∙ q)).2;
        clean = λ q. d (sym e ∙ q);
      }

  searched_user : some_role r (bits k) 2 ≡ true → searched r k ≡ 2
  unfolding searched
  searched_user h = rw h

  searched-dynamic : some_role r (bits k) 2 ≡ false → searched r k ≡ 1
  unfolding searched
  searched-dynamic h = rw h

  users : some_role r (bits k) 3 ≡ false → some_role r (bits k) 2 ≡ true
      → (user_target r k l.entries l.modules l.static l.dynamic l.reached l.effects l.candidate ≡ None → ⊥)
      → Target r k l (user_target r k l.entries l.modules l.static l.dynamic l.reached l.effects l.candidate)
  unfolding user_target
  users c b h =
      let x = first_target r (bits k) l.entries l.static 2 in
      let g = guarded-found (λ t. unreached r (bits k) l.reached t || (leaks r (bits k) l.reached l.effects k t || strayed l.modules l.dynamic l.candidate t)) x h in
      let u = unreached r (bits k) l.reached x in
      let w = leaks r (bits k) l.reached l.effects k x in
      subst (λ t. Target r k l t) (sym g.0) (first-role 2 (searched_user b) c g.1 (λ z. (or_false_left u _ g.2, or_false_left w _ (or_false_right u _ g.2), or_false_right w _ (or_false_right u _ g.2))) (λ z. absurd (omega arith)))

  dynamics : some_role r (bits k) 3 ≡ false → some_role r (bits k) 2 ≡ false
      → (dynamic_target r k l.entries l.static l.exports l.candidate ≡ None → ⊥) → Target r k l (dynamic_target r k l.entries l.static l.exports l.candidate)
  unfolding dynamic_target
  dynamics c b h =
      let x = first_target r (bits k) l.entries l.static 1 in
      let g = guarded-found (polluted r (bits k) l.entries l.exports l.candidate) x h in
      subst (λ t. Target r k l t) (sym g.0) (first-role 1 (searched-dynamic b) c g.1 (λ z. absurd (omega arith)) (λ z. g.2))

  pub found_target : (chosen r k l ≡ None → ⊥) → Target r k l (chosen r k l)
  unfolding chosen
  found_target h = go (some_role r (bits k) 3) refl (some_role r (bits k) 2) refl h
    where
      go : (a : Bool) → some_role r (bits k) 3 ≡ a → (b : Bool) → some_role r (bits k) 2 ≡ b
          → (cond a None (cond b (user_target r k l.entries l.modules l.static l.dynamic l.reached l.effects l.candidate) (dynamic_target r k l.entries l.static l.exports l.candidate)) ≡ None → ⊥)
          → Target r k l (cond a None (cond b (user_target r k l.entries l.modules l.static l.dynamic l.reached l.effects l.candidate) (dynamic_target r k l.entries l.static l.exports l.candidate)))
      go true p b q h = absurd (h refl)
      go false p true q h = users p q h
      go false p false q h = dynamics p q h

-- what the call's answer says
pub choice-found : (classes kinds : List ℕ) (set : ℕ) (l : Lent) → (choice classes kinds set l ≡ None → ⊥) → Target (role classes kinds set) (length kinds) l (choice classes kinds set l)
unfolding choice
choice-found classes kinds set l h = found_target (role classes kinds set) (length kinds) l h

searched-named : (r : Roles) (k : ℕ) → searched r k ≡ 0 → ⊥
unfolding searched
searched-named r k = go (some_role r (bits k) 2)
  where
    go : (t : Bool) → ◌≡◌ {A = ℕ} (cond t 2 1) 0 → ⊥
    go true e = omega arith
    go false e = omega arith

-- the bits of the candidate's set name chunks: a chunk with a role is named by its bit
named_bit : (classes kinds : List ℕ) (set b : ℕ) → (role classes kinds set b ≡ 0 → ⊥) → set / 2 ^ b % 2 ≡ 1
unfolding role
named_bit classes kinds set b h = go (ltb b (bits (length kinds)) && eqb (set / 2 ^ b % 2) 1) refl h
  where
    go : (t : Bool) → (ltb b (bits (length kinds)) && eqb (set / 2 ^ b % 2) 1) ≡ t
        → (◌≡◌ {A = ℕ} (cond t (cond (eqb (get_or kinds b 0) 8) 3 (cond (eqb (get_or classes (get_or kinds b 0) 0) 1) 2 1)) 0) 0 → ⊥) → set / 2 ^ b % 2 ≡ 1
    go true q h = eqb-true _ _ (and_right (ltb b (bits (length kinds))) _ q)
    go false q h = absurd (h refl)

-- a target is one of the chunks, and the set names it
pub choice-below : (classes kinds : List ℕ) (set : ℕ) (l : Lent) → (choice classes kinds set l ≡ None → ⊥)
    → (choice classes kinds set l < length kinds) × (set / 2 ^ choice classes kinds set l % 2 ≡ 1)
choice-below classes kinds set l h =
    let t = choice-found classes kinds set l h in
    let r = role classes kinds set in
    (omega (arith, t.below, (bits_le (length kinds)).1), named_bit classes kinds set (choice classes kinds set l) (λ e. searched-named r (length kinds) (sym t.class ∙ e)))

-- a proposal of the pass that is such a choice, where the kinds are those of the initial chunks
pub record Chosen (initial v : ℕ) : Type 0 where
  pub classes : List ℕ
  pub kinds : List ℕ
  pub set : ℕ
  pub lent : Lent
  pub count : length kinds ≡ initial
  pub is : v ≡ choice classes kinds set lent

-- such a proposal is initial or None
chosen-fits : (initial v : ℕ) → Chosen initial v → Same v None → misfit initial true v ≡ false
unfolding misfit
chosen-fits initial v c (it e) = fails _ (λ h. eqb-false v None (not-true _ (and_right (leb initial v) _ h)) e)
chosen-fits initial v c (other e) =
    let w = choice-below c.classes c.kinds c.set c.lent (λ z. e (c.is ∙ z)) in
    rw (lt-leb initial v (omega (arith, w.0, c.is, c.count)))

-- the pass can take it as proposal where the kinds are those of initial chunks: no 16 comes of such proposals
pub chosen_proposals : (initial : ℕ) (proposals : List ℕ) → ((i : ℕ) → i < length proposals → Chosen initial (get_or proposals i 0)) → any_misfit initial true proposals ≡ false
unfolding any_misfit
chosen_proposals initial proposals f =
    none_below (λ i. misfit initial true (get_or proposals i 0)) (length proposals) (λ i b. chosen-fits initial (get_or proposals i 0) (f i b) (same? (get_or proposals i 0) None))

-- with the built-in classes the call that takes classes answers as the one without
pub built_in_classes : (k m : ℕ) (kinds : List ℕ) (set : ℕ) (l : Lent) → find_by built_in k m kinds set l ≡ find k m kinds set l
unfolding find find_by
built_in_classes k m kinds set l = ap (λ t. cond (row23 k m kinds l) (refused 23) (cond t (refused 25) (told (choice built_in kinds set l)))) built_in-legal

-- a kind by its class alone: a common chunk, a user entry, a dynamic one
unfoldable pub recode : List ℕ → ℕ → ℕ
recode c kind = cond (eqb kind 8) 8 (cond (eqb (get_or c kind 0) 1) 1 0)

unfoldable pub recoded : List ℕ → List ℕ → List ℕ
recoded c kinds = tab (λ i. recode c (get_or kinds i 0)) (length kinds)

same_count : (c kinds : List ℕ) → length (recoded c kinds) ≡ length kinds
unfolding recoded
same_count c kinds = tab-length (λ i. recode c (get_or kinds i 0)) (length kinds)

recoded-at : (c kinds : List ℕ) (b : ℕ) → b < length kinds → get_or (recoded c kinds) b 0 ≡ recode c (get_or kinds b 0)
unfolding recoded
recoded-at c kinds b h = tab-at (λ i. recode c (get_or kinds i 0)) (length kinds) b h

-- the role that a kind gives where a bit names its chunk
same-role : (c : List ℕ) (kind : ℕ)
    → ◌≡◌ {A = ℕ} (cond (eqb kind 8) 3 (cond (eqb (get_or c kind 0) 1) 2 1)) (cond (eqb (recode c kind) 8) 3 (cond (eqb (get_or built_in (recode c kind) 0) 1) 2 1))
unfolding recode
same-role c kind = go (eqb kind 8) (eqb (get_or c kind 0) 1)
  where
    go : (a b : Bool) → ◌≡◌ {A = ℕ} (cond a 3 (cond b 2 1)) (cond (eqb (cond a 8 (cond b 1 0)) 8) 3 (cond (eqb (get_or built_in (cond a 8 (cond b 1 0)) 0) 1) 2 1))
    go true b = refl
    go false true = refl
    go false false = refl

same_roles : (c kinds : List ℕ) (set b : ℕ) → role c kinds set b ≡ role built_in (recoded c kinds) set b
unfolding role
same_roles c kinds set b =
    go (ltb b (bits (length kinds)) && eqb (set / 2 ^ b % 2) 1) refl
    ∙ ap (λ j. cond (ltb b (bits j) && eqb (set / 2 ^ b % 2) 1) (cond (eqb (get_or (recoded c kinds) b 0) 8) 3 (cond (eqb (get_or built_in (get_or (recoded c kinds) b 0) 0) 1) 2 1)) 0) (sym (same_count c kinds))
  where
    kind_at : b < length kinds → get_or (recoded c kinds) b 0 ≡ recode c (get_or kinds b 0)
    kind_at h = recoded-at c kinds b h

    go : (t : Bool) → (ltb b (bits (length kinds)) && eqb (set / 2 ^ b % 2) 1) ≡ t
        → ◌≡◌ {A = ℕ} (cond t (cond (eqb (get_or kinds b 0) 8) 3 (cond (eqb (get_or c (get_or kinds b 0) 0) 1) 2 1)) 0)
        (cond t (cond (eqb (get_or (recoded c kinds) b 0) 8) 3 (cond (eqb (get_or built_in (get_or (recoded c kinds) b 0) 0) 1) 2 1)) 0)
    go true q =
        same-role c (get_or kinds b 0)
        ∙ ap (λ v. cond (eqb v 8) 3 (cond (eqb (get_or built_in v 0) 1) 2 1)) (sym (kind_at (omega (arith, ltb-true b (bits (length kinds)) (and_left (ltb b (bits (length kinds))) _ q), (bits_le (length kinds)).1))))
    go false q = refl

-- with other classes only the split into user and dynamic entries changes: the choice is the built-in one on kinds recoded by their class
pub only_the_split : (c kinds : List ℕ) (set : ℕ) (l : Lent) → choice c kinds set l ≡ choice built_in (recoded c kinds) set l
unfolding choice
only_the_split c kinds set l =
    ap (λ r. chosen r (length kinds) l) (fun_ext (same_roles c kinds set)) ∙ ap (λ j. chosen (role built_in (recoded c kinds) set) j l) (sym (same_count c kinds))
