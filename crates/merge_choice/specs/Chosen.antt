-- The choice put together. Assumes nothing.
use Rattle.std.specs.Prelude.{ℕ, zero, suc, ◌/◌, ◌%◌, ◌^◌, ◌<◌, ◌≤◌, ◌≡◌, refl, Bool, true, false, cond, ◌&&◌, ◌||◌, List, get_or, length, ltb, eqb}
use Rattle.std.proofs.Common.{arith, ◌∙◌, eq-eqb, ne_eqb, ltb-true}
use Rattle.std.proofs.Math.Path.{sym, ap}
use Rattle.graphs.specs.Bools.{and_left, Same, it, other, same?}
use Rattle.merge_state.specs.State.{None}
use Rattle.merge_state.specs.Table.{Answer, refused, chunk, nothing}
use Rattle.merge_choice.specs.Choice.{Lists, Lent, lists, bits, role, first_below, some_role, first_target, unreached, leaks, strayed, guarded, user_target, dynamic_target, chosen, choice, built_in}
use Rattle.merge_choice.specs.Find.{row23, told, find}
use Rattle.merge_choice.specs.Spans.{Spans}
use Rattle.merge_choice.specs.Named.{reads, Named, CanSetRoles, named-all, bits_le}
use Rattle.merge_choice.specs.Search.{CanFirst}
use Rattle.merge_choice.specs.Guards.{CanReach, CanLeakFrom, CanStray, CanPollute}
use Rattle.merge_choice.specs.Rows.{Legal}

-- what a call is lent, beside the kinds
abbrev pub lent : List ℕ → List ℕ → List ℕ → List ℕ → List ℕ → List ℕ → List ℕ → List ℕ → List ℕ → List ℕ → List ℕ → List ℕ → Lent
lent entries mstarts modules istarts importers dstarts dynamics rstarts reached effects exports candidate =
    record { entries = entries; modules = lists mstarts modules; static = lists istarts importers; dynamic = lists dstarts dynamics; reached = lists rstarts reached; effects = effects; exports = exports; candidate = candidate }

-- the entries of role v can be searched
pub record Ready (k m v : ℕ) (roles entries istarts importers candidate : List ℕ) : Type 0 where
  pub few_chunks : k ≤ 1024
  pub few_modules : m ≤ 4096
  pub long : length roles ≡ 1024
  pub listed : length entries ≡ k
  pub static : Spans m m istarts importers
  pub own : (i : ℕ) → i < length candidate → get_or candidate i 0 < m
  pub entry : (o : ℕ) → o < bits k → get_or roles o 0 ≡ v → get_or entries o 0 < m

-- and a user entry's guards be asked
pub record CanGuard (k m : ℕ) (mstarts modules dstarts dynamics rstarts reached effects : List ℕ) : Type 0 where
  pub homes : Spans k m mstarts modules
  pub dynamic : Spans m m dstarts dynamics
  pub reaches : Spans k k rstarts reached
  pub sided : length effects ≡ k

module _ {k m v : ℕ} {roles entries istarts importers candidate : List ℕ} (r : Ready k m v roles entries istarts importers candidate) where
  pub can_first : {n : ℕ} → n ≡ bits k → CanFirst n roles v entries istarts importers 4096
  can_first {n} e =
      let w = bits_le k in
      record {
        few = omega (arith, e);
        named = omega (arith, e, r.long);
        listed = omega (arith, e, r.listed);
        entry = λ o b q. omega (arith, r.entry o (omega (arith, e)) q, r.static.count);
        count = omega (arith, r.static.count, r.few_modules);
        spans = λ x b. r.static.each x (omega (arith, r.static.count));
        inside = λ i b. omega (arith, r.static.below i b, r.few_modules);
      }

  module _ {mstarts modules dstarts dynamics rstarts reached effects : List ℕ} (g : CanGuard k m mstarts modules dstarts dynamics rstarts reached effects) where
    pub can_reach : {n t : ℕ} → n ≡ bits k → t < k → CanReach n roles rstarts reached t
    can_reach {n} {t} e b =
        let w = bits_le k in
        record {
          few = omega (arith, e);
          named = omega (arith, e, r.long);
          span = g.reaches.each t b;
          below = λ i h. omega (arith, g.reaches.below i h, r.few_chunks);
        }

    pub can_leak : CanLeakFrom k roles rstarts reached
    can_leak = record { spans = g.reaches.each; below = λ i h. omega (arith, g.reaches.below i h, r.few_chunks, r.long) }

    pub can_stray : {t : ℕ} → t < k → CanStray mstarts modules dstarts dynamics candidate t
    can_stray {t} b = record {
      home = g.homes.each t b;
      inside = λ i h. omega (arith, g.homes.below i h, r.few_modules);
      spans = λ i h. g.dynamic.each (get_or candidate i 0) (r.own i h);
      below = λ i h. omega (arith, g.dynamic.below i h, r.few_modules);
      own = λ i h. omega (arith, r.own i h, r.few_modules);
    }

pub can_pollute : {k m : ℕ} {roles entries istarts importers candidate : List ℕ} (exports : List ℕ) → Ready k m 1 roles entries istarts importers candidate → length exports ≡ m → {n t : ℕ} → n ≡ bits k → t < k → CanPollute n roles entries exports candidate t
can_pollute {k} exports r s {n} {t} e b =
    let w = bits_le k in
    record {
      named = omega (arith, e, r.long);
      listed = omega (arith, e, r.listed);
      inside = λ d h q. omega (arith, r.entry d (omega (arith, e)) q, r.few_modules);
      target = omega (arith, r.listed);
      flagged = λ i h. omega (arith, r.own i h, s);
      own = λ i h. omega (arith, r.own i h, r.few_modules);
    }

-- a number that a search finds is one that passes
pub first_in : (p : ℕ → Bool) (n : ℕ) → (first_below p n ≡ None → ⊥) → (first_below p n < n) × (p (first_below p n) ≡ true)
unfolding first_below
first_in p zero h = absurd (h refl)
first_in p (suc n) h = go (same? (first_below p n) None) (first_in p n) h
  where
    last : (t : Bool) → p n ≡ t → (cond t n None ≡ None → ⊥) → (cond t n None < suc n) × (p (cond t n None) ≡ true)
    last true q h = (omega arith, q)
    last false q h = absurd (h refl)

    go : Same (first_below p n) None → ((first_below p n ≡ None → ⊥) → (first_below p n < n) × (p (first_below p n) ≡ true))
        → (cond (eqb (first_below p n) None) (cond (p n) n None) (first_below p n) ≡ None → ⊥)
        → (cond (eqb (first_below p n) None) (cond (p n) n None) (first_below p n) < suc n) × (p (cond (eqb (first_below p n) None) (cond (p n) n None) (first_below p n)) ≡ true)
    go (it e) f h = rw (eq-eqb (first_below p n) None e) (last (p n) refl (λ z. h (rw (eq-eqb (first_below p n) None e) z)))
    go (other e) f h = let r = f e in rw (ne_eqb (first_below p n) None e) (omega (arith, r.0), r.1)

-- the guards in order
module _ (bars : ℕ → Bool) (t : ℕ) where
  pub none_found : t ≡ None → None ≡ guarded bars t
  unfolding guarded
  none_found e = rw (eq-eqb t None e)

  pub barred : (t ≡ None → ⊥) → bars t ≡ true → None ≡ guarded bars t
  unfolding guarded
  barred e h = rw (ne_eqb t None e, h)

  pub unbarred : (t ≡ None → ⊥) → bars t ≡ false → t ≡ guarded bars t
  unfolding guarded
  unbarred e h = rw (ne_eqb t None e, h)

-- the target among user entries, t being the first that wins
module _ (roles : List ℕ) (k : ℕ) (entries : List ℕ) (modules static dynamic reached : Lists) (effects candidate : List ℕ) {n t : ℕ} (e : n ≡ bits k)
    (f : t ≡ first_target (reads roles) n entries static 2) where
  abbrev bars : ℕ → ℕ → Bool
  bars j t = unreached (reads roles) j reached t || (leaks (reads roles) j reached effects k t || strayed modules dynamic candidate t)

  user_is : guarded (bars n) t ≡ user_target (reads roles) k entries modules static dynamic reached effects candidate
  unfolding user_target
  user_is = ap (guarded (bars n)) f ∙ ap (λ j. guarded (bars j) (first_target (reads roles) j entries static 2)) e

  pub user_none : t ≡ None → None ≡ user_target (reads roles) k entries modules static dynamic reached effects candidate
  user_none h = none_found (bars n) t h ∙ user_is

  module _ (h : t ≡ None → ⊥) {u : Bool} (p : u ≡ unreached (reads roles) n reached t) where
    pub user_unreached : u ≡ true → None ≡ user_target (reads roles) k entries modules static dynamic reached effects candidate
    user_unreached q = barred (bars n) t h (rw (sym p ∙ q)) ∙ user_is

    module _ (q : u ≡ false) {v : Bool} (p₁ : v ≡ leaks (reads roles) n reached effects k t) where
      pub user_leaks : v ≡ true → None ≡ user_target (reads roles) k entries modules static dynamic reached effects candidate
      user_leaks q₁ = barred (bars n) t h (rw (sym p ∙ q, sym p₁ ∙ q₁)) ∙ user_is

      module _ (q₁ : v ≡ false) {w : Bool} (p₂ : w ≡ strayed modules dynamic candidate t) where
        pub user_strays : w ≡ true → None ≡ user_target (reads roles) k entries modules static dynamic reached effects candidate
        user_strays q₂ = barred (bars n) t h (rw (sym p ∙ q, sym p₁ ∙ q₁) (sym p₂ ∙ q₂)) ∙ user_is

        pub user_found : w ≡ false → t ≡ user_target (reads roles) k entries modules static dynamic reached effects candidate
        user_found q₂ = unbarred (bars n) t h (rw (sym p ∙ q, sym p₁ ∙ q₁) (sym p₂ ∙ q₂)) ∙ user_is

-- an entry that a bit names: its entry module is read
named-entry : (classes kinds : List ℕ) (set b v : ℕ) → role classes kinds set b ≡ v → (v ≡ 0 → ⊥) → (v ≡ 3 → ⊥) → (b < length kinds) × (get_or kinds b 0 ≡ 8 → ⊥)
unfolding role
named-entry classes kinds set b v e h₀ h₃ = go (ltb b (bits (length kinds)) && eqb (set / 2 ^ b % 2) 1) refl e
  where
    go : (t : Bool) → (ltb b (bits (length kinds)) && eqb (set / 2 ^ b % 2) 1) ≡ t
        → cond t (cond (eqb (get_or kinds b 0) 8) 3 (cond (eqb (get_or classes (get_or kinds b 0) 0) 1) 2 1)) 0 ≡ v → (b < length kinds) × (get_or kinds b 0 ≡ 8 → ⊥)
    go true q e = (omega (arith, ltb-true b (bits (length kinds)) (and_left (ltb b (bits (length kinds))) _ q), (bits_le (length kinds)).1), λ z. h₃ (sym e ∙ (rw (eq-eqb (get_or kinds b 0) 8 z))))
    go false q e = absurd (h₀ (sym e))

module _ {k m : ℕ} {kinds : List ℕ} {l : Lent} (ok : Legal k m kinds l) where
  pub can_roles : {n : ℕ} (classes roles : List ℕ) → n ≡ bits k → length classes ≡ 8 → length roles ≡ 1024 → ((b : ℕ) → get_or roles b 0 ≡ 0) → CanSetRoles kinds classes n roles
  can_roles classes roles e c r z = record {
    count = e ∙ ap bits (sym ok.count);
    small = ok.kind;
    eight = c;
    room = omega (arith, e, (bits_le k).0, r);
    zero = z;
  }

  pub ready : {n : ℕ} (classes : List ℕ) (set v : ℕ) {old roles : List ℕ} → Named classes kinds set old roles n → n ≡ bits k → length old ≡ 1024 → (v ≡ 0 → ⊥) → (v ≡ 3 → ⊥)
      → Ready k m v roles l.entries l.static.starts l.static.items l.candidate
  ready classes set v {old} {roles} m e r h₀ h₃ = record {
    few_chunks = ok.few_chunks;
    few_modules = ok.few_modules;
    long = m.long ∙ r;
    listed = ok.listed;
    static = ok.static;
    own = ok.own;
    entry = λ o b q.
        let w = named-entry classes kinds set o v (ap (λ (f : ℕ → ℕ). f o) (sym (named-all m (e ∙ ap bits (sym ok.count)))) ∙ q) h₀ h₃ in
        ok.entry o w.0 w.1;
  }

  pub can_guard : CanGuard k m l.modules.starts l.modules.items l.dynamic.starts l.dynamic.items l.reached.starts l.reached.items l.effects
  can_guard = record { homes = ok.modules; dynamic = ok.dynamic; reaches = ok.reached; sided = ok.sided }

  -- the choice, by the roles in the table
  module _ (classes : List ℕ) (set : ℕ) {old roles : List ℕ} {n : ℕ} (w : Named classes kinds set old roles n) (e : n ≡ bits k) where
    by_roles : chosen (reads roles) k l ≡ choice classes kinds set l
    unfolding choice
    by_roles = ap (λ r. chosen r k l) (named-all w (e ∙ ap bits (sym ok.count))) ∙ ap (λ j. chosen (role classes kinds set) j l) (sym ok.count)

    module _ {a : Bool} (p : a ≡ some_role (reads roles) n 3) where
      p' : a ≡ some_role (reads roles) (bits k) 3
      p' = p ∙ ap (λ j. some_role (reads roles) j 3) e

      no_target : a ≡ true → None ≡ chosen (reads roles) k l
      unfolding chosen
      no_target q = rw (sym p' ∙ q)

      pub common_chunk : a ≡ true → None ≡ choice classes kinds set l
      common_chunk q = no_target q ∙ by_roles

      module _ (q : a ≡ false) {b : Bool} (p₂ : b ≡ some_role (reads roles) n 2) where
        p₂' : b ≡ some_role (reads roles) (bits k) 2
        p₂' = p₂ ∙ ap (λ j. some_role (reads roles) j 2) e

        user_picked : b ≡ true → user_target (reads roles) k l.entries l.modules l.static l.dynamic l.reached l.effects l.candidate ≡ chosen (reads roles) k l
        unfolding chosen
        user_picked h = rw (sym p' ∙ q, sym p₂' ∙ h)

        pub among_users : {r : ℕ} → b ≡ true → r ≡ user_target (reads roles) k l.entries l.modules l.static l.dynamic l.reached l.effects l.candidate → r ≡ choice classes kinds set l
        among_users {r} h f = f ∙ user_picked h ∙ by_roles

        dynamic_picked : b ≡ false → dynamic_target (reads roles) k l.entries l.static l.exports l.candidate ≡ chosen (reads roles) k l
        unfolding chosen
        dynamic_picked h = rw (sym p' ∙ q, sym p₂' ∙ h)

        pub among-dynamic : {r : ℕ} → b ≡ false → r ≡ dynamic_target (reads roles) k l.entries l.static l.exports l.candidate → r ≡ choice classes kinds set l
        among-dynamic {r} h f = f ∙ dynamic_picked h ∙ by_roles

-- a target, or none, as an answer
pub told_none : (x : ℕ) → x ≡ None → nothing ≡ told x
unfolding told
told_none x h = rw (eq-eqb x None h)

pub told_some : (x : ℕ) → (x ≡ None → ⊥) → chunk x ≡ told x
unfolding told
told_some x h = rw (ne_eqb x None h)

pub find_refused : (k m : ℕ) (kinds : List ℕ) (set : ℕ) (l : Lent) → row23 k m kinds l ≡ true → refused 23 ≡ find k m kinds set l
unfolding find
find_refused k m kinds set l h = rw h

pub find-told : (k m : ℕ) (kinds : List ℕ) (set : ℕ) (l : Lent) {r : Answer} {t : ℕ} → row23 k m kinds l ≡ false → t ≡ choice built_in kinds set l → r ≡ told t → r ≡ find k m kinds set l
unfolding find
find-told k m kinds set l h e f = rw h (f ∙ ap told e)
