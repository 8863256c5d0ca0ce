-- The choice by a table of roles. Assumes nothing.
use Rattle.std.specs.Prelude.{ℕ, ◌≡◌, refl, ◌/◌, ◌%◌, ◌^◌, ◌<◌, ◌≤◌, Bool, true, false, cond, ◌&&◌, List, length, get_or, take, eqb, ltb}
use Rattle.std.specs.List.{list_any}
use Rattle.std.proofs.Common.{arith, sym, ap, ◌∙◌, length-take, eq-eqb, lt-ltb, le-ltb}
use Rattle.std.proofs.Math.Decide.{dec_lt}
use Rattle.std.proofs.lemmas.List.{length-map, take-map, get_or-take, get_or_past}
use Rattle.merge_choice.specs.Choice.{Lent, bits, role, some_role, chosen, choice}
use Rattle.merge_choice.specs.Named.{reads, Named, named-all, bits_le}
use Rattle.merge_choice.specs.Rows.{Legal}
use Rattle.merge_target.specs.declared.Bundle.{Bundle}
use Rattle.merge_target.specs.declared.Candidate.{Candidate}
use Rattle.merge_target.specs.declared.roles.Role.{Role}
use Rattle.merge_target.specs.declared.roles.Role.TheVariants.{Nothing}
use Rattle.merge_target.specs.Lent.{lent_by}
use Rattle.merge_target.specs.Roles.{role_number, numbers}
use Rattle.merge_target.specs.Sound.{Sound, Roled}
use Rattle.merge_target.proofs.Any.{any_is_some}
use Rattle.merge_target.proofs.Tables.{number-at}

-- some chunk that a bit can name has the role
pub has_role : (roles : List Role) (k v : ℕ) → length roles ≡ bits k → {a : Bool} → a ≡ list_any (λ r. eqb (role_number r) v) roles → a ≡ some_role (reads (numbers roles)) (bits k) v
unfolding some_role
has_role roles k v e h =
    h ∙ any_is_some (λ r. eqb (role_number r) v) roles Nothing (λ b. eqb (reads (numbers roles) b) v) (λ i b. ap (λ r. eqb r v) (number-at roles i b))
    ∙ ap (λ n. some_role (reads (numbers roles)) n v) e

-- the first n roles of a table
pub first_named : (classes kinds : List ℕ) (set n : ℕ) (table : List Role) → reads (numbers table) ≡ role classes kinds set → Named classes kinds set (numbers (take n table)) (numbers (take n table)) n
first_named classes kinds set n table e = record { long = refl; at = λ b. go b (dec_lt b n) }
  where
    go : (b : ℕ) → Dec (b < n) → get_or (numbers (take n table)) b 0 ≡ cond (ltb b n) (role classes kinds set b) 0
    go b (yes h) = rw (lt-ltb b n h) (ap (λ (l : List ℕ). get_or l b 0) (sym (take-map role_number n table)) ∙ get_or-take n (numbers table) b 0 h ∙ ap (λ (f : ℕ → ℕ). f b) e)
    go b (no h) = rw (le-ltb b n (omega arith)) (get_or_past (numbers (take n table)) b 0 (omega (arith, length-map (take n table) role_number, length-take n table)))

-- an entry that a bit names: its entry module is read
named-entry : (classes kinds : List ℕ) (set b : ℕ) → (role classes kinds set b ≡ 0 → ⊥) → (role classes kinds set b ≡ 3 → ⊥) → (b < length kinds) × (get_or kinds b 0 ≡ 8 → ⊥)
unfolding role
named-entry classes kinds set b h₀ h₃ = (
  elim (dec_lt b (bits (length kinds))) [ yes h ↦ omega (arith, (bits_le (length kinds)).1) | no h ↦ absurd (h₀ (rw (le-ltb b (bits (length kinds)) (omega arith)))) ],
  λ z. two (ltb b (bits (length kinds)) && eqb (set / 2 ^ b % 2) 1) (λ e. h₀ (rw (eq-eqb (get_or kinds b 0) 8 z) e)) (λ e. h₃ (rw (eq-eqb (get_or kinds b 0) 8 z) e)),
)
  where
    two : (t : Bool) → (◌≡◌ {A = ℕ} (cond t 3 0) 0 → ⊥) → (◌≡◌ {A = ℕ} (cond t 3 0) 3 → ⊥) → ⊥
    two true a b = b refl
    two false a b = a refl

module _ (b : Bundle) (c : Candidate) (ok : Legal b.chunks b.modules b.kinds.now (lent_by b c)) where
  pub sound : Sound b
  sound = record {
    few_chunks = ok.few_chunks;
    few_modules = ok.few_modules;
    listed = ok.listed;
    sided = ok.sided;
    shown = ok.shown;
    contents = ok.modules;
    reached = ok.reached;
    importers = ok.static;
    dynamic_importers = ok.dynamic;
  }

  pub roled : (classes : List ℕ) (set n : ℕ) (table : List Role) → reads (numbers table) ≡ role classes b.kinds.now set → n ≡ bits b.chunks → n ≤ length table → Roled b (take n table)
  roled classes set n table e f room =
      let long : length (take n table) ≡ n = omega (arith, length-take n table) in
      record {
        count = long ∙ f;
        few = omega (arith, (bits_le b.chunks).0);
        listed = omega (arith, (bits_le b.chunks).1);
        entry = λ d h z₀ z₃.
            let v : get_or (numbers (take n table)) d 0 ≡ role classes b.kinds.now set d = (first_named classes b.kinds.now set n table e).at d ∙ (rw (lt-ltb d n (omega arith))) in
            let r = named-entry classes b.kinds.now set d (λ z. z₀ (v ∙ z)) (λ z. z₃ (v ∙ z)) in
            ok.entry d r.0 r.1;
      }

-- the choice by the first n roles
pub choice_is : (classes kinds : List ℕ) (set k n : ℕ) (table : List Role) (l : Lent) → reads (numbers table) ≡ role classes kinds set → length kinds ≡ k → n ≡ bits k
    → chosen (reads (numbers (take n table))) k l ≡ choice classes kinds set l
unfolding choice
choice_is classes kinds set k n table l e f g =
    ap (λ r. chosen r k l) (named-all (first_named classes kinds set n table e) (g ∙ ap bits (sym f))) ∙ ap (λ j. chosen (role classes kinds set) j l) (sym f)
