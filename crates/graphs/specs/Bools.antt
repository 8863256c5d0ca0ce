-- Laws of Booleans, and of answers to a question. Assumes nothing.
use Rattle.std.specs.Prelude.{◌≡◌, refl, ◌⊎◌, Bool, true, false, ◌&&◌, ◌||◌, ℕ, ◌≤◌, ◌<◌, eqb, leb, ltb}
use Rattle.std.proofs.Common.{sym, ◌∙◌, inl, inr, true≢false, arith, eqb-true, leb-true, leb-false, ltb-true, ltb-false}
use Rattle.std.proofs.lemmas.Bool.{eqb-false}

pub or_cases : (a b : Bool) → (a || b) ≡ true → (a ≡ true) ⊎ (b ≡ true)
or_cases true b h = inl refl
or_cases false b h = inr h

pub or_left : (a b : Bool) → a ≡ true → (a || b) ≡ true
or_left true b h = refl
or_left false b h = cc

pub or_right : (a b : Bool) → b ≡ true → (a || b) ≡ true
or_right true b h = refl
or_right false b h = h

pub or_false_left : (a b : Bool) → (a || b) ≡ false → a ≡ false
or_false_left true b h = h
or_false_left false b h = refl

pub or_false_right : (a b : Bool) → (a || b) ≡ false → b ≡ false
or_false_right true b h = cc
or_false_right false b h = h

pub or_false : (a b : Bool) → a ≡ false → b ≡ false → (a || b) ≡ false
or_false true b p q = p
or_false false b p q = q

pub and_left : (a b : Bool) → (a && b) ≡ true → a ≡ true
and_left true b h = refl
and_left false b h = h

pub and_right : (a b : Bool) → (a && b) ≡ true → b ≡ true
and_right true b h = h
and_right false b h = cc

pub and_both : (a b : Bool) → a ≡ true → b ≡ true → (a && b) ≡ true
and_both true b p q = q
and_both false b p q = p

-- a test that can't pass fails
pub fails : (b : Bool) → (b ≡ true → ⊥) → b ≡ false
fails true f = absurd (f refl)
fails false f = refl

-- two tests that imply each other are equal
pub alike : (a b : Bool) → (a ≡ true → b ≡ true) → (b ≡ true → a ≡ true) → a ≡ b
alike true b f g = sym (f refl)
alike false b f g = sym (fails b (λ h. true≢false (sym (g h))))

-- the answer r of a test tells whether P holds
pub record Decides (P : Type 0) (r : Bool) : Type 0 where
  pub right : r ≡ true → P
  pub wrong : r ≡ false → P → ⊥

pub eqb_decides : (a b : ℕ) → Decides (a ≡ b) (eqb a b)
eqb_decides a b = record { right = eqb-true a b; wrong = eqb-false a b }

pub leb_decides : (a b : ℕ) → Decides (a ≤ b) (leb a b)
leb_decides a b = record { right = leb-true a b; wrong = λ h y. omega (arith, leb-false a b h) }

pub ltb_decides : {r : Bool} {x y : ℕ} → r ≡ ltb x y → Decides (x < y) r
ltb_decides {r} {x} {y} e = record { right = λ h. ltb-true x y (sym e ∙ h); wrong = λ h b. omega (arith, ltb-false x y (sym e ∙ h)) }

-- the answer no
pub no_decides : {P : Type 0} → (P → ⊥) → Decides P false
no_decides f = record { right = λ h. absurd (true≢false (sym h)); wrong = λ h p. f p }

-- the answer to another question that comes to the same
pub same_decides : {P Q : Type 0} {r : Bool} → (P → Q) → (Q → P) → Decides P r → Decides Q r
same_decides f g d = record { right = λ h. f (d.right h); wrong = λ h q. d.wrong h (g q) }

-- two questions at once
pub both_decides : {P Q : Type 0} {p q : Bool} → Decides P p → Decides Q q → Decides (P × Q) (p && q)
both_decides {P} {Q} {p} {q} d e = record {
  right = λ h. (d.right (and_left p q h), e.right (and_right p q h));
  wrong = λ h w. go p q refl refl h w;
}
  where
    go : (s t : Bool) → p ≡ s → q ≡ t → (s && t) ≡ false → P × Q → ⊥
    go true true a b h w = true≢false h
    go true false a b h w = e.wrong b w.1
    go false t a b h w = d.wrong a w.0

-- a number is another or not
pub data Same (a b : ℕ) : Type 0 where
  it : a ≡ b → Same a b
  other : (a ≡ b → ⊥) → Same a b

pub same? : (a b : ℕ) → Same a b
same? a b = go (eqb a b) refl
  where
    go : (t : Bool) → eqb a b ≡ t → Same a b
    go true e = it (eqb-true a b e)
    go false e = other (eqb-false a b e)
