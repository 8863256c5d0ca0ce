-- The number asked for, as the code finds it. Assumes nothing.
use Rattle.std.proofs.Common.{◌≡◌, refl, sym, ap, ◌∙◌, Option, Some, None, IfSome, ℕ, suc, ◌+◌, ◌≤◌, ◌<◌, List, [], ◌∷◌, length, get_or, take, drop, arith, add-one, lt-ltb, le-ltb, ne_eqb}
use Rattle.std.specs.List.{slice_get}
use Rattle.std.proofs.Math.Seq.{drop-cons, drop-length}
use Rattle.chain_commands.specs.Asked.{asked}
use Rattle.chain_commands.specs.Parse.{before_newline, more, value, up_to, number, value-none, parse-asked, asked-within}

-- the digits up to i are read, and one more
pub value-more : (text : List ℕ) (v : Option ℕ) (i : ℕ) → i < length text → value v (drop i text) ≡ value (Some 0) text → value (more v (get_or text i 0)) (drop (i + 1) text) ≡ value (Some 0) text
unfolding value
value-more text v i h e = rw add-one (rw (drop-cons text i 0 h) at e)

-- all are
pub value-done : (text : List ℕ) (v : Option ℕ) (i : ℕ) → i ≡ length text → value v (drop i text) ≡ value (Some 0) text → v ≡ value (Some 0) text
unfolding value
value-done text v i h e = let d : drop i text ≡ [] = ap (λ (k : ℕ). drop k text) h ∙ drop-length text in rw d at e

-- or a byte is no digit of it
pub value-stops : (text : List ℕ) (v : Option ℕ) (i : ℕ) → i < length text → value v (drop i text) ≡ value (Some 0) text → more v (get_or text i 0) ≡ None → None ≡ value (Some 0) text
value-stops text v i h e n = sym (value-none (drop (i + 1) text)) ∙ (rw n at (value-more text v i h e))

-- the number of what stands before a last newline
module _ (input : List ℕ) {text : List ℕ} (e : text ≡ take (before_newline input) input) where
  read : number text ≡ asked input
  read = ap number e ∙ parse-asked input

  pub asked-empty : None ≡ slice_get text 0 → None ≡ asked input
  asked-empty h = go text h ∙ read
    where
      go : (l : List ℕ) → None ≡ slice_get l 0 → None ≡ number l
      go [] h = refl
      go (b ∷ bs) h = cc

  pub asked_low : {b : ℕ} → Some b ≡ slice_get text 0 → b < 49 → None ≡ asked input
  asked_low {b} h z = go text h ∙ read
    where
      go : (l : List ℕ) → Some b ≡ slice_get l 0 → None ≡ number l
      go [] h = cc
      go (c ∷ bs) h = let q : b ≡ c = cc in rw (lt-ltb c 49 (omega arith), ne_eqb (suc (length bs)) 0 (λ z. omega arith)) refl

  pub asked_right : {b : ℕ} {r : Option ℕ} → Some b ≡ slice_get text 0 → 49 ≤ b → r ≡ up_to 512 (value (Some 0) text) → r ≡ asked input
  asked_right {b} {r} h z f = go text h f ∙ read
    where
      go : (l : List ℕ) → Some b ≡ slice_get l 0 → r ≡ up_to 512 (value (Some 0) l) → r ≡ number l
      go [] h f = cc
      go (c ∷ bs) h f = let q : b ≡ c = cc in rw (le-ltb c 49 (omega arith), ne_eqb (suc (length bs)) 0 (λ z. omega arith)) f

-- it is from 1 to 512
pub asked_bounds : (input : List ℕ) {r : Option ℕ} → r ≡ asked input → IfSome r (λ n. (0 < n) × (n ≤ 512))
asked_bounds input {r} e = go r e
  where
    go : (o : Option ℕ) → o ≡ asked input → IfSome o (λ n. (0 < n) × (n ≤ 512))
    go None e = tt
    go (Some n) e = asked-within input n (sym e)
