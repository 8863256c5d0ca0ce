-- The input read byte by byte, and that this gives the number asked for. Assumes nothing.
use Rattle.std.specs.Prelude.{ℕ, zero, suc, ◌+◌, ◌-◌, ◌*◌, ◌/◌, ◌%◌, ◌≤◌, ◌<◌, ◌≡◌, refl, ◌⊎◌, Bool, true, false, cond, Option, Some, None, ◌&&◌, ◌||◌, List, [], ◌∷◌, ◌++◌, leb, ltb, eqb, length, take}
use Rattle.std.proofs.Common.{arith, sym, ap, ap₂, subst, ◌∙◌, inl, inr, true≢false, append-nil, append_assoc, take-suc, leb-true, le-leb, eqb-true, eq-eqb, ltb-false, le-ltb, lt-ltb}
use Rattle.std.proofs.Math.Decide.{dec_lt, dec_le}
use Rattle.std.proofs.Math.Seq.{take-length}
use Rattle.std.proofs.lemmas.Bool.{lt-leb}
use Rattle.graphs.specs.Bools.{or_cases, or_left, or_right, and_left, and_right, and_both}
use Rattle.graphs.specs.Lists.{all, below, all_take, has-below}
use Rattle.move_ledger.specs.Graph.{at}
use Rattle.moves_replies.specs.Decimal.{decimal_in, decimal}
use Rattle.moves_replies.specs.Words.{line}
use Rattle.chain_commands.specs.Asked.{same, says, asked_upto, asked}

-- how many bytes stand before a last newline
abbrev pub before_newline : List ℕ → ℕ
before_newline l = cond (eqb (at l (length l - 1)) 10) (length l - 1) (length l)

-- v with one more digit behind it: none where b is no digit, and from the fourth digit on
abbrev pub more : Option ℕ → ℕ → Option ℕ
more None b = None
more (Some v) b = cond (leb v 99 && (leb 48 b && leb b 57)) (Some (v * 10 + (b - 48))) None

unfoldable pub value : Option ℕ → List ℕ → Option ℕ
value v [] = v
value v (b ∷ bs) = value (more v b) bs

-- n, if it is k at most
abbrev pub up_to : ℕ → Option ℕ → Option ℕ
up_to k None = None
up_to k (Some n) = cond (leb n k) (Some n) None

-- the number that a text is: none from 513 on, or where it starts with a 0 or with a byte before it
abbrev pub number : List ℕ → Option ℕ
number text = cond (eqb (length text) 0 || ltb (at text 0) 49) None (up_to 512 (value (Some 0) text))

abbrev pub parse : List ℕ → Option ℕ
parse input = number (take (before_newline input) input)

-- the test on texts
pub same_one : (k l : List ℕ) → same k l ≡ true → k ≡ l
unfolding same
same_one [] [] h = refl
same_one [] (y ∷ l) h = absurd (true≢false (sym h))
same_one (x ∷ k) [] h = absurd (true≢false (sym h))
same_one (x ∷ k) (y ∷ l) h = ap₂ (λ a b. a ∷ b) (eqb-true x y (and_left (eqb x y) _ h)) (same_one k l (and_right (eqb x y) _ h))

pub one_same : (k : List ℕ) → same k k ≡ true
unfolding same
one_same [] = refl
one_same (x ∷ k) = and_both (eqb x x) _ (eq-eqb x x refl) (one_same k)

-- every number up to 512, in base ten, with a newline behind it or not, is read as itself
abbrev is : Option ℕ → ℕ → Bool
is None n = false
is (Some m) n = eqb m n

is_it : (o : Option ℕ) (n : ℕ) → is o n ≡ true → o ≡ Some n
is_it None n h = absurd (true≢false (sym h))
is_it (Some m) n h = ap Some (eqb-true m n h)

right : ℕ → Bool
right n = is (parse (decimal (suc n))) (suc n) && is (parse (line (decimal (suc n)))) (suc n)

all_right : all right (below 512) ≡ true
unfolding right all below decimal_in value
all_right = refl

right_at : (n : ℕ) → 0 < n → n ≤ 512 → (parse (decimal n) ≡ Some n) × (parse (line (decimal n)) ≡ Some n)
unfolding right
right_at zero a b = absurd (omega arith)
right_at (suc n) a b =
    let h = all_take right (below 512) all_right n (has-below n 512 (omega arith)) in
    (is_it _ _ (and_left (is (parse (decimal (suc n))) (suc n)) _ h), is_it _ _ (and_right (is (parse (decimal (suc n))) (suc n)) _ h))

says-parse : (input : List ℕ) (n : ℕ) → 0 < n → n ≤ 512 → says input n ≡ true → parse input ≡ Some n
says-parse input n a b h = go (or_cases (same input (decimal n)) _ h)
  where
    go : (same input (decimal n) ≡ true) ⊎ (same input (line (decimal n)) ≡ true) → parse input ≡ Some n
    go (inl e) = rw (same_one input (decimal n) e) (right_at n a b).0
    go (inr e) = rw (same_one input (line (decimal n)) e) (right_at n a b).1

-- a digit behind a number of one or two
decimal-more : (u d : ℕ) → 0 < u → u ≤ 99 → d < 10 → decimal (u * 10 + d) ≡ decimal u ++ (48 + d) ∷ []
unfolding decimal_in
decimal-more u d a b c =
    let e : (u * 10 + d) / 10 ≡ u = omega arith in
    let f : (u * 10 + d) % 10 ≡ d = omega arith in
    rw (le-ltb (u * 10 + d) 10 (omega arith), e, f) (ap (λ (t : List ℕ). t ++ (48 + d) ∷ []) (fuel (dec_lt u 10)))
  where
    fuel : Dec (u < 10) → decimal_in 19 u ≡ decimal_in 20 u
    fuel (yes h) = rw (lt-ltb u 10 h) refl
    fuel (no h) = rw (le-ltb u 10 (omega arith), lt-ltb (u / 10) 10 (omega arith)) refl

pub value-none : (bs : List ℕ) → value None bs ≡ None
unfolding value
value-none [] = refl
value-none (b ∷ bs) = value-none bs

-- digits behind a number are its digits with these behind them
value-decimal : (bs : List ℕ) (u w : ℕ) → 0 < u → value (Some u) bs ≡ Some w → decimal w ≡ decimal u ++ bs
unfolding value
value-decimal [] u w a h = let e : u ≡ w = cc in rw e (sym (append-nil (decimal w)))
value-decimal (b ∷ bs) u w a h = go (leb u 99 && (leb 48 b && leb b 57)) refl h (λ v. value-decimal bs v w)
  where
    go : (t : Bool) → (leb u 99 && (leb 48 b && leb b 57)) ≡ t → value (cond t (Some (u * 10 + (b - 48))) None) bs ≡ Some w
        → ((v : ℕ) → 0 < v → value (Some v) bs ≡ Some w → decimal w ≡ decimal v ++ bs) → decimal w ≡ decimal u ++ b ∷ bs
    go true e h f =
        let g = and_right (leb u 99) _ e in
        let x : 48 ≤ b = leb-true 48 b (and_left (leb 48 b) _ g) in
        let y : b ≤ 57 = leb-true b 57 (and_right (leb 48 b) _ g) in
        let z : 48 + (b - 48) ≡ b = omega arith in
        f (u * 10 + (b - 48)) (omega arith) h
        ∙ ap (λ (t : List ℕ). t ++ bs) (decimal-more u (b - 48) a (leb-true u 99 (and_left (leb u 99) _ e)) (omega arith))
        ∙ append_assoc (decimal u) ((48 + (b - 48)) ∷ []) bs
        ∙ ap (λ (c : ℕ). decimal u ++ c ∷ bs) z
    go false e h f = let n = value-none bs in cc

-- a first digit
decimal_one : (d : ℕ) → d < 10 → decimal d ≡ (48 + d) ∷ []
unfolding decimal_in
decimal_one d l = rw (lt-ltb d 10 l) refl

value-first : (b : ℕ) (bs : List ℕ) (w : ℕ) → 49 ≤ b → value (Some 0) (b ∷ bs) ≡ Some w → decimal w ≡ b ∷ bs
unfolding value
value-first b bs w z h = go (leb 48 b && leb b 57) refl h
  where
    go : (t : Bool) → (leb 48 b && leb b 57) ≡ t → value (cond t (Some (0 * 10 + (b - 48))) None) bs ≡ Some w → decimal w ≡ b ∷ bs
    go true e h =
        let x : 48 ≤ b = leb-true 48 b (and_left (leb 48 b) _ e) in
        let y : b ≤ 57 = leb-true b 57 (and_right (leb 48 b) _ e) in
        let i : 48 + (0 * 10 + (b - 48)) ≡ b = omega arith in
        value-decimal bs (0 * 10 + (b - 48)) w (omega arith) h
        ∙ ap (λ (t : List ℕ). t ++ bs) (decimal_one (0 * 10 + (b - 48)) (omega arith))
        ∙ ap (λ (c : ℕ). c ∷ bs) i
    go false e h = let n = value-none bs in cc

-- what is read as a number is that number in base ten, from 1 to 512
up_to_some : (k : ℕ) (o : Option ℕ) (n : ℕ) → up_to k o ≡ Some n → (o ≡ Some n) × (n ≤ k)
up_to_some k None n h = cc
up_to_some k (Some m) n h = go (leb m k) refl h
  where
    go : (t : Bool) → leb m k ≡ t → cond t (Some m) None ≡ Some n → (Some m ≡ Some n) × (n ≤ k)
    go true e h = let q : m ≡ n = cc in (h, omega (arith, leb-true m k e))
    go false e h = cc

nought : (b : ℕ) (bs : List ℕ) → decimal 0 ≡ b ∷ bs → b ≡ 48
unfolding decimal_in
nought b bs q = cc

number-says : (text : List ℕ) (n : ℕ) → number text ≡ Some n → (0 < n) × (n ≤ 512) × (text ≡ decimal n)
number-says [] n h = cc
number-says (b ∷ bs) n h = go (eqb (length (b ∷ bs)) 0) (ltb b 49) refl h
  where
    go : (r t : Bool) → ltb b 49 ≡ t → cond (r || t) None (up_to 512 (value (Some 0) (b ∷ bs))) ≡ Some n → (0 < n) × (n ≤ 512) × (b ∷ bs ≡ decimal n)
    go true t e h = cc
    go false true e h = cc
    go false false e h =
        let u = up_to_some 512 (value (Some 0) (b ∷ bs)) n h in
        let d : decimal n ≡ b ∷ bs = value-first b bs n (ltb-false b 49 e) u.0 in
        (some (dec_lt 0 n) d, u.1, sym d)
      where
        some : Dec (0 < n) → decimal n ≡ b ∷ bs → 0 < n
        some (yes l) q = l
        some (no l) q = let z : n ≡ 0 = omega arith in absurd (omega (arith, nought b bs (rw z at q), ltb-false b 49 e))

-- a text is what stands before its last newline, or that and the newline
ends : (l : List ℕ) → (l ≡ take (before_newline l) l) ⊎ (l ≡ line (take (before_newline l) l))
ends [] = inl refl
ends (x ∷ l) = let e : suc (length l) - 1 ≡ length l = omega arith in rw e (go (eqb (at (x ∷ l) (length l)) 10) refl)
  where
    go : (t : Bool) → eqb (at (x ∷ l) (length l)) 10 ≡ t
        → (x ∷ l ≡ take (cond t (length l) (suc (length l))) (x ∷ l)) ⊎ (x ∷ l ≡ line (take (cond t (length l) (suc (length l))) (x ∷ l)))
    go true e =
        inr
        (sym (take-length (x ∷ l)) ∙ take-suc (x ∷ l) (length l) 0 (omega arith)
        ∙ ap (λ (c : ℕ). take (length l) (x ∷ l) ++ c ∷ []) (eqb-true (at (x ∷ l) (length l)) 10 e))
    go false e = inl (sym (take-length (x ∷ l)))

pub parse-says : (input : List ℕ) (n : ℕ) → parse input ≡ Some n → (0 < n) × (n ≤ 512) × (says input n ≡ true)
parse-says input n h = let r = number-says (take (before_newline input) input) n h in (r.0, r.1, go r.2 (ends input))
  where
    text : List ℕ
    text = take (before_newline input) input

    go : text ≡ decimal n → (input ≡ text) ⊎ (input ≡ line text) → says input n ≡ true
    go e (inl f) = or_left (same input (decimal n)) _ (subst (λ (t : List ℕ). same input t ≡ true) (f ∙ e) (one_same input))
    go e (inr f) = or_right (same input (decimal n)) _ (subst (λ (t : List ℕ). same input t ≡ true) (f ∙ ap line e) (one_same input))

-- so the number read is the number asked for
parse_upto : (input : List ℕ) (k : ℕ) → k ≤ 512 → asked_upto input k ≡ up_to k (parse input)
unfolding asked_upto
parse_upto input zero h = none (parse input) refl
  where
    none : (o : Option ℕ) → parse input ≡ o → None ≡ up_to 0 o
    none None e = refl
    none (Some n) e = let r = parse-says input n e in rw (lt-leb n 0 r.0) refl
parse_upto input (suc k) h = go (says input (suc k)) refl (parse_upto input k (omega arith))
  where
    go : (t : Bool) → says input (suc k) ≡ t → asked_upto input k ≡ up_to k (parse input) → cond t (Some (suc k)) (asked_upto input k) ≡ up_to (suc k) (parse input)
    go true e f = rw (says-parse input (suc k) (omega arith) h e, le-leb (suc k) (suc k) (omega arith)) refl
    go false e f = f ∙ more_of (parse input) refl
      where
        more_of : (o : Option ℕ) → parse input ≡ o → up_to k o ≡ up_to (suc k) o
        more_of None q = refl
        more_of (Some n) q = ap (λ (t : Bool). cond t (Some n) None) (pick (dec_le n k) (dec_le n (suc k)))
          where
            other : n ≡ suc k → ⊥
            other z = true≢false (sym (subst (λ (m : ℕ). says input m ≡ true) z (parse-says input n q).2) ∙ e)

            pick : Dec (n ≤ k) → Dec (n ≤ suc k) → leb n k ≡ leb n (suc k)
            pick (yes l) m = le-leb n k l ∙ sym (le-leb n (suc k) (omega arith))
            pick (no l) (yes m) = absurd (other (omega arith))
            pick (no l) (no m) = lt-leb n k (omega arith) ∙ sym (lt-leb n (suc k) (omega arith))

pub parse-asked : (input : List ℕ) → parse input ≡ asked input
parse-asked input = sym (parse_upto input 512 (omega arith) ∙ all_of (parse input) refl)
  where
    all_of : (o : Option ℕ) → parse input ≡ o → up_to 512 o ≡ o
    all_of None e = refl
    all_of (Some n) e = rw (le-leb n 512 (parse-says input n e).1) refl

-- it is from 1 to 512
pub asked-within : (input : List ℕ) (n : ℕ) → asked input ≡ Some n → (0 < n) × (n ≤ 512)
asked-within input n e = let r = parse-says input n (parse-asked input ∙ e) in (r.0, r.1)
