-- A load and one move as raw commands of the program `moves`. Assumes nothing.
use Rattle.std.specs.Prelude.{ℕ, zero, suc, ◌+◌, ◌-◌, ◌*◌, ◌/◌, ◌%◌, ◌<◌, ◌≡◌, refl, cond, List, [], ◌∷◌, ◌++◌, eqb, length}
use Rattle.std.proofs.Common.{arith, add-one, sym, ap, ap₂, ◌∙◌, append-nil, length-append}
use Rattle.move_ledger.specs.Graph.{Load, none, at, owner}
use Rattle.chain_commands.specs.Chain.{chain, sets, set_at, next-at, owner_at}

-- an operand has 16 bits, its low byte first
abbrev pub operand : ℕ → List ℕ
operand x = x % 256 ∷ x / 256 ∷ []

-- 10: the next atom and its set. 11: a depends on b. 12: the host of a bit. 13: the load. 20: a to a set. The numbers are hexadecimal
abbrev pub next_atom : ℕ → List ℕ
next_atom set = 16 ∷ operand set

abbrev pub depends : ℕ → ℕ → List ℕ
depends a b = 17 ∷ operand a ++ operand b

abbrev pub hosted : ℕ → ℕ → List ℕ
hosted e a = cond (eqb a none) [] (18 ∷ operand e ++ operand a)

abbrev pub load_and_move : ℕ → ℕ → List ℕ
load_and_move a set = 19 ∷ 32 ∷ operand a ++ operand set

-- f 0, f 1, .. f (n - 1), one behind the other
unfoldable pub in_turn : (ℕ → List ℕ) → ℕ → List ℕ
in_turn f zero = []
in_turn f (suc n) = in_turn f n ++ f n

-- the commands that name a load and its entry sets of one number each (a bit without a 12 has no host), load it, and move atom a to a set
abbrev pub raw : Load → List ℕ → ℕ → ℕ → List ℕ
raw load sets a set =
    in_turn (λ i. next_atom (at sets i)) load.A
    ++ in_turn (λ k. depends (owner load k) (at load.dependencies k)) load.D
    ++ in_turn (λ e. hosted e (at load.hosts e)) load.E
    ++ load_and_move a set

pub in_turn-none : (f : ℕ → List ℕ) → in_turn f 0 ≡ []
unfolding in_turn
in_turn-none f = refl

pub in_turn-more : (f : ℕ → List ℕ) (n : ℕ) → in_turn f (n + 1) ≡ in_turn f n ++ f n
unfolding in_turn
in_turn-more f n = rw add-one refl

pub in_turn_alike : (f g : ℕ → List ℕ) (n : ℕ) → ((i : ℕ) → i < n → f i ≡ g i) → in_turn f n ≡ in_turn g n
unfolding in_turn
in_turn_alike f g zero h = refl
in_turn_alike f g (suc n) h = ap₂ (λ (k l : List ℕ). k ++ l) (in_turn_alike f g n (λ i b. h i (omega arith))) (h n (omega arith))

pub in_turn_long : (f : ℕ → List ℕ) (c n : ℕ) → ((i : ℕ) → length (f i) ≡ c) → length (in_turn f n) ≡ n * c
unfolding in_turn
in_turn_long f c zero h = omega arith
in_turn_long f c (suc n) h = simp length-append (omega (arith, in_turn_long f c n h, h n))

-- the commands of the chain: sets 1 to n, and each atom but the last on the next
abbrev pub chain_atom : ℕ → List ℕ
chain_atom i = next_atom (i + 1)

abbrev pub chain_link : ℕ → List ℕ
chain_link k = depends k (k + 1)

-- it has no hosts
no_hosts : (n : ℕ) → in_turn (λ e. hosted e (at (chain n).hosts e)) 16 ≡ []
unfolding in_turn
no_hosts n = refl

pub raw-chain : (n : ℕ) → in_turn chain_atom n ++ in_turn chain_link (n - 1) ++ load_and_move 0 (n + 1) ≡ raw (chain n) (sets n) 0 (n + 1)
raw-chain n =
    ap₂ (λ (k l : List ℕ). k ++ l ++ load_and_move 0 (n + 1))
    (in_turn_alike _ _ n (λ i h. ap next_atom (add-one i ∙ sym (set_at n i h))))
    (in_turn_alike _ _ (n - 1) (λ k h. ap₂ depends (sym (owner_at n k h)) (add-one k ∙ sym (next-at n k h))))
    ∙ rw (no_hosts n, append-nil) refl
