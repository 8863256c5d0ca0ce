-- Laws of sets in a work area: each word by its place, a set written is read back, and nothing else changes. Assumes nothing.
use Rattle.std.specs.Prelude.{ℕ, zero, suc, ◌+◌, ◌*◌, ◌^◌, ◌<◌, ◌≡◌, refl, List, [], ◌∷◌, length, get_or, set}
use Rattle.std.proofs.Common.{sym, ap, ◌∙◌, arith, suc-mul, mul-le-mul_right, pow_pos, length-set, get_or-set_same, get_or-set_other, ext_get_or}
use Rattle.entry_set.specs.Joined.{joined, parts}
use Rattle.entry_set.specs.JoinedLaws.{length-parts, joined-parts, parts-joined}
use Rattle.entry_set.specs.Lanes.{strided, set_strided, lane_words, lanes, set_lanes}

pub length-strided : (k : ℕ) (l : List ℕ) (at stride : ℕ) → length (strided k l at stride) ≡ k
unfolding strided
length-strided zero l at stride = refl
length-strided (suc k) l at stride = ap suc (length-strided k l (at + stride) stride)

-- one stride on
next : (at j stride : ℕ) → at + suc j * stride ≡ at + stride + j * stride
next at j stride = omega (arith, suc-mul j stride)

pub strided-at : (k : ℕ) (l : List ℕ) (at stride j : ℕ) → j < k → get_or (strided k l at stride) j 0 ≡ get_or l (at + j * stride) 0
unfolding strided
strided-at zero l at stride j h = absurd (omega arith)
strided-at (suc k) l at stride zero h = ap (λ (i : ℕ). get_or l i 0) {x = at} {y = at + 0 * stride} (omega arith)
strided-at (suc k) l at stride (suc j) h =
    strided-at k l (at + stride) stride j (omega arith) ∙ ap (λ (i : ℕ). get_or l i 0) (sym (next at j stride))

-- the numbers of an area are of 32 bits, so its lanes are too
pub strided-below : (b k : ℕ) (l : List ℕ) (at stride : ℕ) → ((i : ℕ) → get_or l i 0 < 2 ^ b) → (i : ℕ) → get_or (strided k l at stride) i 0 < 2 ^ b
unfolding strided
strided-below b zero l at stride small zero = pow_pos b
strided-below b zero l at stride small (suc i) = pow_pos b
strided-below b (suc k) l at stride small zero = small at
strided-below b (suc k) l at stride small (suc i) = strided-below b k l (at + stride) stride small i

pub length-set_strided : (l : List ℕ) (at stride : ℕ) (v : List ℕ) → length (set_strided l at stride v) ≡ length l
unfolding set_strided
length-set_strided l at stride [] = refl
length-set_strided l at stride (x ∷ xs) = length-set_strided (set l at x) (at + stride) stride xs ∙ simp length-set

pub set_strided-other : (l : List ℕ) (at stride : ℕ) (v : List ℕ) (i : ℕ) → ((j : ℕ) → j < length v → i ≡ at + j * stride → ⊥) → get_or (set_strided l at stride v) i 0 ≡ get_or l i 0
unfolding set_strided
set_strided-other l at stride [] i far = refl
set_strided-other l at stride (x ∷ xs) i far =
    set_strided-other (set l at x) (at + stride) stride xs i (λ j h e. far (suc j) (omega arith) (e ∙ sym (next at j stride)))
    ∙ get_or-set_other l at i x 0 (λ e. far 0 (omega arith) (omega (arith, e)))

pub set_strided-at : (l : List ℕ) (at stride : ℕ) (v : List ℕ) (j : ℕ) → 0 < stride → j < length v → at + j * stride < length l → get_or (set_strided l at stride v) (at + j * stride) 0 ≡ get_or v j 0
unfolding set_strided
set_strided-at l at stride [] j pos h in_range = absurd (omega arith)
set_strided-at l at stride (x ∷ xs) zero pos h in_range =
    set_strided-other (set l at x) (at + stride) stride xs (at + 0 * stride) (λ j _ e. omega (arith, e))
    ∙ ap (λ (i : ℕ). get_or (set l at x) i 0) {x = at + 0 * stride} {y = at} (omega arith) ∙ get_or-set_same l at x 0 (omega arith)
set_strided-at l at stride (x ∷ xs) (suc j) pos h in_range =
    ap (λ (i : ℕ). get_or (set_strided (set l at x) (at + stride) stride xs) i 0) (next at j stride)
    ∙ set_strided-at (set l at x) (at + stride) stride xs j pos (omega arith) (simp length-set (omega (arith, next at j stride)))

-- the set X stands where its eight words stand
pub lanes_is : (l : List ℕ) (at stride X : ℕ) → X < 2 ^ 256 → ((j : ℕ) → j < 8 → get_or l (at + j * stride) 0 ≡ get_or (parts 32 8 X) j 0) → lanes l at stride ≡ X
lanes_is l at stride X h same = ap (joined 32) each ∙ joined-parts 32 8 X h
  where
    each : lane_words l at stride ≡ parts 32 8 X
    each =
        ext_get_or 0 (lane_words l at stride) (parts 32 8 X) (length-strided 8 l at stride ∙ sym (length-parts 32 8 X))
        (λ j q. let less : j < 8 = omega (arith, length-strided 8 l at stride, q) in strided-at 8 l at stride j less ∙ same j less)

-- and where it stands, its eight words do
pub lanes_word : (l : List ℕ) (at stride : ℕ) → ((i : ℕ) → get_or l i 0 < 2 ^ 32) → (j : ℕ) → j < 8 → get_or (parts 32 8 (lanes l at stride)) j 0 ≡ get_or l (at + j * stride) 0
unfolding strided
lanes_word l at stride small j h =
    ap (λ (m : List ℕ). get_or m j 0) (parts-joined 32 (lane_words l at stride) (strided-below 32 8 l at stride small)) ∙ strided-at 8 l at stride j h

-- two lists that agree at the eight places hold one set there
pub lanes-same : (l m : List ℕ) (at stride : ℕ) → ((j : ℕ) → j < 8 → get_or l (at + j * stride) 0 ≡ get_or m (at + j * stride) 0) → lanes l at stride ≡ lanes m at stride
lanes-same l m at stride same =
    ap (joined 32)
    (ext_get_or 0 (lane_words l at stride) (lane_words m at stride) (length-strided 8 l at stride ∙ sym (length-strided 8 m at stride))
    (λ j q. let less : j < 8 = omega (arith, length-strided 8 l at stride, q) in strided-at 8 l at stride j less ∙ same j less ∙ sym (strided-at 8 m at stride j less)))

-- a set written is read back
pub lanes-set : (l : List ℕ) (at stride X : ℕ) → 0 < stride → at + 7 * stride < length l → X < 2 ^ 256 → lanes (set_lanes l at stride X) at stride ≡ X
lanes-set l at stride X pos room h =
    lanes_is (set_lanes l at stride X) at stride X h
    (λ j less. set_strided-at l at stride (parts 32 8 X) j pos (omega (arith, length-parts 32 8 X)) (omega (arith, mul-le-mul_right {m = j} {n = 7} stride (omega arith))))

-- and a set that stands elsewhere stays
pub lanes-other : (l : List ℕ) (at stride X to step : ℕ) → ((i j : ℕ) → i < 8 → j < 8 → to + i * step ≡ at + j * stride → ⊥) → lanes (set_lanes l at stride X) to step ≡ lanes l to step
lanes-other l at stride X to step far =
    lanes-same (set_lanes l at stride X) l to step
    (λ i h. set_strided-other l at stride (parts 32 8 X) (to + i * step) (λ j q. far i j h (omega (arith, q, length-parts 32 8 X))))
