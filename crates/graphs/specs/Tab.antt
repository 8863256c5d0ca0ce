-- A list given number by number. Assumes nothing.
use Rattle.std.specs.Prelude.{◌≡◌, refl, List, [], ◌∷◌, ℕ, zero, suc, ◌<◌, length, get_or, replicate}
use Rattle.std.proofs.Common.{sym, ap, ◌∙◌, arith, ext_get_or}

-- f 0, f 1, .. f (n - 1)
unfoldable pub tab : (ℕ → ℕ) → ℕ → List ℕ
tab f zero = []
tab f (suc n) = f 0 ∷ tab (λ (k : ℕ). f (suc k)) n

pub tab-length : (f : ℕ → ℕ) (n : ℕ) → length (tab f n) ≡ n
unfolding tab
tab-length f zero = refl
tab-length f (suc n) = ap suc (tab-length (λ (k : ℕ). f (suc k)) n)

pub tab-at : (f : ℕ → ℕ) (n k : ℕ) → k < n → get_or (tab f n) k 0 ≡ f k
unfolding tab
tab-at f zero k h = absurd (omega arith)
tab-at f (suc n) zero h = refl
tab-at f (suc n) (suc k) h = tab-at (λ (k : ℕ). f (suc k)) n k (omega arith)

-- a list that agrees with f everywhere is the one that f gives
pub is_tab : (l : List ℕ) (n : ℕ) (f : ℕ → ℕ) → length l ≡ n → ((k : ℕ) → k < n → get_or l k 0 ≡ f k) → l ≡ tab f n
is_tab l n f e h = ext_get_or 0 l _ (e ∙ sym (tab-length f n)) (λ k z. let y : k < n = omega arith in h k y ∙ sym (tab-at f n k y))

pub tab_alike : (f g : ℕ → ℕ) (n : ℕ) → ((k : ℕ) → k < n → f k ≡ g k) → tab f n ≡ tab g n
tab_alike f g n h = is_tab (tab f n) n g (tab-length f n) (λ k b. tab-at f n k b ∙ h k b)

-- 0 stands in a list of noughts, and behind it
pub zeros : (n i : ℕ) → ◌≡◌ {A = ℕ} (get_or (replicate n 0) i 0) 0
zeros zero zero = refl
zeros zero (suc i) = refl
zeros (suc n) zero = refl
zeros (suc n) (suc i) = zeros n i
