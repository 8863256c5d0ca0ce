-- A list that holds its fields: where it is the same, and one field written anew. Assumes nothing.
use Rattle.std.specs.Prelude.{◌≡◌, refl, List, [], ◌∷◌, ℕ, ◌+◌, ◌-◌, ◌≤◌, ◌<◌, length, get_or}
use Rattle.std.proofs.Common.{sym, ap, ◌∙◌, arith, ext_get_or}
use Rattle.std.proofs.Math.Decide.{dec_lt, dec_le}
use Rattle.layout.specs.Patch.{patch, patch_long, patch_in, patch-out, patch_far, patch-over}
use Rattle.layout.specs.Fields.{Field, field, lay, Fits, In, here, there, lay_long}

-- k is in no field
pub record Clear (fs : List Field) (k : ℕ) : Type 0 where
  pub of : (f : Field) → In f fs → f.at ≤ k → f.at + length f.body ≤ k

-- the fields written over two areas that agree elsewhere
pub lay_agree : (fs : List Field) (l l' : List ℕ) → length l' ≡ length l → ((k : ℕ) → k < length l → Clear fs k → get_or l' k 0 ≡ get_or l k 0) → lay fs l' ≡ lay fs l
unfolding lay
lay_agree [] l l' e h = ext_get_or 0 l' l e (λ k b. h k (omega arith) (record { of = λ f i. absurd (nothing f i) }))
  where
    nothing : (f : Field) → In f [] → ⊥
    nothing f i = elim i [ ]
lay_agree (f ∷ fs) l l' e h = lay_agree fs (patch f.at f.body l) (patch f.at f.body l') (patch_long f.at f.body l' ∙ e ∙ sym (patch_long f.at f.body l)) (λ k b c. step k (omega (arith, patch_long f.at f.body l)) c (dec_le f.at k) (dec_lt k (f.at + length f.body)))
  where
    outside : (k : ℕ) → k < length l → Clear fs k → (f.at ≤ k → f.at + length f.body ≤ k) → get_or (patch f.at f.body l') k 0 ≡ get_or (patch f.at f.body l) k 0
    outside k b c z = patch-out f.at f.body l' k (omega arith) z ∙ h k b (record { of = both }) ∙ sym (patch-out f.at f.body l k b z)
      where
        both : (g : Field) → In g (f ∷ fs) → g.at ≤ k → g.at + length g.body ≤ k
        both _ (here) = z
        both g (there i) = c.of g i

    step : (k : ℕ) → k < length l → Clear fs k → Dec (f.at ≤ k) → Dec (k < f.at + length f.body) → get_or (patch f.at f.body l') k 0 ≡ get_or (patch f.at f.body l) k 0
    step k b c (yes x) (yes y) =
        let z : f.at + (k - f.at) ≡ k = omega arith in
        let a = patch_in f.at f.body l' (k - f.at) (omega arith) (omega arith) in
        let d = patch_in f.at f.body l (k - f.at) (omega arith) (omega arith) in
        sym (ap (λ (i : ℕ). get_or (patch f.at f.body l') i 0) z) ∙ a ∙ sym d ∙ ap (λ (i : ℕ). get_or (patch f.at f.body l) i 0) z
    step k b c (yes x) (no y) = outside k b c (λ z. omega arith)
    step k b c (no x) y = outside k b c (λ z. absurd (x z))

-- one field with another body
unfoldable pub swap : {f : Field} (fs : List Field) → In f fs → List ℕ → List Field
swap {f = f} [] x'' v = elim x'' [ ]
swap (f ∷ fs) (here) v = field f.at v ∷ fs
swap (g ∷ fs) (there i) v = g ∷ swap fs i v

-- a place in no field is as it was
pub lay_clear : (fs : List Field) (l : List ℕ) (k : ℕ) → k < length l → Clear fs k → get_or (lay fs l) k 0 ≡ get_or l k 0
unfolding lay
lay_clear [] l k b c = refl
lay_clear (f ∷ fs) l k b c =
    lay_clear fs (patch f.at f.body l) k (omega (arith, patch_long f.at f.body l)) (record { of = λ g i. c.of g (there i) })
    ∙ patch-out f.at f.body l k b (c.of f here)

-- fields written over others, where every place of those is in a field of these
pub lay-over : (fs gs : List Field) (l : List ℕ) → ((k : ℕ) → Clear gs k → Clear fs k) → lay gs (lay fs l) ≡ lay gs l
lay-over fs gs l h = lay_agree gs l (lay fs l) (lay_long fs l) (λ k b c. lay_clear fs l k b (h k c))

-- a patch before all fields may be written first
lay-first : (fs : List Field) (lo hi a : ℕ) (u l : List ℕ) → Fits lo fs hi → a + length u ≤ lo → patch a u (lay fs l) ≡ lay fs (patch a u l)
unfolding lay
lay-first [] lo hi a u l h b = refl
lay-first (f ∷ fs) lo hi a u l h b =
    lay-first fs (f.at + length f.body) hi a u (patch f.at f.body l) h.1 (omega (arith, h.0)) ∙ ap (lay fs) (patch_far a f.at u f.body l (omega (arith, h.0)))

-- writing one field anew gives the list with that field's new body, which may be longer and still fits
pub lay-swap : (fs : List Field) (lo hi : ℕ) (l : List ℕ) {f : Field} (i : In f fs) (v : List ℕ) → Fits lo (swap fs i v) hi → length f.body ≤ length v
    → patch f.at v (lay fs l) ≡ lay (swap fs i v) l
unfolding lay swap
lay-swap [] lo hi l {f = f} i v h e = elim i [ ]
lay-swap (f ∷ fs) lo hi l (here) v h e =
    lay-first fs (f.at + length v) hi f.at v (patch f.at f.body l) h.1 (omega arith) ∙ ap (lay fs) (patch-over f.at v f.body l e)
lay-swap (g ∷ fs) lo hi l (there i) v h e = lay-swap fs (g.at + length g.body) hi (patch g.at g.body l) i v h.1 e

-- a body of the same length fits
pub swap-fits : (fs : List Field) (lo hi : ℕ) {f : Field} (i : In f fs) (v : List ℕ) → Fits lo fs hi → length v ≡ length f.body → Fits lo (swap fs i v) hi
unfolding swap
swap-fits [] lo hi {f = f} i v h e = elim i [ ]
swap-fits (f ∷ fs) lo hi (here) v h e = (h.0, rw e h.1)
swap-fits (g ∷ fs) lo hi (there i) v h e = (h.0, swap-fits fs (g.at + length g.body) hi i v h.1 e)
