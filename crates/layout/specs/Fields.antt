-- Fields: several lists, one behind the other in place, written over a list. Assumes nothing.
use Rattle.std.specs.Prelude.{◌≡◌, refl, List, [], ◌∷◌, ℕ, ◌+◌, ◌≤◌, ◌<◌, length, get_or}
use Rattle.std.proofs.Common.{ap, ◌∙◌, arith}
use Rattle.layout.specs.Patch.{patch, part, is_part, patch_long, patch_in, patch-out, patch-same}

-- where a list is written, and the list
pub record Field : Type 0 where
  pub at : ℕ
  pub body : List ℕ

abbrev pub field : ℕ → List ℕ → Field
field at v = record { at = at; body = v }

-- l with the fields written, one after the other
unfoldable pub lay : List Field → List ℕ → List ℕ
lay [] l = l
lay (f ∷ fs) l = lay fs (patch f.at f.body l)

-- the fields stand one behind the other, from lo up to hi
abbrev pub Fits : ℕ → List Field → ℕ → Type 0
Fits lo [] hi = lo ≤ hi
Fits lo (f ∷ fs) hi = (lo ≤ f.at) × Fits (f.at + length f.body) fs hi

pub data In (f : Field) : List Field → Type 0 where
  here : {fs : List Field} → In f (f ∷ fs)
  there : {g : Field} {fs : List Field} → In f fs → In f (g ∷ fs)

pub lay_long : (fs : List Field) (l : List ℕ) → length (lay fs l) ≡ length l
unfolding lay
lay_long [] l = refl
lay_long (f ∷ fs) l = lay_long fs _ ∙ patch_long f.at f.body l

pub lay-below : (fs : List Field) (lo hi : ℕ) (l : List ℕ) → Fits lo fs hi → (k : ℕ) → k < lo → k < length l → get_or (lay fs l) k 0 ≡ get_or l k 0
unfolding lay
lay-below [] lo hi l h k b z = refl
lay-below (f ∷ fs) lo hi l h k b z =
    lay-below fs (f.at + length f.body) hi (patch f.at f.body l) h.1 k (omega (arith, h.0)) (omega (arith, patch_long f.at f.body l))
    ∙ patch-out f.at f.body l k z (λ x. absurd (omega (arith, h.0)))

fits_up : (fs : List Field) (lo hi : ℕ) → Fits lo fs hi → lo ≤ hi
fits_up [] lo hi h = h
fits_up (f ∷ fs) lo hi h = omega (arith, h.0, fits_up fs (f.at + length f.body) hi h.1)

-- each field is read back
pub lay-read : (fs : List Field) (lo hi : ℕ) (l : List ℕ) → Fits lo fs hi → hi ≤ length l → (f : Field) → In f fs → part f.at (length f.body) (lay fs l) ≡ f.body
unfolding lay
lay-read [] lo hi l h b f x3 = elim x3 [ ]
lay-read (f ∷ fs) lo hi l h b _ (here) =
    let top = fits_up fs (f.at + length f.body) hi h.1 in
    is_part f.at (lay fs (patch f.at f.body l)) f.body (λ i z.
    lay-below fs (f.at + length f.body) hi (patch f.at f.body l) h.1 (f.at + i) (omega arith) (omega (arith, patch_long f.at f.body l))
    ∙ patch_in f.at f.body l i z (omega arith))
lay-read (g ∷ fs) lo hi l h b f (there i) =
    lay-read fs (g.at + length g.body) hi (patch g.at g.body l) h.1 (omega (arith, patch_long g.at g.body l)) f i

-- an area in which each field stands already
pub lay-same : (fs : List Field) (l : List ℕ) → ((f : Field) → In f fs → part f.at (length f.body) l ≡ f.body) → lay fs l ≡ l
unfolding lay
lay-same [] l h = refl
lay-same (f ∷ fs) l h = ap (lay fs) (patch-same f.at f.body l (h f here)) ∙ lay-same fs l (λ g i. h g (there i))

-- written twice is written once
pub lay_again : (fs : List Field) (lo hi : ℕ) (l : List ℕ) → Fits lo fs hi → hi ≤ length l → lay fs (lay fs l) ≡ lay fs l
lay_again fs lo hi l h b = lay-same fs (lay fs l) (lay-read fs lo hi l h b)
