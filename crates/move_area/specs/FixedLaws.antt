-- The flags of fixed atoms stand behind every field: what a state writes leaves them, and they leave the state. Assumes nothing.
use Rattle.std.specs.Prelude.{◌≡◌, refl, List, [], ◌∷◌, ℕ, ◌+◌, ◌≤◌, length}
use Rattle.std.proofs.Common.{sym, ◌∙◌, arith}
use Rattle.std.proofs.Math.Path.{ap}
use Rattle.graphs.specs.Tab.{tab-length}
use Rattle.layout.specs.Patch.{patch, part, part_long, is_part, patch_long, patch_in, patch-same, patch_far}
use Rattle.layout.specs.Fields.{Field, lay, Fits}
use Rattle.move_ledger.specs.Graph.{Load}
use Rattle.move_area.specs.Bodies.{atom_at, fields_of, write}
use Rattle.move_area.specs.BodyLaws.{fields_fit}
use Rattle.move_area.specs.Area.{State, bodies, encode}
use Rattle.move_area.specs.Held.{Held, bodies-sized}
use Rattle.move_area.specs.Fixed.{fixed_at, flags, flag}

-- fields that end before a place, and what is written there
lay_far : (fs : List Field) (lo hi a : ℕ) (u l : List ℕ) → Fits lo fs hi → hi ≤ a → (lo ≤ a) × (lay fs (patch a u l) ≡ patch a u (lay fs l))
unfolding lay
lay_far [] lo hi a u l h b = (omega arith, refl)
lay_far (f ∷ fs) lo hi a u l h b =
    let r = lay_far fs (f.at + length f.body) hi a u (patch f.at f.body l) h.1 b in
    (omega (arith, h.0, r.0), ap (lay fs) (patch_far f.at a f.body u l r.0) ∙ r.1)

part-patch : (a : ℕ) (u l : List ℕ) → a + length u ≤ length l → part a (length u) (patch a u l) ≡ u
part-patch a u l room = is_part a (patch a u l) u (λ i b. patch_in a u l i b (omega arith))

module _ (load : Load) (N : ℕ) (st : State) (h : Held load N st) where
  abbrev F : ℕ
  F = fixed_at N load.A

  encode_far : (u l : List ℕ) → encode load N st (patch F u l) ≡ patch F u (encode load N st l)
  unfolding encode write
  encode_far u l =
      (lay_far (fields_of N (bodies load N st)) 0 (atom_at N + load.A) F u l (fields_fit N load.A (bodies load N st) (bodies-sized h)) (omega arith)).1

  -- what is encoded leaves the flags
  pub encode-flags : (l : List ℕ) → F + load.A ≤ length (encode load N st l) → part F load.A (encode load N st l) ≡ part F load.A l
  encode-flags l room =
      let u : List ℕ = part F load.A l in
      let long : length (part F load.A l) ≡ load.A = part_long F load.A l in
      let same : patch F (part F load.A l) l ≡ l = patch-same F u l (ap (λ k. part F k l) long) in
      ap (λ x. part F load.A (encode load N st x)) (sym same) ∙ ap (part F load.A) (encode_far u l)
      ∙ ap (λ k. part F k (patch F u (encode load N st l))) (sym long) ∙ part-patch F u (encode load N st l) (omega arith)

  -- and the flags, written, leave what is encoded
  pub flag-encode : (fixed l : List ℕ) → encode load N st l ≡ l → encode load N st (flag load fixed N l) ≡ flag load fixed N l
  unfolding flag
  flag-encode fixed l e = encode_far (flags load fixed) l ∙ ap (patch F (flags load fixed)) e

module _ (load : Load) (fixed : List ℕ) (N : ℕ) (l : List ℕ) where
  pub flag_long : length (flag load fixed N l) ≡ length l
  unfolding flag
  flag_long = patch_long (fixed_at N load.A) (flags load fixed) l

  pub flags-length : length (flags load fixed) ≡ load.A
  unfolding flags
  flags-length = tab-length _ load.A

  pub flag-flags : fixed_at N load.A + load.A ≤ length l → part (fixed_at N load.A) load.A (flag load fixed N l) ≡ flags load fixed
  unfolding flag
  flag-flags room =
      ap (λ k. part (fixed_at N load.A) k (patch (fixed_at N load.A) (flags load fixed) l)) (sym flags-length)
      ∙ part-patch (fixed_at N load.A) (flags load fixed) l (omega (arith, flags-length))
