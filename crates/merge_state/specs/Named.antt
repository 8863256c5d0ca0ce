-- The chunk that a number of a list names. Assumes nothing.
use Rattle.std.specs.Prelude.{ℕ, ◌≡◌, cond, Option, Some, None as NoChunk, IfSome, eqb}
use Rattle.std.proofs.Common.{ap, sym, eq-eqb, ne_eqb}
use Rattle.std.proofs.lemmas.Option.{same_Some}
use Rattle.std.proofs.Math.Decide.{ℕ_discrete}
use Rattle.merge_state.specs.declared.ChunkIdx.{ChunkIdx}
use Rattle.merge_state.specs.State.{None}

abbrev pub named : ℕ → Option ChunkIdx
named v = cond (eqb v None) NoChunk (Some (record { 0 = v }))

pub named-none : (v : ℕ) → named v ≡ NoChunk → v ≡ None
named-none v h = elim (ℕ_discrete v None) [
  | yes q ↦ q
  | no q ↦ absurd (let e = rw (ne_eqb v None q) at h in (cc))
]

pub named-some : (v : ℕ) (x : ChunkIdx) → named v ≡ Some x → (v ≡ x.0) × (v ≡ None → ⊥)
named-some v x h = elim (ℕ_discrete v None) [
  | yes q ↦ absurd (let e = rw (eq-eqb v None q) at h in (cc))
  | no q ↦ let e = rw (ne_eqb v None q) at h in (ap (λ r. r.0) (same_Some (record { 0 = v }) x e), q)
]

-- a chunk or none as a number of a list
abbrev pub number_of : Option ChunkIdx → ℕ
number_of (Some x) = x.0
number_of NoChunk = None

-- a chunk's number isn't None
abbrev pub Proper : Option ChunkIdx → Type 0
Proper chunk = IfSome chunk (λ x. x.0 ≡ None → ⊥)

pub number_named : (v : ℕ) → number_of (named v) ≡ v
number_named v = elim (ℕ_discrete v None) [ yes q ↦ rw (eq-eqb v None q) (sym q) | no q ↦ rw (ne_eqb v None q) ]

pub proper-named : (v : ℕ) → Proper (named v)
proper-named v = elim (ℕ_discrete v None) [ yes q ↦ rw (eq-eqb v None q) tt | no q ↦ rw (ne_eqb v None q) q ]
