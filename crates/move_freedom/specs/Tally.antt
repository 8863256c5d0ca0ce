-- How many nodes an atom may go to, by flags. Assumes nothing.
use Rattle.std.specs.Prelude.{ℕ, ◌+◌, ◌≡◌, Bool, false, not, ◌&&◌, List, eqb, length, get_or}
use Rattle.std.proofs.Common.{ap, ◌∙◌}
use Rattle.graphs.specs.Count.{ind, count}
use Rattle.move_freedom.specs.declared.flags.Flags.{Flags}

-- the atom leads to node x, and x reaches the atom
abbrev pub both : Flags → ℕ → Bool
both f x = get_or f.out x false && not (eqb (get_or f.back x 0) 0)

-- node x has an atom
abbrev pub has_atom : List ℕ → ℕ → Bool
has_atom counts x = not (eqb (get_or counts x 0) 0)

-- the atom in node `own` may go to node x, which has so many atoms; k nodes meet
abbrev pub admits : Flags → ℕ → ℕ → ℕ → ℕ → Bool
admits f atoms own k x = not (eqb atoms 0) && (not (eqb x own) && (not (get_or f.ahead x false) && (not (get_or f.behind x false) && eqb k (ind (both f x)))))

-- the nodes with these atom counts that the atom in node `own` may go to, of one more node those that meet
unfoldable pub open_count : Flags → List ℕ → ℕ → ℕ
open_count f counts own = count (λ x. admits f (get_or counts x 0) own (count (both f) (length counts + 1)) x) (length counts)

-- what a test of the parts answers
pub admits_one : (f : Flags) (atoms own k x : ℕ) {m : ℕ} {r : Bool} → m ≡ ind (both f x)
    → r ≡ (not (eqb atoms 0) && (not (eqb x own) && (not (get_or f.ahead x false) && (not (get_or f.behind x false) && eqb k m)))) → r ≡ admits f atoms own k x
admits_one f atoms own k x e q = q ∙ ap (λ (j : ℕ). not (eqb atoms 0) && (not (eqb x own) && (not (get_or f.ahead x false) && (not (get_or f.behind x false) && eqb k j)))) e
