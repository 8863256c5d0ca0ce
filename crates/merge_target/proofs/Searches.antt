-- A sound call's entries can be searched. Assumes nothing.
use Rattle.std.specs.Prelude.{ℕ, ◌≡◌, ◌<◌, List, length, get_or}
use Rattle.std.proofs.Common.{arith}
use Rattle.std.proofs.lemmas.List.{length-map}
use Rattle.merge_choice.specs.Search.{CanFirst, CanWin, Searching, can_win}
use Rattle.merge_target.specs.declared.Bundle.{Bundle}
use Rattle.merge_target.specs.declared.roles.Role.{Role}
use Rattle.merge_target.specs.Roles.{role_number, numbers}
use Rattle.merge_target.specs.Sound.{Sound, Roled, IsEntry}

module _ {b : Bundle} {roles : List Role} (s : Sound b) (r : Roled b roles) where
  pub entry_below : (v : Role) → IsEntry v → (o : ℕ) → o < length roles → get_or (numbers roles) o 0 ≡ role_number v → get_or b.entries.now o 0 < b.modules
  entry_below v e o h q = r.entry o h (λ z. e.0 (omega arith)) (λ z. e.1 (omega arith))

  pub can_search : (v : Role) → IsEntry v → CanFirst (length roles) (numbers roles) (role_number v) b.entries.now b.importers.starts.now b.importers.items.now 4096
  can_search v e =
      record {
        few = r.few;
        named = omega (arith, length-map roles role_number);
        listed = omega (arith, r.listed, s.listed);
        entry = λ o h q. omega (arith, entry_below v e o h q, s.importers.count);
        count = omega (arith, s.importers.count, s.few_modules);
        spans = λ x h. s.importers.each x (omega (arith, s.importers.count));
        inside = λ i h. omega (arith, s.importers.below i h, s.few_modules);
      }

  pub can_win_at : (v : Role) {marks : List ℕ} {t : ℕ} → IsEntry v → t < length roles
      → Searching (length roles) (numbers roles) (role_number v) b.entries.now b.importers.starts.now b.importers.items.now marks t
      → CanWin (length roles) (numbers roles) (role_number v) b.entries.now b.importers.starts.now b.importers.items.now marks t
  can_win_at v e h g = can_win (can_search v e) g h
