-- What holds of a call that no row refuses, and of its roles. Assumes nothing.
use Rattle.std.specs.Prelude.{ℕ, ◌≡◌, ◌<◌, ◌≤◌, List, length, get_or}
use Rattle.merge_choice.specs.Choice.{bits}
use Rattle.merge_choice.specs.Spans.{Spans}
use Rattle.merge_target.specs.declared.Bundle.{Bundle}
use Rattle.merge_target.specs.declared.roles.Role.{Role}
use Rattle.merge_target.specs.Roles.{role_number, numbers}

pub record Sound (b : Bundle) : Type 0 where
  pub few_chunks : b.chunks ≤ 1024
  pub few_modules : b.modules ≤ 4096
  pub listed : length b.entries.now ≡ b.chunks
  pub sided : length b.effects.now ≡ b.chunks
  pub shown : length b.exports.now ≡ b.modules
  pub contents : Spans b.chunks b.modules b.contents.starts.now b.contents.items.now
  pub reached : Spans b.chunks b.chunks b.reached.starts.now b.reached.items.now
  pub importers : Spans b.modules b.modules b.importers.starts.now b.importers.items.now
  pub dynamic_importers : Spans b.modules b.modules b.dynamic_importers.starts.now b.dynamic_importers.items.now

-- a user entry or a dynamic one
abbrev pub IsEntry : Role → Type 0
IsEntry r = (role_number r ≡ 0 → ⊥) × (role_number r ≡ 3 → ⊥)

-- the roles of the chunks that bits can name: the module of each entry among them is in range
pub record Roled (b : Bundle) (roles : List Role) : Type 0 where
  pub count : length roles ≡ bits b.chunks
  pub few : length roles ≤ 256
  pub listed : length roles ≤ b.chunks
  pub entry : (d : ℕ) → d < length roles → (get_or (numbers roles) d 0 ≡ 0 → ⊥) → (get_or (numbers roles) d 0 ≡ 3 → ⊥) → get_or b.entries.now d 0 < b.modules
