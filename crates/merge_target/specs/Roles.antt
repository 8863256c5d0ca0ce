-- The numbers that the definitions have for roles. Assumes nothing.
use Rattle.std.specs.Prelude.{ℕ, List, map}
use Rattle.merge_target.specs.declared.roles.Role.{Role}
use Rattle.merge_target.specs.declared.roles.Role.TheVariants.{Nothing, DynamicEntry, UserEntry, CommonChunk}

abbrev pub role_number : Role → ℕ
role_number Nothing = 0
role_number DynamicEntry = 1
role_number UserEntry = 2
role_number CommonChunk = 3

abbrev pub numbers : List Role → List ℕ
numbers roles = map role_number roles
