-- The bench cases of the move graph; those of loading alone are in Loadings. Assumes nothing.
use Rattle.std.specs.Prelude.{List, [], ◌∷◌}
use Rattle.cases.specs.Run.{MoveCase}
use Rattle.cases.specs.MoveBasics.{P1, P2, P3, P4, P5, P6, P7, P8}
use Rattle.cases.specs.MovePlaces.{evicting, outside, inside, fixing, all_fixed}
use Rattle.cases.specs.MoveEdges.{facade_verdict, vanishing, two_numbers, returning, reaching}

abbrev pub move_cases : List MoveCase
move_cases = P1 ∷ P2 ∷ P3 ∷ P4 ∷ P5 ∷ P6 ∷ P7 ∷ P8 ∷ evicting ∷ outside ∷ inside ∷ fixing ∷ all_fixed ∷ facade_verdict ∷ vanishing ∷ two_numbers ∷ returning ∷ reaching ∷ []
