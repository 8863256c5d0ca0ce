-- The number of each row of the table of refusals, and of a call that is refused by one. Assumes nothing.
use Rattle.std.specs.Prelude.{ℕ, ◌≡◌, Result, Ok, Err}
use Rattle.std.proofs.Common.{arith}
use Rattle.refusals.specs.declared.Refusal.{Refusal}
use Rattle.refusals.specs.declared.Refusal.TheVariants as refusal

abbrev pub row : Refusal → ℕ
row refusal.OverLimits = 1
row refusal.ListLength = 2
row refusal.AreaTooShort = 3
row refusal.FaultyStarts = 4
row refusal.FaultyDependency = 5
row refusal.FaultyHost = 6
row refusal.SetOutOfRange = 7
row refusal.EqualSets = 8
row refusal.AreaInconsistent = 9
row refusal.NoSuchAtom = 10
row refusal.IllegalSet = 11
row refusal.SetUnchanged = 12
row refusal.MergeOverLimits = 14
row refusal.MergeLists = 15
row refusal.MergeIndex = 16
row refusal.SetNamedTwice = 17
row refusal.NoRoomForChunk = 18
row refusal.NoRoomForEntry = 19
row refusal.SourceIsTarget = 20
row refusal.MergeAreaInconsistent = 21
row refusal.BadCommand = 22
row refusal.ChoiceLists = 23
row refusal.AtomFixed = 24
row refusal.FaultyClasses = 25
row refusal.NoStart = 26
row refusal.OrderTooShort = 27
row refusal.MergedAway = 28

-- 0 where no row fits
abbrev pub row_of : {T : Type 0} → Result T Refusal → ℕ
row_of (Ok x) = 0
row_of (Err r) = row r

-- no row has number 0
pub row_some : (r : Refusal) → row r ≡ 0 → ⊥
row_some r h = grind arith
