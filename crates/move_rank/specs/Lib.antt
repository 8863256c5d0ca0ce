-- The ranking of two placements, its laws, and what the contracts of `move_rank` cite. Assumes nothing.
pub mod Rank
pub mod RankLaws
pub mod Ranking
pub mod Atoms
