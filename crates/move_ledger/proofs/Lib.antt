-- What holds of the definitions. Assumes nothing.
pub mod Edges
pub mod Evict
pub mod Gained
pub mod GraphLaws
pub mod LoadLaws
pub mod MoveLaws
pub mod NodeListing
pub mod NodeMoves
pub mod NodePlaces
pub mod NodeWalks
pub mod Reach
pub mod Sound
pub mod Totals
