-- The move graph's definitions: Graph, Answer, Ledger and Loading are what a reader of the demands has to believe, with Walk, Lists,
-- Count and Tab of graphs, and Sets and Joined of entry_set; Nodes says the same by node numbers; the other files hold laws. Assumes nothing.
pub mod Graph
pub mod Answer
pub mod Ledger
pub mod Loading
pub mod GraphLaws
pub mod Listing
pub mod Places
pub mod Evict
pub mod MoveLaws
pub mod LoadLaws
pub mod Sound
pub mod Nodes
pub mod NodeLaws
pub mod NodeWalks
pub mod NodePlaces
pub mod NodeMoves
pub mod Edges
pub mod NodeListing
pub mod Chunks
pub mod Totals
pub mod Reach
