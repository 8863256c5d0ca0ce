-- What the turns of the pass ask and show. Assumes nothing.
pub mod Turns
pub mod Placing
pub mod Lists
pub mod Going
pub mod Called
