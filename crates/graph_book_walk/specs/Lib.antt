-- The definitions that the contracts of `graph_book_walk` cite. Assumes nothing.
pub mod Book
