-- What the proofs of `nidskalm_c` cite. Assumes nothing.
mod Structs
