-- The laws that the dealing program's proofs cite. Assumes nothing.
mod Lengths
pub mod Dealings
