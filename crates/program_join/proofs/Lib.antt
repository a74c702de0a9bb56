-- The laws that the joining program's proofs cite. Assumes nothing.
pub mod Joinings
