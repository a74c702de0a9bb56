-- What the openings answer. Assumes nothing.
pub mod Squares
