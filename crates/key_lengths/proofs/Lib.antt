-- The laws of how long things are in a key. Assumes nothing.
pub mod Lengths
