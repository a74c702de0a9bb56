-- The laws of a player's marks. Assumes nothing.
pub mod PackedMarks
mod Spread
