pub mod Masks
pub mod Decks
pub mod Bytes
pub mod Sums
