pub mod Words
pub mod Rounds
pub mod Parts
pub mod Stream
pub mod Together
