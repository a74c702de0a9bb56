pub mod Joined
pub mod Fours
