pub mod Walks
pub mod OneRow
