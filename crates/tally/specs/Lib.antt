pub mod Tallies
pub mod Runs
