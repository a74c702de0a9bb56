-- The laws of tallies: their numbers, what each call leaves, and runs of calls. Assumes nothing.
pub mod Numbers
pub mod Leaving
pub mod Runs
