-- What the calls of a tally answer. Assumes nothing.
pub mod Saying
