-- What Deal says. Assumes nothing.
pub mod Saying
