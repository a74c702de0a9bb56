pub mod Saying
pub mod Rows
