pub mod Answers
pub mod AsWritten
