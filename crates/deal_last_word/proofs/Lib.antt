-- The laws of the last word. Assumes nothing.
pub mod LastWord
