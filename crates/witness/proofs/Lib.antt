-- The laws of the witnesses. Assumes nothing.
pub mod Showing
