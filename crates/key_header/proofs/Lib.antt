-- The laws of readers, headers and checks. Assumes nothing.
pub mod Reading
pub mod Lengths
