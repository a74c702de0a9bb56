-- The laws of dealing. Assumes nothing.
pub mod KeyBytes
