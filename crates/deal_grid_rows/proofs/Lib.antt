-- The laws of a grid row's bytes. Assumes nothing.
pub mod RowBytes
