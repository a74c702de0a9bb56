-- The laws that the functions cite: stretches of bytes, one column after another, words in chunks, and words and rows apart. Assumes nothing.
pub mod Stretches
pub mod Columns
pub mod Chunks
pub mod Halves
