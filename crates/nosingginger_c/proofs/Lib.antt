-- What is written through a pointer. Assumes nothing.
pub mod Pointers
