-- The laws that the operations' proofs cite. Assumes nothing.
pub mod Answering
pub mod Putting
pub mod Sizes
pub mod Numbers
pub mod OwnTable
pub mod Weighing
pub mod Telling
pub mod Drawing
pub mod Sharing
pub mod AsWritten
pub mod Paging
