pub mod Faulting
pub mod Parity
pub mod Seen
