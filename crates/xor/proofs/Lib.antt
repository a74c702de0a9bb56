pub mod Laws
pub mod Walks
pub mod Writing
pub mod Table
pub mod Chunks
