-- The laws of outputs, which both programs' proofs cite. Assumes nothing.
pub mod Writing
