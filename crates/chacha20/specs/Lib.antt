pub mod Expand
pub mod From
pub mod Rfc8439
pub mod Lines
