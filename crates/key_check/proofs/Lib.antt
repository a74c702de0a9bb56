-- The chain of the check, and the place of a held seed. Assumes nothing.
pub mod Checks
pub mod Places
