-- The laws that the functions cite: full tables grid row by grid row, accepted bodies, a body from a grid row on, where a grid row stands, and accepted
-- keys. Assumes nothing.
pub mod Tables
pub mod Bodies
pub mod Parts
pub mod GridRows
pub mod Headed
