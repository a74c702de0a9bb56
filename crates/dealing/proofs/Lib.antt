-- The laws of a dealing: its refusals, and what it has by its type. Assumes nothing.
pub mod Facts
pub mod Lending
