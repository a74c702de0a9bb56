pub mod Laws
pub mod Cuts
pub mod InARow
