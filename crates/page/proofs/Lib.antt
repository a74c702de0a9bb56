pub mod Laws
pub mod Found
