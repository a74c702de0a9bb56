pub mod Written
pub mod InARow
