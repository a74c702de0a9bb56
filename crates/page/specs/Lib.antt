pub mod Page
pub mod Found
