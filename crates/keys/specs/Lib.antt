pub mod Keys
pub mod Promise
pub mod Document03
pub mod Held
