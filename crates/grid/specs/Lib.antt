pub mod Arrays
pub mod Code
pub mod Faults
pub mod Grid
pub mod Hiding
pub mod Joining
pub mod Moving
pub mod Sensors
