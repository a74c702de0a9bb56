pub mod Lanes
