pub mod Turns
pub mod Quarters
