pub mod Histories
pub mod Disguises
pub mod Promises
