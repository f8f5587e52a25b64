pub mod Ledgers
pub mod Calls
pub mod Rules
pub mod Steps
