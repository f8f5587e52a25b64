pub mod Faults
pub mod Verdicts
pub mod Schemes
pub mod Helpers
pub mod Shares
