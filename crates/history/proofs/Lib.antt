pub mod Refusals
pub mod SharedOut
pub mod Stepping
