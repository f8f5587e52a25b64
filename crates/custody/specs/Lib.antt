pub mod Making
pub mod States
pub mod Dealings
pub mod Holders
