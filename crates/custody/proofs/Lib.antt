pub mod Makings
pub mod Dealt
pub mod Keyed
pub mod Rewritten
pub mod Nonzero
