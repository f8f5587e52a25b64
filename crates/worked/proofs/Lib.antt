pub mod Lifetimes
