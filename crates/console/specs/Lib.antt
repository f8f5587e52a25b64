pub mod Faults
pub mod Seats
pub mod Requests
pub mod Held
pub mod Responses
