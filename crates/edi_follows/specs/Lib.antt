pub mod places
pub mod values
pub mod Theorem
pub mod Arrivals
