pub mod Ended
pub mod Limited
pub mod Meant
pub mod Read
