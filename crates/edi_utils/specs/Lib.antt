pub mod demonstrated
pub mod Demo
pub mod Listing
pub mod Named
pub mod Tables
