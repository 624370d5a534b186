pub mod stops
pub mod Points
pub mod Kept
pub mod Looking
pub mod Laws
