pub mod expected
pub mod places
pub mod told
