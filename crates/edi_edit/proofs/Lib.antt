pub mod Single
pub mod Feeds
pub mod Back
pub mod Pieces
pub mod Law
