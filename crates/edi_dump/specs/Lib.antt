pub mod Frames
pub mod Jumps
pub mod Laws
pub mod Rows
pub mod Text
pub mod Told
pub mod Views
pub mod values
