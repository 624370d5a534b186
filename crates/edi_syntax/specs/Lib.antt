pub mod statements
pub mod Inside
pub mod Refusal
pub mod Ends
