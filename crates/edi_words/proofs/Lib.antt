pub mod Numbers
pub mod Walking
pub mod Parts
pub mod Tests
pub mod Reading
