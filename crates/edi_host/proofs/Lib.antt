pub mod DriveBlocks
pub mod FileMaps
