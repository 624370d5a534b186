mod ActSteps
mod Arms
mod AtOnce
mod Bare
mod Births
mod Blocks
mod CallPieces
mod Calls
mod Choosing
mod ChoosingTold
mod Conditions
pub mod Determined
pub mod Ends
mod Entries
mod Exits
mod FrameRuns
mod FrameSteps
mod Grows
mod Instances
mod Layers
mod Livings
mod Moments
mod Named
mod Onward
mod Parted
mod PartsOf
pub mod Permits
mod Pieces
mod Reaching
mod ReadParts
mod SameParts
mod Stopping
mod Taking
mod Wholes
mod Working
mod Zeros
