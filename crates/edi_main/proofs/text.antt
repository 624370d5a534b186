pub mod Checked
pub mod Coded
pub mod Explained
pub mod ExploreCame
pub mod ExploreMeans
pub mod ExploreSteps
pub mod ManyNames
pub mod Meaning
