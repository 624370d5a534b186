pub mod LoadedFiles
pub mod OnFilesLemmas
pub mod Opens
pub mod Shown
pub mod Unmounted
