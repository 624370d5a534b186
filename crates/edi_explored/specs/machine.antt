-- Words of contracts. The files of `machine`: a search over machines.
pub mod Alike
pub mod Twins
pub mod Machines
pub mod PutBacks
pub mod Kernels
pub mod Levels
pub mod Ranks
pub mod Counted
