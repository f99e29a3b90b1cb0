pub mod Parallel
pub mod Cycles
pub mod Paths
pub mod Waiting
