pub mod Forms
pub mod Faults
pub mod Loads
pub mod Saved
