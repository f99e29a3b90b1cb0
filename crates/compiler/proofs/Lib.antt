pub mod WellFormed
pub mod Serving
pub mod Clearing
pub mod Forming
