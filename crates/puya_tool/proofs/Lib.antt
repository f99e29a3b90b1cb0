pub mod WellFormed
pub mod Due
