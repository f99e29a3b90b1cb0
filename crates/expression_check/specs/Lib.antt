pub mod Variables
pub mod Expressions
pub mod Sights
pub mod Gathered
pub mod Bindings
pub mod Walking
