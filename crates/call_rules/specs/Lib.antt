pub mod Calls
pub mod Callees
pub mod Fittings
pub mod Callings
pub mod Hexes
pub mod Ranges
