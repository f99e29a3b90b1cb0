pub mod Headers
pub mod Modules
pub mod Classes
pub mod Packages
pub mod Bases
