pub mod Names
pub mod Types
pub mod Values
pub mod Groups
pub mod Encoding
pub mod Reading
pub mod Views
