pub mod Tables
pub mod Packages
pub mod Forms
pub mod Operators
pub mod Members
