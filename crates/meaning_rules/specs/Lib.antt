pub mod Meanings
pub mod Operations
pub mod Betweens
pub mod Indexes
pub mod Reads
