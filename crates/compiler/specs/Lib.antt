pub mod Form
pub mod Source
pub mod Programs
pub mod Compiled
