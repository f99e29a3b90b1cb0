pub mod Functions
pub mod Whole
pub mod Firsts
pub mod Placing
