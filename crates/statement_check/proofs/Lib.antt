mod Rows
mod Behind
pub mod Seeing
mod Blocks
mod Stepping
mod Arms
mod Turns
mod Naming
mod Adding
mod Fitting
mod Single
