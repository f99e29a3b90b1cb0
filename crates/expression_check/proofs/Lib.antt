mod Behind
mod Variables
mod Trees
mod Walks
pub mod Depths
mod Members
mod Shapes
mod Told
