pub mod Shown
pub mod Ended
pub mod Computing
pub mod Worlds
pub mod Ticks
pub mod Flows
pub mod Frames
pub mod Moments
