pub mod Marks
pub mod Seen
pub mod Steps
pub mod Keeping
pub mod Moments
pub mod Lasting
