pub mod Steps
pub mod Walks
pub mod Rules
pub mod Order
pub mod Summaries
pub mod Describes
pub mod NextOf
pub mod Told
