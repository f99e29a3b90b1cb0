pub mod Laws
pub mod Following
pub mod Moving
pub mod Loading
pub mod Turning
pub mod Counting
