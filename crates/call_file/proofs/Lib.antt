pub mod Items
pub mod Hex
pub mod Entering
pub mod Loading
pub mod Answering
pub mod InForm
pub mod Starts
pub mod Whole
