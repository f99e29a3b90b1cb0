pub mod Listing
pub mod Assembled
pub mod Steps
pub use Rattle.avm_ops.specs.Code
pub use Rattle.avm_ops.specs.Immediate
