pub mod Printing
pub mod Reading
pub mod Numbering
pub mod Pieces
pub mod Steps
pub use Rattle.teal_line.specs.Words
pub use Rattle.teal_line.specs.Reading as LineReading
pub use Rattle.avm_asm.specs.Listing
pub use Rattle.avm_asm.specs.Assembled
pub use Rattle.avm_run.specs.Form
