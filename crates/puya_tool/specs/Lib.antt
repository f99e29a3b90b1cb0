pub mod Words
pub mod Text
pub mod Commands
pub mod Promise
pub use Rattle.avm_run.specs.Machine
pub use Rattle.avm_run.specs.Bytes
pub use Rattle.avm_run.specs.Form
pub use Rattle.avm_asm.specs.Assembled
pub use Rattle.avm_ops.specs.Code
pub use Rattle.avm_ops.specs.Immediate
pub use Rattle.avm_ops.specs.Table
pub use Rattle.avm_ops.specs.Varint
pub use Rattle.avm_state.specs.LedgerState
pub use Rattle.call_file.specs.Saved
pub use Rattle.outcome_text.specs.Text as OutcomeText
pub use Rattle.puya_base.specs.Files
pub use Rattle.puya_base.specs.Causes
pub use Rattle.compiler.specs.Form as SourceForm
pub use Rattle.compiler.specs.Source
pub use Rattle.compiler.specs.Programs
pub use Rattle.compiler.specs.Compiled
