pub mod Text
pub use Rattle.avm_run.specs.Machine
pub use Rattle.avm_state.specs.LedgerState
pub use Rattle.hex.specs.Hex
