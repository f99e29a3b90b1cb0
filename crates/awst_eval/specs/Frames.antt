-- What a function of the evaluator stands in, as the definitions have it.
use Rattle.std.specs.Prelude.{ℕ, List}
use Rattle.avm_state.specs.declared.call.Call.{Call}
use Rattle.awst.specs.declared.contract.Contract.{Contract}
use Rattle.awst.specs.declared.statement.Stmt.{Stmt}
use Rattle.awst.specs.Types.{ValueType}
use Rattle.awst.specs.Plain.{assigned_scalars, statement_of}
use Rattle.awst.specs.Functions.{scope_of}
use Rattle.awst.specs.Meaning.{Setting, Program, called}
use Rattle.awst.specs.Prescribed.{plain_contract, program_of}
use Rattle.awst_eval.specs.declared.frame.Frame.{Frame}

unfoldable pub program_at : Contract → Call → Program
program_at contract call = program_of (plain_contract contract) call

unfoldable pub setting_at : Contract → Call → ℕ → Setting
setting_at contract call n = record { transaction = call; calls = called (program_at contract call) n }

abbrev pub setting_of : Frame → Setting
setting_of frame = setting_at frame.contract.now frame.call.now frame.clock

-- the types of the function's variables
abbrev pub variables_of : Frame → List ValueType
variables_of frame = scope_of frame.func.now

-- the scalars of the variables that a statement assigns
abbrev pub inner_of : Frame → Stmt → ℕ
inner_of frame s = assigned_scalars (variables_of frame) (statement_of s).assigns
