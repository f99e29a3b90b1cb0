use Rattle.std.proofs.Common.{arith}
use Rattle.compiler.proofs.WellFormed.{push_form, return_form}
use Rattle.compiler.proofs.programs.clear_built.Goals as goal

pub encode-requires : goal.encode-requires
encode-requires c = push_form 1 (omega arith)

pub encode-requires-2 : goal.encode-requires-2
encode-requires-2 c = return_form
