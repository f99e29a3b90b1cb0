use Rattle.std.proofs.Common.{arith}
use Rattle.compiler.proofs.WellFormed.{op_form, push_form, return_form}
use Rattle.compiler.proofs.programs.built.Goals as goal

pub encode-requires : goal.encode-requires
encode-requires c = push_form c.args.sum.left (omega arith)

pub encode-requires-2 : goal.encode-requires-2
encode-requires-2 c = push_form c.args.sum.right (omega arith)

pub encode-requires-3 : goal.encode-requires-3
encode-requires-3 c = rw c.opcode_of-op.ensures (op_form c.args.sum.operator)

pub encode-requires-4 : goal.encode-requires-4
encode-requires-4 c = return_form
