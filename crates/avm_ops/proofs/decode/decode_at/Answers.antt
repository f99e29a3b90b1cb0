use Rattle.std.proofs.Common.{get_or, Fits, w8, arith}
use Rattle.avm_ops.proofs.Only.{form_of_read}
use Rattle.avm_ops.proofs.decode.decode_at.Goals as goal

pub returns-clause-form : goal.returns-clause-form
returns-clause-form c =
    form_of_read c.args.code.now c.args.pc c.read_at.result
    (λ k. let f : Fits w8 (get_or c.args.code.now k 0) = c.type_inv.code k in omega (arith, f)) c.read_at.ensures.value
