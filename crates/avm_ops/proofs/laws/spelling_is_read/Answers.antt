use Rattle.avm_ops.proofs.Reading.{instr_read}
use Rattle.avm_ops.proofs.laws.spelling_is_read.Goals as goal

pub returns : goal.returns
returns c = instr_read
