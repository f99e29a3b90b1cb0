use Rattle.avm_asm.proofs.ReadBack.{code_length}
use Rattle.avm_asm.proofs.laws.code_has_its_size.Goals as goal

pub returns : goal.returns
returns c = code_length
