use Rattle.avm_ops.specs.Varint.{number_bytes}
use Rattle.avm_asm.proofs.sizes.number_len.Goals as goal

pub returns : goal.returns
unfolding number_bytes
returns c = c.number_len_within.ensures.value
