use Rattle.std.proofs.Common.{arith}
use Rattle.avm_asm.proofs.Lengths.{length-jumps}
use Rattle.avm_asm.proofs.sizes.imm_len.Goals as goal

pub returns-in-Jumps : goal.returns-in-Jumps
returns-in-Jumps c = let e = length-jumps c.in-Jumps.jumps in rw c.in-Jumps.is (omega (arith, e))
