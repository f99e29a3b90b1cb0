use Rattle.std.proofs.Common.{arith}
use Rattle.std.proofs.lemmas.List.{drop_all}
use Rattle.avm_asm.proofs.Lengths.{counted_whole}
use Rattle.avm_asm.proofs.sizes.size.Goals as goal

pub returns : goal.returns
returns c =
    let e = drop_all c.loop-line.line-index c.as_slice-line-items.result.now (omega arith) in
    let i = rw e at c.loop-line.invariant.0 in
    counted_whole _ _ c.loop-line.invariant.1 i
