use Rattle.std.proofs.Common.{length, get_or, arith}
use Rattle.arc4_types.proofs.Offsets.{fit_later}
use Rattle.arc4_types.specs.Encoding.{offsets_fit}
use Rattle.arc4_types.proofs.joining.offsets_fit.Goals as goal

pub loop-part-preserved : goal.loop-part-preserved
loop-part-preserved c = fit_later c.args.parts.now c.loop-part.part-index c.loop-part.at c.moved_on-at.result c.part-item.result c.in-Later.bytes (offsets_fit c.args.at c.args.parts.now) (omega arith) c.part-item.is c.in-Later.is (omega arith) (cc) c.loop-part.invariant
