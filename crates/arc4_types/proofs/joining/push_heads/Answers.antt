use Rattle.std.proofs.Common.{◌++◌, length, get_or, arith}
use Rattle.arc4_types.proofs.Offsets.{head_later}
use Rattle.arc4_types.specs.Encoding.{heads}
use Rattle.arc4_types.proofs.joining.push_heads.Goals as goal

pub loop-part-preserved : goal.loop-part-preserved
loop-part-preserved c = head_later c.args.parts.now c.loop-part.part-index c.loop-part.at c.moved_on-at.result c.part-item.result c.in-Later.bytes c.loop-part.out c.extend-in-Later.new.self (c.args.out.now ++ heads c.args.at c.args.parts.now) (omega arith) c.part-item.is c.in-Later.is (cc) c.loop-part.invariant.0 (cc c.in_ok-extend-in-Later.ensures.ok) c.loop-part.invariant.1
