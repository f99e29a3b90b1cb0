use Rattle.std.proofs.Common.{◌+◌, length, arith, leb, refl}
use Rattle.arc4_types.specs.Reading.{unpacked}
use Rattle.arc4_types.specs.Views.{all_told, flags_behind}
use Rattle.arc4_types.proofs.Unpacking.{flag_more}
use Rattle.arc4_types.proofs.head.push_flags.Goals as goal

pub loop-i-preserved : goal.loop-i-preserved
loop-i-preserved c = (
  omega (arith, c.in_ok-push.ensures.len),
  flag_more c.loop-i.entries.items c.push.new.self.items c.flag_entry.result c.loop-i.weight c.args.count c.loop-i.i c.loop-i.left c.without_bit-left.result (leb c.loop-i.weight c.loop-i.left)
      (flags_behind (all_told c.args.entries.now.items) (unpacked 128 c.args.count c.args.byte)) (omega arith) c.flag_entry.ensures refl c.without_bit-left.ensures (cc c.in_ok-push.ensures.items) c.loop-i.invariant.1,
)
