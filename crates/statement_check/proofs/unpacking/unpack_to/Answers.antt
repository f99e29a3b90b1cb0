use Rattle.std.proofs.Common.{◌≡◌, ◌≤◌, ◌<◌, length, ap, arith}
use Rattle.statement_check.proofs.Single.{to_only}
use Rattle.statement_check.proofs.unpacking.unpack_to.Goals as goal

pub returns-in-len1 : goal.returns-in-len1
returns-in-len1 c =
    let is : length c.as_slice.result.now ≡ length c.args.targets = ap length c.as_slice.ensures in
    to_only c.args.place c.args.targets c.args.first c.args.typed c.unpack_one.result
    (omega (arith, is, c.in-len1.len_at_least)) (omega (arith, is, c.in-len1.len_below)) c.unpack_one.ensures
