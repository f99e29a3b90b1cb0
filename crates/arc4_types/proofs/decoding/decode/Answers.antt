use Rattle.std.proofs.Common.{◌<◌, arith}
use Rattle.arc4_types.specs.Types.{type_of}
use Rattle.arc4_types.specs.Values.{value_of}
use Rattle.arc4_types.proofs.Whole.{found, only}
use Rattle.arc4_types.proofs.decoding.decode.Goals as goal

pub returns-clause-found : goal.returns-clause-found
returns-clause-found c = found value_of (type_of c.args.ty.now) c.args.bytes.now c.whole.result (λ i. omega (arith, c.type_inv.bytes i)) c.whole.ensures

pub returns-clause-only : goal.returns-clause-only
returns-clause-only c = only value_of (type_of c.args.ty.now) c.args.bytes.now c.whole.result c.whole.ensures
