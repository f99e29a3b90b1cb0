use Rattle.std.proofs.Common.{length}
use Rattle.unbuilt_names.proofs.Order.{first_within}
use Rattle.unbuilt_names.proofs.uses.uses.Goals as goal

pub text-text-requires-clause-within : goal.text-text-requires-clause-within
text-text-requires-clause-within c = first_within c.loop-left.invariant.from (length c.args.source.now) c.loop-left.left.now _ c.in-len1-up.len_at_least c.loop-left.invariant.order
