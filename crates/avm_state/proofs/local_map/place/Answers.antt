use Rattle.std.proofs.Common.{◌+◌, ◌-◌, ◌/◌, ◌≡◌, arith}
use Rattle.std.specs.declared.cmp.Ordering.TheVariants.{Less, Equal, Greater}
use Rattle.avm_state.specs.KeyLaws.{local_cmp_total}
use Rattle.avm_state.specs.Keys.{local_cmp}
use Rattle.avm_state.proofs.Places.{less_upto, greater_from, found_at, gap_at}
use Rattle.avm_state.proofs.local_map.place.Goals as goal

pub loop-low-preserved-in-Less : goal.loop-low-preserved-in-Less
loop-low-preserved-in-Less c =
    let h : local_cmp c.index-entries-mid.result.0 (c.args.account.now, c.args.key.now) ≡ Less = cc (c.in-Less.ensures) in
    let less = less_upto local_cmp_total (c.args.account.now, c.args.key.now) c.args.entries.now c.requires (c.loop-low.low + (c.loop-low.high - c.loop-low.low) / 2) c.index-entries-mid.result (omega arith) c.index-entries-mid.is h in
    record { ordered = omega arith; within = c.loop-low.invariant.within; less = less; greater = c.loop-low.invariant.greater }

pub loop-low-preserved : goal.loop-low-preserved
loop-low-preserved c =
    let h : local_cmp c.index-entries-mid.result.0 (c.args.account.now, c.args.key.now) ≡ Greater = cc (c.in-Greater.ensures) in
    let greater = greater_from local_cmp_total (c.args.account.now, c.args.key.now) c.args.entries.now c.requires (c.loop-low.low + (c.loop-low.high - c.loop-low.low) / 2) c.index-entries-mid.result (omega arith) c.index-entries-mid.is h in
    record { ordered = omega arith; within = omega arith; less = c.loop-low.invariant.less; greater = greater }

pub returns-in-Equal-clause-found : goal.returns-in-Equal-clause-found
returns-in-Equal-clause-found c =
    let h : local_cmp c.index-entries-mid.result.0 (c.args.account.now, c.args.key.now) ≡ Equal = cc (c.in-Equal.ensures) in
    found_at local_cmp_total (c.args.account.now, c.args.key.now) c.args.entries.now c.requires (c.loop-low.low + (c.loop-low.high - c.loop-low.low) / 2) c.index-entries-mid.result (omega arith) c.index-entries-mid.is h

pub returns-clause-absent : goal.returns-clause-absent
returns-clause-absent c =
    let same : c.loop-low.high ≡ c.loop-low.low = omega arith in
    gap_at local_cmp_total (c.args.account.now, c.args.key.now) c.args.entries.now c.loop-low.low (omega arith) c.loop-low.invariant.less (λ j d a b. c.loop-low.invariant.greater j d (omega arith) b)
