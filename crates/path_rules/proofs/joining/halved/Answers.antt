use Rattle.std.proofs.Common.{◌≡◌, ◌+◌, vec_len, arith}
use Rattle.path_rules.proofs.TogetherLaws.{halving, halving_counts}
use Rattle.path_rules.proofs.joining.halved.Goals as goal

pub loop-second-preserved : goal.loop-second-preserved
loop-second-preserved c =
    let one_less : vec_len c.pop.new.self + 1 ≡ vec_len c.loop-second.parts = c.in-Some.ensures.len in
    let some = c.in-Some.ensures.cases in
    let even = c.loop-second.invariant.even (omega arith) in
    let counts = halving_counts c.pop-first.result (vec_len c.loop-second.halves) (vec_len c.loop-second.parts) (vec_len c.pop.new.self) (vec_len c.pop-first.new.self) (vec_len c.args.parts) c.pop-first.ensures.cases one_less even in
    let more = c.in_ok-push_both.ensures.len in
    record {
      same = λ fs h. halving c.loop-second.parts.items c.pop.new.self.items c.pop-first.new.self.items c.loop-second.halves.items c.push_both.new.into.items c.pop-first.result c.in-Some.second c.in-Some.ensures.items c.pop-first.ensures.items c.in_ok-push_both.ensures.items fs (c.loop-second.invariant.same fs h);
      fewer = omega (arith, more, counts.0);
      even = λ k. omega (arith, more, counts.1 k);
    }
