use Rattle.std.proofs.Common.{◌≡◌, ℕ, length, sym, arith}
use Rattle.std.specs.Vec.{vec_len}
use Rattle.std.proofs.lemmas.Bool.{eqb-false}
use Rattle.call_rules.proofs.RangeLaws.{ranged-more}
use Rattle.call_rules.proofs.ranges_called.two_or_three.Goals as goal

pub returns : goal.returns
returns c =
    let front = c.pop.new.self in
    ranged-more c.args.front.items front.items c.in-Some.first c.args.second c.args.third c.in-Some.ensures.items
    (λ (e : length front.items ≡ 0). eqb-false (vec_len front) 0 (sym c.if-is_empty.ensures) (omega (arith, e, front.ok.0)))
