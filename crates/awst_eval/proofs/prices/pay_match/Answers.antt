use Rattle.std.proofs.Common.{◌≡◌, ◌+◌, ◌*◌, ℕ, arith, subst, OnOk}
use Rattle.runs.specs.Steps.{with_seen}
use Rattle.runs.specs.Seen.{paid}
use Rattle.awst.specs.Capped.{capped}
use Rattle.awst_eval.specs.Worlds.{world_of}
use Rattle.awst_eval.proofs.prices.pay_match.Goals as goal

pub returns : goal.returns
returns c =
    let literals : c.args.literals ≡ capped c.args.literals = omega arith in
    let count : c.args.count ≡ capped c.args.count = omega arith in
    let price = c.match_amounts.ensures.price c.args.literals 0 c.args.count literals count in
    let same = c.in_ok-exact.ensures.1 (48 + 8 * c.args.literals + 8 * c.args.count) price in
    subst (λ (n : ℕ). OnOk c.pay.result (world_of c.pay.new.self ≡ with_seen (world_of c.args.world.now) (paid n (world_of c.args.world.now).seen))) same c.pay.ensures
