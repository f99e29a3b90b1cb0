use Rattle.std.proofs.Common.{sym, ◌∙◌}
use Rattle.call_rules.proofs.HexLaws.{next_pair}
use Rattle.call_rules.proofs.hexadecimal.hex_bytes.Goals as goal

pub loop-rest-preserved : goal.loop-rest-preserved
loop-rest-preserved c =
    next_pair c.loop-rest.bytes c.push.new.self c.loop-rest.rest.now c.in-Some.byte _ c.in-len2-up.len_at_least
    (sym c.pair.ensures ∙ c.in-Some.is) c.in_ok-push.ensures.ok c.loop-rest.invariant
