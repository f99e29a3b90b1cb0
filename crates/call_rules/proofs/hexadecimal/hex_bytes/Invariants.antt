use Rattle.std.proofs.Common.{◌≡◌, length}
use Rattle.call_rules.specs.Calls as spec
use Rattle.call_rules.proofs.HexLaws.{with_front}
use Rattle.call_rules.proofs.hexadecimal.hex_bytes.Given as goal

abbrev pub invariant-loop-rest : goal.invariant-loop-rest
invariant-loop-rest l = with_front l.bytes (spec.hex_bytes l.rest) ≡ spec.hex_bytes l.fn.text

abbrev pub decreases-loop-rest : goal.decreases-loop-rest
decreases-loop-rest l = length l.rest
