use Rattle.std.proofs.Common.{inl, inr, arith}
use Rattle.call_file.proofs.Hex.{within_read, outside_read}
use Rattle.call_file.proofs.values.read_text.Goals as goal
use Rattle.call_file.proofs.values.read_text.Goals.{else-low-size-via-then-low-size+else-size-high, else-low-size-via-else-low-size}

pub returns-then-size-high : goal.returns-then-size-high
returns-then-size-high c = within_read c.args.low c.args.high c.args.text.now _ (omega arith) (omega arith) c.read_hex.ensures

pub returns-else-low-size : goal.returns-else-low-size
returns-else-low-size c = outside_read c.args.low c.args.high c.args.text.now (elim c.else-low-size.branch [
  | else-low-size-via-then-low-size+else-size-high w ↦ inr (omega arith)
  | else-low-size-via-else-low-size w ↦ inl (omega arith)
])
