use Rattle.std.proofs.Common.{sym, arith}
use Rattle.serde_json.specs.View.{view}
use Rattle.call_file.proofs.Items.{no_pair}
use Rattle.call_file.proofs.values.pair_of.Goals as goal

pub returns-then-len-ne2 : goal.returns-then-len-ne2
returns-then-len-ne2 c = sym (no_pair (view c.args.value.now) c.in_ok-list.list.now.items (sym c.in_ok-list.ensures) (λ same. c.if-len-ne2.true (omega (arith, c.len.ensures))))
