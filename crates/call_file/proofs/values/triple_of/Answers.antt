use Rattle.std.proofs.Common.{sym, arith}
use Rattle.serde_json.specs.View.{view}
use Rattle.call_file.proofs.Items.{no_triple}
use Rattle.call_file.proofs.values.triple_of.Goals as goal

pub returns-then-len-ne3 : goal.returns-then-len-ne3
returns-then-len-ne3 c = sym (no_triple (view c.args.value.now) c.in_ok-list.list.now.items (sym c.in_ok-list.ensures) (λ same. c.if-len-ne3.true (omega (arith, c.len.ensures))))
