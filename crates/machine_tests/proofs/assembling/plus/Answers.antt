use Rattle.std.proofs.Common.{rules}
use Rattle.avm_ops.specs.Table.{row_of, table}
use Rattle.machine_tests.proofs.assembling.plus.Goals as goal

pub returns : goal.returns
unfolding row_of table
returns c = search rules
