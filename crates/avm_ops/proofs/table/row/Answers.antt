-- The two arrays of the rows are the halves of the table, opcode by opcode.
use Rattle.std.proofs.Common.{◌≡◌, ℕ, ◌<◌, ◌≤◌, ◌-◌, None, map, get_or, refl, ap, ◌∙◌, arith}
use Rattle.std.proofs.lemmas.List.FromFn.{get_or-map-range_with_len}
use Rattle.std.specs.List.{range_with_len}
use Rattle.avm_ops.specs.Table.{table, row_of}
use Rattle.avm_ops.specs.declared.table.low.TheConstants.{LOW}
use Rattle.avm_ops.specs.declared.table.high.TheConstants.{HIGH}
use Rattle.avm_ops.proofs.table.row.Goals as goal

low_is : LOW ≡ map row_of (range_with_len 0 128)
unfolding row_of table
low_is = refl

high_is : HIGH ≡ map row_of (range_with_len 128 128)
unfolding row_of table
high_is = refl

in_low : (op : ℕ) → op < 128 → get_or LOW op None ≡ row_of op
in_low op h = ap (λ t. get_or t op None) low_is ∙ get_or-map-range_with_len row_of 0 128 op op None h (omega arith)

in_high : (op : ℕ) → 128 ≤ op → op < 256 → get_or HIGH (op - 128) None ≡ row_of op
in_high op least h =
    ap (λ t. get_or t (op - 128) None) high_is ∙ get_or-map-range_with_len row_of 128 128 (op - 128) op None (omega arith) (omega arith)

pub returns-then-op-lt128 : goal.returns-then-op-lt128
returns-then-op-lt128 c = rw c.from.ensures (in_low c.args.op (omega arith))

pub returns-else-op-lt128 : goal.returns-else-op-lt128
returns-else-op-lt128 c = rw c.from-else-op-lt128.ensures (in_high c.args.op (omega arith) (omega arith))
