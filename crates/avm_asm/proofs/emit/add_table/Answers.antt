use Rattle.std.proofs.Common.{arith, ap, length, ◌<◌}
use Rattle.std.proofs.lemmas.List.{length-map}
use Rattle.avm_asm.proofs.Forms.{table_has_form}
use Rattle.avm_asm.proofs.emit.add_table.Goals as goal

pub add_instr-requires : goal.add_instr-requires
add_instr-requires c =
    let e = ap length c.in_ok-jumps.ensures.value.1 in
    let few : length c.in_ok-jumps.jumps < 256 = omega (arith, simp length-map at e, c.requires.few) in
    rw c.table_op-op.ensures (table_has_form c.args.kind c.in_ok-jumps.jumps few c.in_ok-jumps.ensures.near)
