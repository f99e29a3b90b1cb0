use Rattle.std.proofs.Common.{rules, FitsSigned}
use Rattle.std.specs.Int.{w16}
use Rattle.std.proofs.lemmas.Int.{to_z-of_z}
use Rattle.avm_asm.proofs.Forms.{jump_has_form}
use Rattle.avm_asm.proofs.emit.add_jump.Goals as goal

pub add_instr-requires : goal.add_instr-requires
add_instr-requires c =
    let fits : FitsSigned w16 c.in_ok-jump.jump = search rules in
    rw (c.jump_op-op.ensures, to_z-of_z) (jump_has_form c.args.kind c.in_ok-jump.jump fits)
