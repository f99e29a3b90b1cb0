use Rattle.std.proofs.lemmas.Result.{err_from_is_err_and}
use Rattle.avm_asm.proofs.Coding.{line_coded, line_fault}
use Rattle.avm_asm.proofs.Lines.{left_from}
use Rattle.avm_asm.proofs.emit.code_of.Goals as goal

pub returns-in_err-add_line-clause-code : goal.returns-in_err-add_line-clause-code
returns-in_err-add_line-clause-code c =
    let p = err_from_is_err_and c.from_residual-in_err-add_line.result c.from_residual-in_err-add_line.ensures.1 in
    let so_far = rw (left_from c.args.lines.now c.loop-line.line-index c.line-item.result c.loop-line-test.true c.line-item.is) at c.loop-line.invariant in
    rw (p.1, p.2) (line_fault c.in_err-add_line.field-0.0 _ _ _ c.add_line.new.code _ _ so_far c.in_err-add_line.ensures)

pub loop-line-preserved : goal.loop-line-preserved
loop-line-preserved c =
    let so_far = rw (left_from c.args.lines.now c.loop-line.line-index c.line-item.result c.loop-line-test.true c.line-item.is) at c.loop-line.invariant in
    line_coded _ _ _ _ _ _ so_far c.in_ok-add_line.ensures.0 c.in_ok-add_line.ensures.1
