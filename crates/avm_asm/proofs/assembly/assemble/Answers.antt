use Rattle.std.proofs.Common.{sym}
use Rattle.std.proofs.lemmas.Result.{err_from_is_err_and}
use Rattle.avm_asm.proofs.Judging.{judged_far, judged_missing, judged_twice}
use Rattle.avm_asm.proofs.assembly.assemble.Goals as goal

pub returns-in_err-places-clause-code : goal.returns-in_err-places-clause-code
returns-in_err-places-clause-code c =
    let p = err_from_is_err_and c.from_residual.result c.from_residual.ensures.1 in
    rw (p.1, p.2, ← c.as_slice-lines.ensures) (judged_twice c.in_err-places.field-0.0 _ c.in_err-places.ensures)

pub returns-in-Some-clause-code : goal.returns-in-Some-clause-code
returns-in-Some-clause-code c = rw (← c.as_slice-lines.ensures) (judged_missing c.in-Some.label c.in_ok-places.places c.as_slice-lines.result.now c.in_ok-places.ensures (sym c.in-Some.ensures))

pub returns-clause-code : goal.returns-clause-code
returns-clause-code c = rw (← c.as_slice-lines.ensures) (judged_far c.code_of.result c.in_ok-places.places c.as_slice-lines.result.now c.in_ok-places.ensures (sym c.in-None.ensures) c.code_of.ensures.code)
