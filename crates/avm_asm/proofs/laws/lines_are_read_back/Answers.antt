use Rattle.avm_asm.proofs.ReadBack.{form_at, read_at}
use Rattle.avm_asm.proofs.laws.lines_are_read_back.Goals as goal

pub returns-clause-read : goal.returns-clause-read
returns-clause-read c = read_at c.spelling_is_read.ensures

pub returns-clause-form : goal.returns-clause-form
returns-clause-form c = form_at
