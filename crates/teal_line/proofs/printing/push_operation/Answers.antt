use Rattle.std.proofs.Common.{◌++◌, sym, ap, ◌∙◌}
use Rattle.teal_line.specs.Mnemonics.{name_of}
use Rattle.teal_line.specs.Printing.{spaced, imm_words_in, statement_text}
use Rattle.teal_line.specs.declared.statement.Statement.TheVariants.{Op}
use Rattle.teal_line.proofs.SpacedSteps.{appended, operation_text}
use Rattle.teal_line.proofs.printing.push_operation.Goals as goal

pub returns-in_ok-push_immediates : goal.returns-in_ok-push_immediates
returns-in_ok-push_immediates c =
    let i = c.args.instr.now in
    appended c.args.into.now (name_of i.op) c.extend.new.self (spaced (imm_words_in c.in-Some.row.format i.imm)) c.push_immediates.new.into (statement_text (Op i))
    (c.in_ok-extend.ensures.ok ∙ ap (λ n. c.args.into.now ++ n) c.name_of.ensures)
    c.in_ok-push_immediates.ensures
    (operation_text i c.in-Some.row (sym c.in-Some.ensures))
