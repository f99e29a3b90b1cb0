use Rattle.std.proofs.Common.{◌++◌, ap, ◌∙◌}
use Rattle.avm_asm.specs.Listing.{table_opcode}
use Rattle.teal_line.specs.Mnemonics.{name_of}
use Rattle.teal_line.specs.Printing.{spaced, statement_text}
use Rattle.teal_line.specs.declared.statement.Statement.TheVariants.{Table}
use Rattle.teal_line.proofs.SpacedSteps.{appended, table_text}
use Rattle.teal_line.proofs.printing.push_table.Goals as goal

pub returns : goal.returns
returns c =
    let kind = c.args.kind in
    let names = c.args.names.now in
    appended c.args.into.now (name_of (table_opcode kind)) c.extend.new.self (spaced names) c.push_names.new.into (statement_text (Table kind names))
    (c.in_ok-extend.ensures.ok ∙ ap (λ n. c.args.into.now ++ n) (c.name_of.ensures ∙ ap name_of c.table_opcode.ensures))
    c.in_ok-push_names.ensures
    (table_text kind names)
