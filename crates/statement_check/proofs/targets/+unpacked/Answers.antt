use Rattle.statement_check.proofs.Naming.{unpacked_in_parens}
use Rattle.statement_check.proofs.targets.+unpacked.Goals as goal

pub unpacked-returns-in-Paren : goal.unpacked-returns-in-Paren
unpacked-returns-in-Paren t c =
    rw (unpacked_in_parens c.args.tree.now c.in-Paren.field-0 c.in-Paren.items c.as_slice.result.now c.in-Paren.comma c.in-Paren.is c.as_slice.ensures) (c.unpacked_in.ensures c.in-Paren.field-0)
