use Rattle.statement_check.proofs.Naming.{name_in_parens}
use Rattle.statement_check.proofs.targets.+target_name.Goals as goal

pub target_name-returns-in-Paren : goal.target_name-returns-in-Paren
target_name-returns-in-Paren t c =
    rw (name_in_parens c.args.tree.now c.in-Paren.field-0 c.in-Paren.items c.as_slice.result.now c.in-Paren.comma c.in-Paren.is c.as_slice.ensures) (c.name_in.ensures c.in-Paren.field-0)
