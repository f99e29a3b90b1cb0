use Rattle.std.proofs.Common.{◌++◌, ap, ◌∙◌}
use Rattle.py_lexer.specs.Literals.{literal_value}
use Rattle.source_names.proofs.Joining.{joined_next}
use Rattle.source_names.proofs.literals.joined.Goals as goal

pub loop-rest-preserved : goal.loop-rest-preserved
loop-rest-preserved c =
    joined_next c.loop-rest.rest.now c.first-item.result c.loop-rest.bytes c.add_literal.new.into _ c.first-item.is c.in-len1-up.len_at_least
    (c.in_ok-add_literal.ensures.added ∙ ap (λ t. c.loop-rest.bytes ++ (literal_value t).0) c.as_slice.ensures)
    c.loop-rest.invariant
