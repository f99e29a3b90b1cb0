use Rattle.std.proofs.Common.{sym, ◌∙◌, arith}
use Rattle.py_lexer.proofs.PieceLaws.{other_line}
use Rattle.py_lexer.proofs.pieces.line_piece.Goals as goal

pub returns-then-quotes_len-eq0-clause-value : goal.returns-then-quotes_len-eq0-clause-value
returns-then-quotes_len-eq0-clause-value c =
    c.other_piece.ensures.value ∙ sym (other_line c.args.text.now c.requires (omega arith) (sym c.quotes_len.ensures.value ∙ c.if-quotes_len-eq0.true))
