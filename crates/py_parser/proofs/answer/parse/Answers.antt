use Rattle.std.proofs.Common.{◌≡◌}
use Rattle.py_grammar.specs.Symbols.{symbols}
use Rattle.py_parser.proofs.Parsed.{parsed_at, refused_at}
use Rattle.py_parser.proofs.answer.parse.Goals as goal

pub returns-in-Ok : goal.returns-in-Ok
returns-in-Ok c =
    let same : c.new-cursor.result ≡ symbols c.args.source.now c.args.tokens.now = cc (c.new-cursor.ensures, c.as_slice.ensures.value, c.in_ok-lexemes.ensures) in
    parsed_at c.args.source.now c.args.tokens.now c.new-cursor.result c.in-Ok.found c.module.new.tokens same c.requires.last c.in-Ok.ensures.reads

pub returns : goal.returns
returns c =
    let same : c.new-cursor.result ≡ symbols c.args.source.now c.args.tokens.now = cc (c.new-cursor.ensures, c.as_slice.ensures.value, c.in_ok-lexemes.ensures) in
    rw c.place.ensures (refused_at c.args.source.now c.args.tokens.now c.new-cursor.result c.module.new.tokens same c.requires.last (rw c.in-Err-Syntax.field-0-is at c.in-Err-Syntax.ensures.reads))
