use Rattle.std.proofs.Common.{arith}
use Rattle.py_lexer.proofs.Settled.{tokens_found, fault_found}
use Rattle.py_lexer.proofs.SpanLaws.{spans, ends_once}
use Rattle.py_lexer.proofs.PlaceLaws.{places}
use Rattle.py_lexer.proofs.scan.tokens.Goals as goal

pub returns-in-Ok-clause-answer : goal.returns-in-Ok-clause-answer
returns-in-Ok-clause-answer c = tokens_found c.order_mark_len-begin.result c.args.source.now c.in-Ok.tokens c.order_mark_len-begin.ensures.value c.in-Ok.ensures

pub returns-in-Ok-clause-spans : goal.returns-in-Ok-clause-spans
returns-in-Ok-clause-spans c =
    spans c.args.source.now c.in-Ok.tokens (omega (arith, c.order_mark_len-begin.ensures.value, c.order_mark_len-begin.ensures.within)) (tokens_found c.order_mark_len-begin.result c.args.source.now c.in-Ok.tokens c.order_mark_len-begin.ensures.value c.in-Ok.ensures)

pub returns-in-Ok-clause-places : goal.returns-in-Ok-clause-places
returns-in-Ok-clause-places c = places c.args.source.now c.in-Ok.tokens (tokens_found c.order_mark_len-begin.result c.args.source.now c.in-Ok.tokens c.order_mark_len-begin.ensures.value c.in-Ok.ensures)

pub returns-in-Ok-clause-last : goal.returns-in-Ok-clause-last
returns-in-Ok-clause-last c = ends_once c.args.source.now c.in-Ok.tokens (tokens_found c.order_mark_len-begin.result c.args.source.now c.in-Ok.tokens c.order_mark_len-begin.ensures.value c.in-Ok.ensures)

pub returns-in-Err-Broken-clause-answer : goal.returns-in-Err-Broken-clause-answer
returns-in-Err-Broken-clause-answer c =
    rw c.refusal.ensures (fault_found c.order_mark_len-begin.result c.args.source.now c.in-Err-Broken.rule c.in-Err-Broken.at c.order_mark_len-begin.ensures.value (rw c.in-Err-Broken.field-0-is at c.in-Err-Broken.ensures))
