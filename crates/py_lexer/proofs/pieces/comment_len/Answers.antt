use Rattle.std.proofs.Common.{◌≡◌, ◌-◌, length, take, drop, sym, ◌∙◌, ap, arith, length-drop}
use Rattle.std.proofs.Math.Seq.{take-length}
use Rattle.std.proofs.lemmas.List.{drop-drop}
use Rattle.py_lexer.specs.Pieces.{comment_len}
use Rattle.py_lexer.proofs.PieceLaws.{comment_on}
use Rattle.py_lexer.proofs.pieces.comment_len.Goals as goal

pub loop-n-preserved : goal.loop-n-preserved
loop-n-preserved c =
    let text = c.args.text.now in
    let n = c.loop-n.n in
    let whole : take (length text - n) (drop n text) ≡ drop n text = ap (λ q. take q (drop n text)) (sym (length-drop n text)) ∙ take-length (drop n text) in
    let value = rw whole at c.line_end_len.ensures.value in
    let on = comment_on (drop n text) (omega (arith, length-drop n text)) (sym value ∙ c.if-line_end_len-eq0.true) in
    let over = ap comment_len (drop-drop 1 n text) in
    record {
      same = omega (arith, on, over, c.loop-n.invariant.same);
      within = omega arith;
    }
