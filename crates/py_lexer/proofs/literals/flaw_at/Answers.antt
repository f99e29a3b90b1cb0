use Rattle.std.proofs.Common.{◌≡◌, ◌-◌, length, take, drop, sym, ◌∙◌, ap, arith, length-drop}
use Rattle.std.proofs.Math.Seq.{take-length}
use Rattle.std.proofs.lemmas.List.{drop-drop}
use Rattle.py_lexer.specs.Literals.{flaw_from, character_len}
use Rattle.py_lexer.proofs.LiteralLaws.{flaw_on}
use Rattle.py_lexer.proofs.literals.flaw_at.Goals as goal

pub loop-at-preserved : goal.loop-at-preserved
loop-at-preserved c =
    let text = c.args.text.now in
    let at = c.loop-at.at in
    let u = c.in-Some.character in
    let whole : take (length text - at) (drop at text) ≡ drop at text = ap (λ q. take q (drop at text)) (sym (length-drop at text)) ∙ take-length (drop at text) in
    let within = rw whole at c.in-Some.ensures.within in
    let on = flaw_on c.args.bytes (drop at text) u (sym (rw whole at c.in-Some.ensures.value)) within.0 within.1 in
    let over = ap (λ q. flaw_from c.args.bytes 0 q) (drop-drop (character_len u) at text) in
    let len = c.character_len-at.ensures in
    record {
      same = rw len (omega (arith, on, over, c.loop-at.invariant.same));
      within = omega (arith, len, within.1, length-drop at text);
    }
