use Rattle.std.proofs.Common.{◌≡◌, ◌++◌, ◌+◌, ◌-◌, length, take, drop, sym, ◌∙◌, ap, arith, length-drop, append_assoc}
use Rattle.std.proofs.Math.Seq.{take-length}
use Rattle.std.proofs.lemmas.List.{drop-drop}
use Rattle.py_lexer.specs.Literals.{read_from, character_len, character_bytes}
use Rattle.py_lexer.proofs.LiteralLaws.{read_on}
use Rattle.py_lexer.proofs.literals.add_contents.Goals as goal

pub loop-at-preserved : goal.loop-at-preserved
loop-at-preserved c =
    let text = c.args.text.now in
    let at = c.loop-at.at in
    let u = c.in-Some.character in
    let bytes = c.args.bytes in
    let whole : take (length text - at) (drop at text) ≡ drop at text = ap (λ q. take q (drop at text)) (sym (length-drop at text)) ∙ take-length (drop at text) in
    let within = rw whole at c.in-Some.ensures.within in
    let on = read_on bytes (drop at text) u (sym (rw whole at c.in-Some.ensures.value)) within.0 ∙ ap (λ q. (character_bytes u ++ (read_from bytes 0 q).0, (read_from bytes 0 q).1)) (drop-drop (character_len u) at text) in
    let len = c.character_len-at.ensures in
    let rest = read_from bytes 0 (drop (at + character_len u) text) in
    record {
      added = rw len (ap (λ q. q ++ rest.0) c.in_ok-add_character-in-Some.ensures ∙ append_assoc c.loop-at.into (character_bytes u) rest.0 ∙ ap (λ q. c.loop-at.into ++ q.0) (sym on) ∙ c.loop-at.invariant.added);
      whole = rw len (ap (λ q. q.1) (sym on) ∙ c.loop-at.invariant.whole);
      within = omega (arith, len, within.1, length-drop at text);
    }
