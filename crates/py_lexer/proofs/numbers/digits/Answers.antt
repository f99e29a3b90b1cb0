use Rattle.std.proofs.Common.{◌≡◌, suc, ◌<◌, [], length, drop, get_or, sym, ◌∙◌, ap, arith, drop-cons}
use Rattle.std.proofs.lemmas.List.{drop_all}
use Rattle.py_lexer.specs.Numbers.{written, if_fitting}
use Rattle.py_lexer.proofs.NumberLaws.{stops, fits}
use Rattle.py_lexer.proofs.numbers.digits.Goals as goal

pub returns-in_default : goal.returns-in_default
returns-in_default c =
    let text = c.args.text.now in
    let i = c.loop-b.b-index in
    let lt : i < length text = omega arith in
    sym (stops c.args.base c.loop-b.value c.loop-b.after_digit (get_or text i 0) c.in_ok-digit.digit (drop (suc i) text) (omega arith) (sym c.if-joins.ensures) (sym c.in_ok-digit.ensures) (sym c.in_default.ensures.value))
    ∙ ap (λ q. if_fitting (written c.args.base c.loop-b.value c.loop-b.after_digit q)) (sym (drop-cons text i 0 lt)) ∙ c.loop-b.invariant.same

pub returns-then-after_digit : goal.returns-then-after_digit
returns-then-after_digit c =
    let text = c.args.text.now in
    let i = c.loop-b.b-index in
    let none : drop i text ≡ [] = drop_all i text (omega arith) in
    sym (fits c.loop-b.value c.loop-b.invariant.fits) ∙ ap (λ q. if_fitting (written c.args.base c.loop-b.value q [])) (sym c.if-after_digit.true)
    ∙ ap (λ q. if_fitting (written c.args.base c.loop-b.value c.loop-b.after_digit q)) (sym none) ∙ c.loop-b.invariant.same
