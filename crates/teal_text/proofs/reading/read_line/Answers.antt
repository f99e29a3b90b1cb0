use Rattle.std.proofs.Common.{sym, ap, ◌∙◌}
use Rattle.std.specs.Prelude.{map}
use Rattle.teal_text.proofs.TextSteps.{by_words, adds_said, passed_on}
use Rattle.teal_text.proofs.reading.read_line.Goals as goal

pub returns-in_err-said-clause-err : goal.returns-in_err-said-clause-err
returns-in_err-said-clause-err c =
    let o = c.in_ok-words.ensures.ok in
    let f = c.from_residual-in_err-said.ensures in
    let a = c.as_slice.ensures in
    let same = by_words c.args.reading.now.number c.args.reading.now.versioned _ _ o.0 (ap (map (λ w. w.now)) a ∙ o.1) in
    passed_on _ c.in_err-said.field-0.0 _ f.0 f.1 (rw same at c.in_err-said.ensures.due)

pub returns-clause-adds : goal.returns-clause-adds
returns-clause-adds c =
    let o = c.in_ok-words.ensures.ok in
    let a = c.as_slice.ensures in
    adds_said _ c.in_ok-said.said _ _ _ _
    (sym (by_words c.args.reading.now.number c.args.reading.now.versioned _ _ o.0 (ap (map (λ w. w.now)) a ∙ o.1)) ∙ c.in_ok-said.ensures.due)
    c.in_ok-add.ensures.names c.in_ok-add.ensures.lines
