use Rattle.std.proofs.Common.{◌≡◌, ◌++◌, ap, sym, ◌∙◌, subst, IfOk, OnOk, Option, ℕ}
use Rattle.meaning_rules.specs.Operations.{local_from, read_name}
use Rattle.expression_check.specs.Sights.{seen}
use Rattle.expression_check.proofs.named.judge_name.Goals as goal

pub returns-in-None-clause-told : goal.returns-in-None-clause-told
returns-in-None-clause-told c =
    let none = ap (λ n. local_from 0 n c.args.locals.now) (sym c.as_str.ensures) ∙ sym c.number_of.ensures ∙ c.in-None.is in
    subst (λ (o : Option ℕ). OnOk c.name_beyond.result (c.name_beyond.new.into ≡ c.args.into.now ++ (read_name (seen c.args.sight.now c.args.locals.now) c.args.word.now o).notes))
    (sym none) (c.name_beyond.ensures.told c.args.locals.now)

pub returns-in-None-clause-meaning : goal.returns-in-None-clause-meaning
returns-in-None-clause-meaning c =
    let none = ap (λ n. local_from 0 n c.args.locals.now) (sym c.as_str.ensures) ∙ sym c.number_of.ensures ∙ c.in-None.is in
    subst (λ (o : Option ℕ). IfOk c.name_beyond.result (λ m. m ≡ (read_name (seen c.args.sight.now c.args.locals.now) c.args.word.now o).meaning))
    (sym none) (c.name_beyond.ensures.meaning c.args.locals.now)
