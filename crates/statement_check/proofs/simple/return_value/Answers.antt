use Rattle.std.proofs.Common.{◌∙◌, ◌++◌, [], ◌∷◌, true, ap, append_assoc}
use Rattle.path_rules.specs.declared.note.Note.TheVariants as note
use Rattle.source_names.specs.Source.{place_of}
use Rattle.meaning_rules.specs.declared.meaning.Context.{Context}
use Rattle.meaning_rules.specs.Meanings.{context, fits_when, hoped, value, whole_hope}
use Rattle.expression_check.specs.Expressions.{judge}
use Rattle.expression_check.specs.Sights.{seen}
use Rattle.statement_check.specs.Lines.{exprs_of}
use Rattle.statement_check.proofs.Fitting.{on_ok, two_and_two}
use Rattle.statement_check.proofs.simple.return_value.Goals as goal

pub returns-clause-told : goal.returns-clause-told
returns-clause-told c =
    let s = seen c.args.sight.now c.args.locals.now in
    let e = exprs_of c.args.values.now in
    let h = hoped c.args.gives.now in
    let so = c.context-context.ensures ∙ ap (context true) c.in_ok-hoped.ensures in
    let v = value h (place_of e) (judge s (context true h) e) in
    let typed = c.in_ok-typed.ensures.typed ∙ ap (λ (k : Context). (value (whole_hope k.expect) (place_of e) (judge s k e)).typed) so in
    let fits = c.in_ok-typed-2.ensures.told ∙ ap (λ t. c.exprs_value.new.into ++ (fits_when c.args.gives.now t).notes) typed in
    on_ok c.return_stmt.result
    (two_and_two c.args.into.now v.notes (fits_when c.args.gives.now v.typed).notes (note.Return ∷ []) c.exprs_value.new.into c.note_return.new.into
    (c.in_ok-typed.ensures.told ∙ ap (λ (k : Context). c.args.into.now ++ (value (whole_hope k.expect) (place_of e) (judge s k e)).notes) so)
    (c.in_ok-note_return.ensures ∙ ap (λ z. z ++ note.Return ∷ []) fits ∙ append_assoc c.exprs_value.new.into (fits_when c.args.gives.now v.typed).notes (note.Return ∷ [])))
