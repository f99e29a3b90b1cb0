use Rattle.std.proofs.Common.{◌∙◌, ◌++◌, [], ◌∷◌, true, ap}
use Rattle.std.proofs.lemmas.Result.{on_ok_weaker}
use Rattle.path_rules.specs.declared.note.Note.TheVariants as note
use Rattle.source_names.specs.Source.{place_of}
use Rattle.meaning_rules.specs.declared.meaning.Context.{Context}
use Rattle.meaning_rules.specs.Meanings.{context, value, whole_hope}
use Rattle.expression_check.specs.Expressions.{judge}
use Rattle.expression_check.specs.Sights.{seen}
use Rattle.expression_check.specs.Variables.{local_status, status_at}
use Rattle.statement_check.specs.Lines.{exprs_of}
use Rattle.statement_check.specs.Statements.{status_hope}
use Rattle.statement_check.proofs.Fitting.{status_told}
use Rattle.statement_check.proofs.assigning.assign_variable.Goals as goal

pub returns-clause-told : goal.returns-clause-told
returns-clause-told c =
    let s = seen c.args.sight.now c.args.locals.now in
    let e = exprs_of c.args.values.now in
    let st = status_at c.args.locals.now c.args.number in
    let hope = c.in_ok-local_hope.ensures ∙ ap (λ l. status_hope (local_status l)) c.at.ensures in
    let so = c.context-context.ensures ∙ ap (context true) hope in
    on_ok_weaker c.assigned.result
    (status_told st (value (status_hope st) (place_of e) (judge s (context true (status_hope st)) e)) c.in_ok-typed.typed c.args.into.now c.exprs_value.new.into c.assigned.new.into
    (note.Assign c.args.number ∷ [])
    (c.in_ok-typed.ensures.typed ∙ ap (λ (k : Context). (value (whole_hope k.expect) (place_of e) (judge s k e)).typed) so)
    (c.in_ok-typed.ensures.told ∙ ap (λ (k : Context). c.args.into.now ++ (value (whole_hope k.expect) (place_of e) (judge s k e)).notes) so))
    c.assigned.ensures.told
