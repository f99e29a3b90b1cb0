use Rattle.std.proofs.Common.{[], ap, ◌∙◌}
use Rattle.expression_check.specs.Sights.{seen}
use Rattle.type_check.specs.Functions.{end_of, notes_of}
use Rattle.type_check.specs.Placing.{placed}
use Rattle.type_check.proofs.FirstOnes.{first_placed}
use Rattle.type_check.proofs.contracts.judge_placed.Goals as goal

pub returns-clause-paths : goal.returns-clause-paths
returns-clause-paths c =
    first_placed c.args.found.now.paths c.in_ok-first.first c.earlier-found.result (placed c.args.sight.now c.args.inside c.args.func.now) c.in_ok-notes.field-0.notes c.in_ok-notes.field-0.end
    (c.in_ok-notes.ensures.notes ∙ ap (λ g. notes_of (seen c.args.sight.now []) c.args.inside g c.args.func.now) c.in_ok-signature.ensures)
    (c.in_ok-notes.ensures.end ∙ ap (λ g. end_of g c.args.func.now) c.in_ok-signature.ensures)
    c.in_ok-first.ensures c.earlier-found.ensures
