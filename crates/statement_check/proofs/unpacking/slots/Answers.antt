use Rattle.std.proofs.Common.{List, [], ◌∷◌, ◌++◌, map, refl, ap, ◌∙◌}
use Rattle.py_grammar.specs.declared.expression.Tree.{Tree}
use Rattle.source_names.specs.Source.{tree_of, exs_of}
use Rattle.statement_check.specs.Parting.{slot_told, slot_number}
use Rattle.expression_check.specs.Sights.{seen}
use Rattle.statement_check.specs.Statements as spec
use Rattle.statement_check.proofs.Behind.{told_behind}
use Rattle.statement_check.proofs.unpacking.slots.Goals as goal

pub loop-rest-preserved : goal.loop-rest-preserved
loop-rest-preserved c =
    let s = seen c.args.sight.now c.args.locals.now in
    record {
      told = told_behind (λ (ts : List Tree). (spec.slots s (exs_of (map tree_of ts))).notes) (slot_told s (tree_of c.first-item.result))
          c.loop-rest.rest.now c.first-item.result c.loop-rest.into c.slot_of.new.into _ c.first-item.is c.in-len1-up.len_at_least (λ ys. refl)
          c.in_ok-number.ensures.told c.loop-rest.invariant.told;
      numbers = told_behind (λ (ts : List Tree). (spec.slots s (exs_of (map tree_of ts))).numbers) (slot_number s (tree_of c.first-item.result) ∷ [])
          c.loop-rest.rest.now c.first-item.result c.loop-rest.numbers c.push.new.self _ c.first-item.is c.in-len1-up.len_at_least (λ ys. refl)
          (c.in_ok-push.ensures.ok ∙ ap (λ i. c.loop-rest.numbers ++ i ∷ []) c.in_ok-number.ensures.number) c.loop-rest.invariant.numbers;
    }
