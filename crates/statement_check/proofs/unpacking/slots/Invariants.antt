use Rattle.std.proofs.Common.{◌≡◌, ◌++◌, map, length}
use Rattle.source_names.specs.Source.{tree_of, exs_of}
use Rattle.expression_check.specs.Sights.{seen}
use Rattle.statement_check.specs.Statements as spec
use Rattle.statement_check.proofs.unpacking.slots.Given as goal

abbrev pub invariant-loop-rest : goal.invariant-loop-rest
invariant-loop-rest l = record {
  told : l.into ++ (spec.slots (seen l.sight l.locals) (exs_of (map tree_of l.rest))).notes ≡ l.fn.into ++ (spec.slots (seen l.sight l.locals) (exs_of (map tree_of l.fn.targets))).notes;
  numbers : l.numbers ++ (spec.slots (seen l.sight l.locals) (exs_of (map tree_of l.rest))).numbers ≡ (spec.slots (seen l.sight l.locals) (exs_of (map tree_of l.fn.targets))).numbers;
}

abbrev pub decreases-loop-rest : goal.decreases-loop-rest
decreases-loop-rest l = length l.rest
