use Rattle.std.proofs.Common.{◌≡◌, ℕ, List, take}
use Rattle.std.specs.HashMap.{get_by_text}
use Rattle.source_names.specs.Things.{names_variable}
use Rattle.meaning_rules.specs.Operations.{local_from}
use Rattle.expression_check.specs.Variables.{local_names}
use Rattle.expression_check.proofs.locals.Locals.new.Given as goal

abbrev pub invariant-loop-local : goal.invariant-loop-local
invariant-loop-local l = record {
  count : l.number ≡ l.local-index;
  numbers : (n : List ℕ) → get_by_text l.numbers n ≡ local_from 0 n (take l.local-index l.fn.list.items);
  names : (n : List ℕ) → names_variable l.names n ≡ names_variable (local_names (take l.local-index l.fn.list.items)) n;
}
