use Rattle.std.proofs.Common.{◌≡◌, ◌++◌, Option, length}
use Rattle.puya_base.specs.declared.source.Refusal.{Refusal}
use Rattle.type_check.specs.Firsts.{IsFirstOf}
use Rattle.type_check.specs.Placing.{in_module}
use Rattle.type_check.specs.Whole.{module_functions, placed_faults}
use Rattle.type_check.proofs.contracts.judge_functions.Given as goal

abbrev pub invariant-loop-rest : goal.invariant-loop-rest
invariant-loop-rest l = record {
  told : l.found.told ++ placed_faults (in_module l.sight (module_functions l.rest)) ≡ l.fn.found.told ++ placed_faults (in_module l.sight (module_functions l.fn.items));
  paths : (b : Option Refusal) → IsFirstOf l.found.paths (in_module l.sight (module_functions l.rest)) b
      → IsFirstOf l.fn.found.paths (in_module l.sight (module_functions l.fn.items)) b;
}

abbrev pub decreases-loop-rest : goal.decreases-loop-rest
decreases-loop-rest l = length l.rest
