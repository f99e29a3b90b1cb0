use Rattle.std.proofs.Common.{◌≡◌, ◌++◌, Option, length}
use Rattle.puya_base.specs.declared.source.Refusal.{Refusal}
use Rattle.source_headers.specs.Classes.{functions}
use Rattle.type_check.specs.Firsts.{IsFirstOf}
use Rattle.type_check.specs.Placing.{forgetful, in_class}
use Rattle.type_check.specs.Whole.{placed_faults}
use Rattle.type_check.proofs.contracts.judge_methods.Given as goal

abbrev pub invariant-loop-rest : goal.invariant-loop-rest
invariant-loop-rest l = record {
  told : l.found.told ++ placed_faults (in_class l.fn.sight (functions l.rest)) ≡ l.fn.found.told ++ placed_faults (in_class l.fn.sight (functions l.fn.members));
  paths : (b : Option Refusal) → IsFirstOf l.found.paths (in_class l.fn.sight (functions l.rest)) b
      → IsFirstOf l.fn.found.paths (in_class l.fn.sight (functions l.fn.members)) b;
  sight : forgetful l.sight ≡ forgetful l.fn.sight;
}

abbrev pub decreases-loop-rest : goal.decreases-loop-rest
decreases-loop-rest l = length l.rest
