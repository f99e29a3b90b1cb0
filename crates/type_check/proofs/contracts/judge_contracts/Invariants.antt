use Rattle.std.proofs.Common.{◌≡◌, ◌++◌, Option, length}
use Rattle.puya_base.specs.declared.source.Refusal.{Refusal}
use Rattle.source_headers.specs.Classes.{classes}
use Rattle.type_check.specs.Firsts.{IsFirstOf}
use Rattle.type_check.specs.Placing.{AtModule, in_classes, outside}
use Rattle.type_check.specs.Whole.{contracts, placed_faults}
use Rattle.type_check.proofs.contracts.judge_contracts.Given as goal

abbrev pub invariant-loop-rest : goal.invariant-loop-rest
invariant-loop-rest l = record {
  told : l.found.told ++ placed_faults (in_classes l.fn.sight (contracts l.fn.sight.names (classes l.rest)))
      ≡ l.fn.found.told ++ placed_faults (in_classes l.fn.sight (contracts l.fn.sight.names (classes l.fn.items)));
  paths : (b : Option Refusal) → IsFirstOf l.found.paths (in_classes l.fn.sight (contracts l.fn.sight.names (classes l.rest))) b
      → IsFirstOf l.fn.found.paths (in_classes l.fn.sight (contracts l.fn.sight.names (classes l.fn.items))) b;
  outside : outside l.sight ≡ outside l.fn.sight;
  sight : AtModule l.fn.sight → l.sight ≡ l.fn.sight;
}

abbrev pub decreases-loop-rest : goal.decreases-loop-rest
decreases-loop-rest l = length l.rest
