use Rattle.std.proofs.Common.{◌≡◌, [], length}
use Rattle.source_headers.specs.Classes.{classes}
use Rattle.expression_check.specs.Sights.{seen}
use Rattle.type_check.specs.Placing.{AtModule, contracts_behind}
use Rattle.type_check.specs.Whole as spec
use Rattle.type_check.proofs.assembling.typed_contracts.Given as goal

abbrev pub invariant-loop-rest : goal.invariant-loop-rest
invariant-loop-rest l = record {
  typed : seen l.fn.sight [] ≡ spec.module_scope l.fn.items
      → contracts_behind l.all (spec.typed_contracts l.fn.items (spec.contracts l.fn.sight.names (classes l.rest)))
      ≡ spec.typed_contracts l.fn.items (spec.contracts l.fn.sight.names (classes l.fn.items));
  sight : AtModule l.fn.sight → l.sight ≡ l.fn.sight;
}

abbrev pub decreases-loop-rest : goal.decreases-loop-rest
decreases-loop-rest l = length l.rest
