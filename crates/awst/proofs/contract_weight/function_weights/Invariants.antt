use Rattle.std.proofs.Common.{◌≡◌, ◌++◌, drop, map}
use Rattle.awst.specs.Functions.{function_of}
use Rattle.awst.specs.Marks.{weights_of}
use Rattle.awst.proofs.contract_weight.function_weights.Given as goal

abbrev pub invariant-loop-f : goal.invariant-loop-f
invariant-loop-f l = l.weights.items ++ weights_of (map function_of (drop l.f-index l.funcs)) ≡ weights_of (map function_of l.funcs)
