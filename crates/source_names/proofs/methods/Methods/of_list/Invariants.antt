use Rattle.std.proofs.Common.{◌≡◌, ℕ, List, take}
use Rattle.std.specs.Prelude.{map}
use Rattle.std.specs.HashMap.{get_by_text}
use Rattle.source_names.specs.Things.{method_named}
use Rattle.source_names.proofs.methods.Methods.of_list.Given as goal

abbrev pub invariant-loop-method : goal.invariant-loop-method
invariant-loop-method l = (n : List ℕ) → get_by_text l.functions n ≡ method_named (map (λ x. (x.name, x.function)) (take l.method-index l.fn.list)) n
