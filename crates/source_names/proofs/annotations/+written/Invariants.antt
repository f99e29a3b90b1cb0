use Rattle.std.proofs.Common.{◌≡◌, ◌++◌, map, drop}
use Rattle.std.specs.Prelude.{◌&&◌}
use Rattle.source_names.specs.Annotations.{arguments}
use Rattle.source_names.specs.Parts.{argument}
use Rattle.source_names.proofs.Writing.{gathered}
use Rattle.source_names.proofs.annotations.+written.Given as goal

abbrev pub invariant-all_arguments-loop-arg : goal.invariant-all_arguments-loop-arg
invariant-all_arguments-loop-arg l = record {
  told : l.into ++ (arguments (map (argument l.names l.variables) (drop l.arg-index l.args))).faults ≡ l.fn.into ++ (arguments (map (argument l.names l.variables) l.args)).faults;
  known : l.arguments.known && (arguments (map (argument l.names l.variables) (drop l.arg-index l.args))).known ≡ (arguments (map (argument l.names l.variables) l.args)).known;
  types : gathered l.arguments.typed l.arguments.types (arguments (map (argument l.names l.variables) (drop l.arg-index l.args))).types ≡ (arguments (map (argument l.names l.variables) l.args)).types;
}
