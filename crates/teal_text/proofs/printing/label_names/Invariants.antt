use Rattle.std.proofs.Common.{◌≡◌, take, map}
use Rattle.avm_run.specs.Bytes.{place, target}
use Rattle.teal_text.specs.Printing.{label_name}
use Rattle.teal_text.proofs.printing.label_names.Given as goal

abbrev pub invariant-loop-offset : goal.invariant-loop-offset
invariant-loop-offset l = l.names ≡ map (λ j. label_name (place (target l.next j))) (take l.offset-index l.offsets)
