use Rattle.std.proofs.Common.{◌≡◌, drop}
use Rattle.std.specs.List.{list_all}
use Rattle.teal_line.specs.Operands.{is_label_byte}
use Rattle.teal_line.proofs.labels.is_some_label.Given as goal

abbrev pub invariant-loop-b : goal.invariant-loop-b
invariant-loop-b l = list_all is_label_byte (drop l.b-index l.word) ≡ list_all is_label_byte l.word
