use Rattle.std.proofs.Common.{◌≡◌, drop, map}
use Rattle.std.specs.List.{list_all}
use Rattle.teal_line.specs.Operands.{is_some_label}
use Rattle.teal_line.proofs.labels.are_labels.Given as goal

abbrev pub invariant-loop-word : goal.invariant-loop-word
invariant-loop-word l = list_all is_some_label (map (λ w. w.now) (drop l.word-index l.words)) ≡ list_all is_some_label (map (λ w. w.now) l.words)
