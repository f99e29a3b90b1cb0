use Rattle.std.proofs.Common.{◌≡◌, drop}
use Rattle.path_rules.specs.Steps.{in_turn, steps_of, arms_of}
use Rattle.path_rules.specs.Told.{told_by_all}
use Rattle.path_rules.proofs.told.+told.Given as goal

abbrev pub invariant-told_by-loop-note : goal.invariant-told_by-loop-note
invariant-told_by-loop-note l = told_by_all l.first l.inside (steps_of (drop l.note-index l.notes)) ≡ told_by_all l.initial.first l.inside (steps_of l.notes)

abbrev pub invariant-told_by_arms-loop-arm : goal.invariant-told_by_arms-loop-arm
invariant-told_by_arms-loop-arm l = told_by_all l.first l.inside (in_turn (arms_of (drop l.arm-index l.arms))) ≡ told_by_all l.initial.first l.inside (in_turn (arms_of l.arms))
