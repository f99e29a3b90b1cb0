use Rattle.std.proofs.Common.{drop}
use Rattle.path_rules.specs.Steps.{in_turn, steps_of, arms_of}
use Rattle.path_rules.specs.Describes.{TogetherWith}
use Rattle.path_rules.proofs.digest.+digest.Given as goal

abbrev pub invariant-digest-loop-note : goal.invariant-digest-loop-note
invariant-digest-loop-note l = TogetherWith l.parts.items (steps_of (drop l.note-index l.notes)) (steps_of l.notes)

abbrev pub invariant-digest_arms-loop-arm : goal.invariant-digest_arms-loop-arm
invariant-digest_arms-loop-arm l = TogetherWith l.parts.items (in_turn (arms_of (drop l.arm-index l.arms))) (in_turn (arms_of l.arms))
