use Rattle.std.proofs.Common.{◌≡◌, [], map, drop}
use Rattle.awst.specs.Plain.{arm_of, assigned_in, assigned_in_arms, assigned_in_picks, pick_of, statement_of}
use Rattle.awst.specs.Marks.{marked}
use Rattle.awst.proofs.assigned_rows.+assigned.Given as goal

abbrev pub invariant-mark_body-loop-s : goal.invariant-mark_body-loop-s
invariant-mark_body-loop-s l = marked (assigned_in (map statement_of (drop l.s-index l.body))) l.marks ≡ marked (assigned_in (map statement_of l.body)) l.fn.marks

abbrev pub invariant-mark_arms-loop-arm : goal.invariant-mark_arms-loop-arm
invariant-mark_arms-loop-arm l =
    marked (assigned_in_arms (map arm_of (drop l.arm-index l.arms)) []) l.marks ≡ marked (assigned_in_arms (map arm_of l.arms) []) l.fn.marks

abbrev pub invariant-mark_picks-loop-pick : goal.invariant-mark_picks-loop-pick
invariant-mark_picks-loop-pick l =
    marked (assigned_in_picks (map pick_of (drop l.pick-index l.picks)) []) l.marks ≡ marked (assigned_in_picks (map pick_of l.picks) []) l.fn.marks
