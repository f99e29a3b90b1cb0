use Rattle.std.proofs.Common.{◌≡◌, ℕ, ◌++◌, drop, map}
use Rattle.awst.specs.Arms.{arms_called}
use Rattle.awst.specs.Calls.{picks_called, sts_called}
use Rattle.awst.specs.Plain.{Scope, all_plain, arm_of, pick_of, picks_plain, statement_of}
use Rattle.awst.proofs.calls.+calls.Given as goal

abbrev pub invariant-push_body_calls-loop-s : goal.invariant-push_body_calls-loop-s
invariant-push_body_calls-loop-s l =
    (scope : Scope) (a : ℕ) → l.calls.items ++ sts_called (all_plain scope a (map statement_of (drop l.s-index l.body))) ≡ l.fn.calls.items ++ sts_called (all_plain scope a (map statement_of l.body))

abbrev pub invariant-push_arms_calls-loop-arm : goal.invariant-push_arms_calls-loop-arm
invariant-push_arms_calls-loop-arm l =
    (scope : Scope) (a : ℕ) → l.calls.items ++ arms_called scope a (map arm_of (drop l.arm-index l.arms)) ≡ l.fn.calls.items ++ arms_called scope a (map arm_of l.arms)

abbrev pub invariant-push_picks_calls-loop-pick : goal.invariant-push_picks_calls-loop-pick
invariant-push_picks_calls-loop-pick l =
    (scope : Scope) (a : ℕ) → l.calls.items ++ picks_called (picks_plain scope a (map pick_of (drop l.pick-index l.picks))) ≡ l.fn.calls.items ++ picks_called (picks_plain scope a (map pick_of l.picks))
