-- What the arms of an `if` weigh, with the rest behind them, and which functions they call.
use Rattle.std.specs.Prelude.{ℕ, ◌+◌, List, [], ◌∷◌, ◌++◌}
use Rattle.awst.specs.Table.{own_if}
use Rattle.awst.specs.Plain.{Scope, Statement, PlainArm, assigned_in_arms, assigned_scalars, all_plain}
use Rattle.awst.specs.Weight.{ex_weight, sts_weight}
use Rattle.awst.specs.Calls.{ex_called, sts_called}

abbrev pub arms_weight : Scope → ℕ → List PlainArm → List Statement → ℕ
arms_weight scope a [] rest = sts_weight (all_plain scope a rest)
arms_weight scope a (arm ∷ arms) rest =
    (own_if (assigned_scalars scope (assigned_in_arms (arm ∷ arms) rest))).weight + (ex_weight arm.condition + sts_weight (all_plain scope a arm.body) + arms_weight scope a arms rest)

abbrev pub arms_called : Scope → ℕ → List PlainArm → List ℕ
arms_called scope a [] = []
arms_called scope a (arm ∷ arms) = ex_called arm.condition ++ sts_called (all_plain scope a arm.body) ++ arms_called scope a arms
