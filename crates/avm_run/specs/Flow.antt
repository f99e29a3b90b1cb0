-- Rows that choose what comes next (AVM specification, "Flow Control").
use Rattle.std.specs.Prelude.{ℕ, ◌-◌, ◌==◌, Bool, true, not, if◌then◌else◌, List, [], ◌∷◌, length, take, slice_get, position, Option, Some, None, option_and_then}
use Rattle.puya_base.specs.declared.value.Value.{Value}
use Rattle.puya_base.specs.declared.value.Value.TheVariants.{Int}
use Rattle.avm_ops.specs.declared.rows.FlowRow.{FlowRow}
use Rattle.avm_ops.specs.declared.rows.FlowRow.TheVariants.{Fail, Assert, Return, BranchIfNotZero, BranchIfZero, Branch, Switch, Match}
use Rattle.avm_run.specs.declared.flow.Way.{Way}
use Rattle.avm_run.specs.declared.flow.Way.TheVariants.{Fails, On, To, Returns}
use Rattle.avm_run.specs.Operands.{is_same}

-- to the target of that number, if the test holds
abbrev pub to_if : Bool → ℕ → Way
to_if test i = if test then To i else On

-- the first of the values that is the same as the last one, which stands on top
abbrev pub first_match : List Value → Option ℕ
first_match vs = option_and_then (λ v. position (λ w. is_same w v) (take (length vs - 1) vs)) (slice_get vs (length vs - 1))

abbrev pub to_match : Option ℕ → Way
to_match None = On
to_match (Some i) = To i

-- the way of a row from its operands, the deepest first
unfoldable pub way : FlowRow → List Value → Way
way Fail vs = Fails
way Assert (Int n ∷ []) = if n == 0 then Fails else On
way Return (v ∷ []) = Returns v
way BranchIfNotZero (Int n ∷ []) = to_if (not (n == 0)) 0
way BranchIfZero (Int n ∷ []) = to_if (n == 0) 0
way Branch [] = To 0
way Switch (Int i ∷ []) = To i
way Match vs = to_match (first_match vs)
way _ _ = Fails
