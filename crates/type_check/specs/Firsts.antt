-- The first of the rules that a module breaks, as the code gathers it.
use Rattle.std.specs.Prelude.{ℕ, ◌≡◌, ◌⊎◌, List, [], ◌∷◌, Option, Some, slice_get}
use Rattle.puya_base.specs.declared.source.Refusal.{Refusal}
use Rattle.path_rules.specs.Order.{earlier_refusal}
use Rattle.path_rules.specs.Rules.{IsFirst}
use Rattle.type_check.specs.Whole.{Placed, BreaksOnPaths}

-- the first of these, and of one that may be there
abbrev pub first_in : Option Refusal → List Refusal → Option Refusal
first_in a [] = a
first_in a (r ∷ rs) = first_in (earlier_refusal a (Some r)) rs

-- what some of these functions break on their paths
abbrev pub BreaksSome : List Placed → Refusal → Type 0
BreaksSome ps r = (i : ℕ) × (p : Placed) × (slice_get ps i ≡ Some p) × BreaksOnPaths p r

-- it is the first of one that may be there and of what these functions break on their paths
abbrev pub IsFirstOf : Option Refusal → List Placed → Option Refusal → Type 0
IsFirstOf a ps b = IsFirst (λ r. (a ≡ Some r) ⊎ BreaksSome ps r) b
