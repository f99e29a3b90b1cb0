-- The earlier of two places, and of two refusals.
use Rattle.std.specs.Prelude.{◌==◌, Bool, if◌then◌else◌, nat_lt, Option, Some, None}
use Rattle.puya_base.specs.declared.source.Place.{Place}
use Rattle.puya_base.specs.declared.source.Refusal.{Refusal}
use Rattle.path_rules.specs.Rules.{number_of}

abbrev pub is_before : Place → Place → Bool
is_before p q = if p.line == q.line then nat_lt p.col q.col else nat_lt p.line q.line

abbrev pub precedes : Refusal → Refusal → Bool
precedes q r =
    if q.place.line == r.place.line
    then (if q.place.col == r.place.col then nat_lt (number_of q.rule) (number_of r.rule) else nat_lt q.place.col r.place.col)
    else nat_lt q.place.line r.place.line

-- the first unless the second is before it
abbrev pub earlier : {A : Type 0} → (A → A → Bool) → Option A → Option A → Option A
earlier {A} is_earlier None b = b
earlier {A} is_earlier (Some p) None = Some p
earlier {A} is_earlier (Some p) (Some q) = if is_earlier q p then Some q else Some p

abbrev pub earlier_place : Option Place → Option Place → Option Place
earlier_place a b = earlier is_before a b

abbrev pub earlier_refusal : Option Refusal → Option Refusal → Option Refusal
earlier_refusal a b = earlier precedes a b
