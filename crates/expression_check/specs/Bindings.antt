-- Single parts of expressions: a part of a tuple, an end of a slice, an argument of a call; and the arguments as the code gathers them.
use Rattle.std.specs.Prelude.{ℕ, Bool, true, false, List, [], ◌∷◌, ◌++◌, Option, Some, None}
use Rattle.source_names.specs.Source.{Ex, Maybe, absent, present, OneArg, place_of}
use Rattle.call_rules.specs.declared.arguments.Known.{Known}
use Rattle.meaning_rules.specs.declared.meaning.Context.{Context}
use Rattle.meaning_rules.specs.declared.scope.Scope.{Scope}
use Rattle.call_rules.specs.declared.slots.Used.{Used}
use Rattle.meaning_rules.specs.Meanings.{Valued, context, operand_of, part_hope, value}
use Rattle.meaning_rules.specs.Operations.{Ended, absent_end, end_of}
use Rattle.call_rules.specs.Calls as calls
use Rattle.expression_check.specs.Expressions.{judge}

-- a part of a tuple
abbrev pub part_of : Scope → Context → ℕ → Ex → Valued
part_of s c i e = value (part_hope c.expect i) (place_of e) (judge s (context c.copying (part_hope c.expect i)) e)

-- an end of a slice
abbrev pub end_in_context : Scope → Bool → Context → Maybe → Ended
end_in_context s b c absent = absent_end
end_in_context s b c (present e) = end_of b (operand_of (place_of e) (judge s c e))

-- an argument of a call
abbrev pub given_at : Scope → calls.Callee → ℕ → Used → OneArg → calls.Given
given_at s c i u a =
    let t = calls.slot c i u a.key (place_of a.value) in
    calls.given c t (place_of a.value) (judge s (context true (calls.slot_hope c t)) a.value)

-- which parameters have their argument behind it
abbrev pub used_at : calls.Callee → ℕ → Used → OneArg → Used
used_at c i u a = calls.use_of u (calls.slot c i u a.key (place_of a.value)) a.key

abbrev pub known_with : List Known → Option Known → List Known
known_with ks None = ks
known_with ks (Some k) = ks ++ k ∷ []

abbrev pub complete_with : Bool → Option Known → Bool
complete_with b None = false
complete_with b (Some k) = b
