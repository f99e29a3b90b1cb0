-- What is called, as a value of the program: a function by its number alone.
use Rattle.std.specs.Prelude.{ℕ, List, ◌++◌, Option, Some, None, slice_get}
use Rattle.source_names.specs.declared.signature.Signature.{Signature}
use Rattle.call_rules.specs.declared.callee.Callee.{Callee as Written}
use Rattle.call_rules.specs.declared.callee.Callee.TheVariants as written
use Rattle.meaning_rules.specs.declared.meaning.Meaning.{Meaning}
use Rattle.meaning_rules.specs.declared.meaning.Hope.{Hope}
use Rattle.meaning_rules.specs.declared.meaning.Hope.TheVariants as hope
use Rattle.puya_base.specs.declared.source.Place.{Place}
use Rattle.py_grammar.specs.declared.word.Word.{Word}
use Rattle.call_rules.specs.declared.callee.Slot.{Slot}
use Rattle.call_rules.specs.declared.callee.Slot.TheVariants.{At as at}
use Rattle.call_rules.specs.declared.slots.Used.{Used}
use Rattle.meaning_rules.specs.Meanings.{operand}
use Rattle.call_rules.specs.Calls.{Callee, a_form, a_type, from_hex, logs, ranges, no_callee, unknown_callee, function_callee, parameter_hope, function_slot, Given, given_operand, only_right}

abbrev pub meant : List Signature → Written → Callee
meant fs (written.Function n) = function_callee n (slice_get fs n)
meant fs (written.Form f) = a_form f
meant fs (written.Type s) = a_type s
meant fs written.FromHex = from_hex
meant fs written.Logs = logs
meant fs written.Ranges = ranges
meant fs written.Nothing = no_callee
meant fs written.Unknown = unknown_callee

abbrev pub function_hope : Option Signature → ℕ → Hope
function_hope None i = hope.Unknown
function_hope (Some s) i = parameter_hope (slice_get s.params i)

abbrev pub slot_of : Option Signature → ℕ → Used → Option Word → Place → Slot
slot_of None i u k p = at i
slot_of (Some s) i u k p = function_slot s i u k p

-- an argument from its meaning, behind the notes on where it stands and on its parts
abbrev pub given_meaning : Callee → Slot → Place → Meaning → Given
given_meaning c s p m =
    let o = operand p m in
    let g = given_operand c s o.operand in
    record { notes = o.notes ++ g.notes; known = only_right s g.known }
