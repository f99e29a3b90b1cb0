-- What is called and the arguments of a call are known, where they tell of no broken rule.
use Rattle.std.proofs.Common.{◌≡◌, ℕ, zero, suc, ◌<◌, Bool, true, false, List, [], ◌∷◌, ◌++◌, length, Option, Some, None, refl}
use Rattle.std.specs.Prelude.{if◌then◌else◌, nat_lt, slice_get}
use Rattle.puya_base.specs.declared.source.Place.{Place}
use Rattle.algopy_library.specs.declared.scalar.Scalar.TheVariants as scalar
use Rattle.algopy_library.specs.declared.row.Row.{Row}
use Rattle.algopy_library.specs.declared.row.Row.TheVariants as row
use Rattle.algopy_library.specs.declared.form.Admits.{Admits}
use Rattle.algopy_library.specs.declared.form.Admits.TheVariants as class
use Rattle.algopy_library.specs.declared.member.Member.{Member}
use Rattle.algopy_library.specs.declared.member.Member.TheVariants as member
use Rattle.algopy_library.specs.Forms.{admitted}
use Rattle.source_names.specs.declared.types.SourceType.{SourceType}
use Rattle.source_names.specs.declared.types.SourceType.TheVariants as ty
use Rattle.source_names.specs.declared.named.Thing.{Thing}
use Rattle.source_names.specs.declared.named.Thing.TheVariants as thing
use Rattle.source_names.specs.declared.signature.Parameter.{Parameter}
use Rattle.source_names.specs.declared.signature.Signature.{Signature}
use Rattle.meaning_rules.specs.declared.meaning.Hope.{Hope}
use Rattle.meaning_rules.specs.declared.meaning.Hope.TheVariants as hope
use Rattle.meaning_rules.specs.declared.meaning.Lit.{Lit}
use Rattle.meaning_rules.specs.declared.meaning.Typed.{Typed}
use Rattle.meaning_rules.specs.declared.meaning.Meaning.{Meaning}
use Rattle.meaning_rules.specs.declared.meaning.Meaning.TheVariants as meaning
use Rattle.meaning_rules.specs.declared.operand.Operand.{Operand}
use Rattle.meaning_rules.specs.declared.operand.Operand.TheVariants.{Value as a_value, Literal as a_literal, Missing as missing}
use Rattle.meaning_rules.specs.declared.scope.Scope.{Scope}
use Rattle.meaning_rules.specs.Meanings.{Judged, literal, operand_of, hoped}
use Rattle.call_rules.specs.declared.callee.Slot.{Slot}
use Rattle.call_rules.specs.declared.callee.Slot.TheVariants.{Wrong as wrong, At as at, Beyond as beyond}
use Rattle.call_rules.specs.declared.arguments.Known.{Known}
use Rattle.call_rules.specs.Calls.{Callee, a_function, a_form, a_type, from_hex, logs, ranges, no_callee, unknown_callee, function_callee, row_callee, member_callee, thing_callee, callee, admits_hope, parameter_hope, hope_at, slot_hope, slot_takes, slot_number, slot_notes, Given, known_value, given_literal, given_operand, only_right, given, both_known, Bound, and_given}
use Rattle.typing_laws.proofs.Known.{Unbroken, IsHope, KnownThing, KnownNames, IsKnownType, KnownParams, KnownSignature, KnownMeaning, KnownOperand, KnownTyped, KnownJudged}
use Rattle.typing_laws.proofs.KnownParts.{unbroken_front, unbroken_behind, broken_says, says_then, says_both, literal_known, operand_is_known}
use Rattle.typing_laws.proofs.KnownReads.{none_below}

-- ---- what is called

abbrev pub KnownCallee : Callee → Type 0
KnownCallee (a_function n g) = KnownSignature g
KnownCallee unknown_callee = ⊥
KnownCallee _ = Unit {0}

function_known : (s : Scope) (i : ℕ) (o : Option Signature) → KnownNames s → i < length s.functions → slice_get s.functions i ≡ o → KnownCallee (function_callee i o)
function_known s i None k h e = absurd (none_below s.functions i h e)
function_known s i (Some g) k h e = k.functions i g e

row_known : (r : Row) → KnownCallee (row_callee r)
row_known row.UInt64 = tt
row_known row.Bool = tt
row_known row.Bytes = tt
row_known row.Text = tt
row_known row.Log = tt
row_known row.Urange = tt
row_known _ = tt

member_callee_known : (m : Member) → KnownCallee (member_callee m)
member_callee_known (member.Form f) = tt
member_callee_known member.FromHex = tt
member_callee_known _ = tt

thing_callee_known : (s : Scope) (t : Thing) → KnownNames s → KnownThing s t → KnownCallee (thing_callee s.functions t)
thing_callee_known s (thing.Library r) k h = row_known r
thing_callee_known s (thing.Member m) k h = member_callee_known m
thing_callee_known s (thing.Function i) k h = function_known s i (slice_get s.functions i) k h refl
thing_callee_known s (thing.Method i) k h = function_known s i (slice_get s.functions i) k h refl
thing_callee_known s thing.Unknown k h = absurd h
thing_callee_known s _ k h = tt

pub callee_known : (s : Scope) (m : Meaning) → KnownNames s → KnownMeaning s m → KnownCallee (callee s.functions m)
callee_known s (meaning.Thing t) k h = thing_callee_known s t k h
callee_known s (meaning.Value t) k h = tt
callee_known s (meaning.Literal q l) k h = tt
callee_known s (meaning.Range r) k h = tt
callee_known s meaning.Unknown k h = absurd h

-- ---- what is hoped of an argument

-- a parameter, where there is one
abbrev pub KnownParamWhen : Option Parameter → Type 0
KnownParamWhen None = Unit {0}
KnownParamWhen (Some p) = IsKnownType p.ty

pub param_known : (ps : List Parameter) (i : ℕ) → KnownParams ps → KnownParamWhen (slice_get ps i)
param_known [] i k = tt
param_known (p ∷ ps) zero k = k.0
param_known (p ∷ ps) (suc i) k = param_known ps i k.1

hoped_is : (t : Option SourceType) → IsKnownType t → IsHope (hoped t)
hoped_is None k = absurd k
hoped_is (Some t) k = tt

parameter_hope_is : (o : Option Parameter) → KnownParamWhen o → IsHope (parameter_hope o)
parameter_hope_is None k = tt
parameter_hope_is (Some p) k = hoped_is p.ty k

admits_hope_is : (a : Admits) → IsHope (admits_hope a)
admits_hope_is class.Number = tt
admits_hope_is class.Bytes = tt
admits_hope_is class.Either = tt
admits_hope_is class.Nothing = tt

range_by : (b : Bool) → IsHope (if b then hope.Wants (ty.Scalar scalar.UInt64) else hope.Free)
range_by true = tt
range_by false = tt

hope_at_is : (c : Callee) (i : ℕ) → KnownCallee c → IsHope (hope_at c i)
hope_at_is (a_function n g) i k = parameter_hope_is (slice_get g.params i) (param_known g.params i k.0)
hope_at_is (a_form f) i k = admits_hope_is (admitted f i)
hope_at_is (a_type t) i k = tt
hope_at_is from_hex i k = tt
hope_at_is logs i k = tt
hope_at_is ranges i k = range_by (nat_lt i 2)
hope_at_is no_callee i k = tt
hope_at_is unknown_callee i k = absurd k

abbrev IsRight : Slot → Type 0
IsRight (wrong r p) = ⊥
IsRight _ = Unit {0}

slot_right : (t : Slot) → Unbroken (slot_notes t) → IsRight t
slot_right (wrong r p) = broken_says ⊥ r p
slot_right (at i) = λ u. tt
slot_right beyond = λ u. tt

slot_hope_is : (c : Callee) (t : Slot) → KnownCallee c → IsRight t → IsHope (slot_hope c t)
slot_hope_is c (wrong r p) k h = absurd h
slot_hope_is c (at i) k h = hope_at_is c i k
slot_hope_is c beyond k h = tt

-- ---- arguments

abbrev pub KnownGiven : Given → Type 0
KnownGiven g = Unbroken g.notes → KnownTyped g.known

abbrev pub KnownBound : Bound → Type 0
KnownBound b = Unbroken b.notes → KnownTyped b.known

value_given : (i : ℕ) (o : Option Typed) → KnownTyped o → KnownTyped (known_value i o)
value_given i None k = absurd k
value_given i (Some t) k = tt

literal_given : (b : Bool) (h : Hope) (i : ℕ) (q : Place) (l : Lit) → IsHope h → KnownGiven (given_literal b h i q l)
literal_given true h i q l k u = tt
literal_given false h i q l k u = value_given i (literal h q l).typed (literal_known h q l k u)

operand_given : (c : Callee) (t : Slot) (o : Operand) → IsHope (slot_hope c t) → KnownOperand o → KnownGiven (given_operand c t o)
operand_given c t (a_value v) h k = λ u. tt
operand_given c t (a_literal q l) h k = literal_given (slot_takes c t) (slot_hope c t) (slot_number t) q l h
operand_given c t missing h k = absurd k

right_given : (t : Slot) (o : Option Known) → IsRight t → KnownTyped o → KnownTyped (only_right t o)
right_given (wrong r p) o h k = absurd h
right_given (at i) o h k = k
right_given beyond o h k = k

pub given_known : (s : Scope) (c : Callee) (t : Slot) (p : Place) (j : Judged) → KnownCallee c → (IsHope (slot_hope c t) → KnownJudged s j) → KnownGiven (given c t p j)
given_known s c t p j k h u =
    let o = operand_of p j in let g = given_operand c t o.operand in
    let right = slot_right t (unbroken_front (slot_notes t) (o.notes ++ g.notes) u) in
    let hoped = slot_hope_is c t k right in
    right_given t g.known right
    (says_then (KnownOperand o.operand) (KnownTyped g.known) o.notes g.notes (operand_is_known s p j (h hoped)) (operand_given c t o.operand hoped) (unbroken_behind (slot_notes t) (o.notes ++ g.notes) u))

both_are_known : (o : Option Known) (r : Option (List Known)) → KnownTyped o × KnownTyped r → KnownTyped (both_known o r)
both_are_known (Some k) (Some ks) h = tt
both_are_known (Some k) None h = absurd h.1
both_are_known None r h = absurd h.0

pub and_given_known : (g : Given) (b : Bound) → KnownGiven g → KnownBound b → KnownBound (and_given g b)
and_given_known g b h k u = both_are_known g.known b.known (says_both (KnownTyped g.known) (KnownTyped b.known) g.notes b.notes h k u)
