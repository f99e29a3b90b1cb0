-- Calls are good where what is called and the arguments are.
use Rattle.std.proofs.Common.{◌≡◌, ℕ, List, [], ◌++◌, length, Bool, true, false, Option, Some, None, refl}
use Rattle.std.specs.Prelude.{slice_get}
use Rattle.puya_base.specs.declared.source.Rule.TheVariants as rule
use Rattle.puya_base.specs.declared.source.Place.{Place}
use Rattle.source_names.specs.declared.signature.Signature.{Signature}
use Rattle.source_names.specs.declared.named.Thing.{Thing}
use Rattle.source_names.specs.declared.named.Thing.TheVariants as thing
use Rattle.algopy_library.specs.declared.row.Row.{Row}
use Rattle.algopy_library.specs.declared.row.Row.TheVariants as row
use Rattle.algopy_library.specs.declared.member.Member.{Member}
use Rattle.algopy_library.specs.declared.member.Member.TheVariants as member
use Rattle.meaning_rules.specs.declared.meaning.Typed.{Typed}
use Rattle.meaning_rules.specs.declared.meaning.Lit.{Lit}
use Rattle.meaning_rules.specs.declared.operand.Operand.{Operand}
use Rattle.meaning_rules.specs.declared.operand.Operand.TheVariants.{Value as a_value, Literal as a_literal, Missing as missing}
use Rattle.meaning_rules.specs.declared.meaning.Meaning.TheVariants as meaning
use Rattle.meaning_rules.specs.declared.meaning.Meaning.{Meaning}
use Rattle.meaning_rules.specs.declared.meaning.Hope.{Hope}
use Rattle.meaning_rules.specs.declared.scope.Scope.{Scope}
use Rattle.meaning_rules.specs.Meanings.{Judged, literal, operand_of}
use Rattle.call_rules.specs.declared.callee.Slot.{Slot}
use Rattle.call_rules.specs.declared.callee.Slot.TheVariants.{Wrong as wrong, At as at, Beyond as beyond}
use Rattle.call_rules.specs.declared.arguments.Known.{Known}
use Rattle.call_rules.specs.Calls.{Callee, a_function, a_form, a_type, from_hex, logs, ranges, no_callee, unknown_callee, function_callee, row_callee, member_callee, thing_callee, callee, slot_number, slot_notes, slot_hope, slot_takes, known_value, given_literal, given_operand, only_right, both_known, call_type, call_hex, call_log, call_range, applied, applied_when, call, given, Given, and_given, Bound, results_type}
use Rattle.typing_laws.proofs.Good.{World, Always, Gives, GoodNames, IsResultType, GoodLit, GoodForm, GoodMember, GoodThing, GoodMeaning, GoodJudged, GoodOption, GoodOperand, Reading, KnowsFunction}
use Rattle.typing_laws.proofs.Giving.{reading_broken, gives_none, gives_broken, gives_reading, gives_then, gives_pair, gives_map}
use Rattle.typing_laws.proofs.Meanings.{literal_good, operand_good}
use Rattle.typing_laws.proofs.CallParts.{GoodKnown, GoodKnowns}
use Rattle.typing_laws.proofs.CallForms.{function_good, form_good, log_good}
use Rattle.typing_laws.proofs.CallTypes.{type_good, hex_good, range_good}
use Rattle.typing_laws.proofs.Ordering.{Fresh, Counting}

abbrev pub GoodKnownWhen : World → Option Known → Type 0
GoodKnownWhen w None = Unit {0}
GoodKnownWhen w (Some k) = GoodKnown w k

abbrev pub GoodKnownsWhen : World → Option (List Known) → Type 0
GoodKnownsWhen w None = Unit {0}
GoodKnownsWhen w (Some ks) = GoodKnowns w ks

abbrev pub GoodCallee : World → Callee → Type 0
GoodCallee w (a_function n g) = KnowsFunction w.names.functions n g
GoodCallee w (a_form f) = GoodForm f × IsResultType (results_type f.results f.result)
GoodCallee w _ = Unit {0}

-- each argument has its own parameter
abbrev pub Placed : Callee → List Known → Type 0
Placed (a_function n g) ks = length ks ≡ length g.params → Fresh [] (length g.params) ks
Placed (a_form f) ks = Counting 0 ks
Placed _ ks = Unit {0}

-- ---- what is called

function_callee_good : (w : World) (s : Scope) (n : ℕ) (o : Option Signature) → GoodNames w.names s → slice_get s.functions n ≡ o → GoodCallee w (function_callee n o)
function_callee_good w s n None g e = tt
function_callee_good w s n (Some f) g e = g.functions n f e

row_callee_good : (w : World) (r : Row) → GoodCallee w (row_callee r)
row_callee_good w row.UInt64 = tt
row_callee_good w _ = tt

member_callee_good : (w : World) (m : Member) → GoodMember m → GoodCallee w (member_callee m)
member_callee_good w (member.Form f) h = h
member_callee_good w (member.Value q t) h = tt
member_callee_good w (member.Number n) h = tt
member_callee_good w (member.Application q) h = tt
member_callee_good w member.FromHex h = tt
member_callee_good w (member.Row r) h = tt
member_callee_good w member.LeftOut h = tt

thing_callee_good : (w : World) (s : Scope) (t : Thing) → GoodNames w.names s → GoodThing t → GoodCallee w (thing_callee s.functions t)
thing_callee_good w s (thing.Library r) g h = row_callee_good w r
thing_callee_good w s (thing.Member m) g h = member_callee_good w m h
thing_callee_good w s (thing.Function i) g h = function_callee_good w s i (slice_get s.functions i) g refl
thing_callee_good w s (thing.Method i) g h = function_callee_good w s i (slice_get s.functions i) g refl
thing_callee_good w s thing.Unknown g h = tt
thing_callee_good w s _ g h = tt

pub callee_good : (w : World) (s : Scope) (m : Meaning) → GoodNames w.names s → GoodMeaning w m → GoodCallee w (callee s.functions m)
callee_good w s (meaning.Thing t) g h = thing_callee_good w s t g h
callee_good w s (meaning.Value t) g h = tt
callee_good w s (meaning.Literal q l) g h = tt
callee_good w s (meaning.Range r) g h = tt
callee_good w s meaning.Unknown g h = tt

-- ---- arguments

known_value_good : (w : World) (i : ℕ) (o : Option Typed) → GoodOption w o → GoodKnownWhen w (known_value i o)
known_value_good w i None h = tt
known_value_good w i (Some t) h = h

given_literal_good : (w : World) (b : Bool) (h : Hope) (i : ℕ) (q : Place) (l : Lit) → Gives w (GoodLit l) (given_literal b h i q l).notes (GoodKnownWhen w (given_literal b h i q l).known)
given_literal_good w true h i q l = gives_none w (GoodLit l) (GoodLit l) (λ g. g)
given_literal_good w false h i q l =
    let v = literal h q l in
    gives_map w (GoodLit l) (GoodOption w v.typed) (GoodLit l) (GoodKnownWhen w (known_value i v.typed)) v.notes (λ g. g) (known_value_good w i v.typed) (literal_good w h q l)

given_operand_good : (w : World) (c : Callee) (t : Slot) (o : Operand) → Gives w (GoodOperand w o) (given_operand c t o).notes (GoodKnownWhen w (given_operand c t o).known)
given_operand_good w c t (a_value v) = gives_none w (GoodOperand w (a_value v)) (GoodOperand w (a_value v)) (λ g. g)
given_operand_good w c t (a_literal q l) = given_literal_good w (slot_takes c t) (slot_hope c t) (slot_number t) q l
given_operand_good w c t missing = gives_none w (Unit {0}) (Unit {0}) (λ g. g)

slot_reading : (t : Slot) → Reading (slot_notes t)
slot_reading (wrong r p) = reading_broken r p
slot_reading (at i) = tt
slot_reading beyond = tt

right_good : (w : World) (t : Slot) (o : Option Known) → GoodKnownWhen w o → GoodKnownWhen w (only_right t o)
right_good w (wrong r p) o h = tt
right_good w (at i) o h = h
right_good w beyond o h = h

pub given_good : (w : World) (c : Callee) (t : Slot) (p : Place) (j : Judged) → GoodJudged w Always j → Gives w Always (given c t p j).notes (GoodKnownWhen w (given c t p j).known)
given_good w c t p j g =
    let o = operand_of p j in
    let k = given_operand c t o.operand in
    gives_then w Always Always (GoodKnownWhen w (only_right t k.known)) (slot_notes t) (o.notes ++ k.notes) (gives_reading w Always Always (slot_notes t) (slot_reading t) (λ h. h))
    (gives_map w Always (GoodKnownWhen w k.known) Always (GoodKnownWhen w (only_right t k.known)) (o.notes ++ k.notes) (λ h. h) (right_good w t k.known)
    (gives_then w Always (GoodOperand w o.operand) (GoodKnownWhen w k.known) o.notes k.notes (operand_good w p j g) (given_operand_good w c t o.operand)))

both_known_good : (w : World) (o : Option Known) (r : Option (List Known)) → GoodKnownWhen w o × GoodKnownsWhen w r → GoodKnownsWhen w (both_known o r)
both_known_good w None r h = tt
both_known_good w (Some k) None h = tt
both_known_good w (Some k) (Some ks) h = (h.0, h.1)

pub and_given_good : (w : World) (g : Given) (b : Bound) → Gives w Always g.notes (GoodKnownWhen w g.known) → Gives w Always b.notes (GoodKnownsWhen w b.known)
    → Gives w Always (and_given g b).notes (GoodKnownsWhen w (and_given g b).known)
and_given_good w g b h k =
    gives_map w Always (GoodKnownWhen w g.known × GoodKnownsWhen w b.known) Always (GoodKnownsWhen w (both_known g.known b.known)) (g.notes ++ b.notes) (λ t. t) (both_known_good w g.known b.known)
    (gives_pair w Always (GoodKnownWhen w g.known) (GoodKnownsWhen w b.known) g.notes b.notes h k)

-- ---- calls

known_only : (w : World) (C : Type 0) (ks : List Known) (j : Judged) → Gives w (GoodKnowns w ks) j.notes (GoodMeaning w j.meaning) → Gives w (C × GoodKnowns w ks) j.notes (GoodMeaning w j.meaning)
known_only w C ks j h = gives_map w (GoodKnowns w ks) (GoodMeaning w j.meaning) (C × GoodKnowns w ks) (GoodMeaning w j.meaning) j.notes (λ k. k.1) (λ k. k) h

applied_good : (w : World) (p : Place) (c : Callee) (ks : List Known) → Placed c ks → Gives w (GoodCallee w c × GoodKnowns w ks) (applied p c ks).notes (GoodMeaning w (applied p c ks).meaning)
applied_good w p (a_function n g) ks h = function_good w p n g ks h
applied_good w p (a_form f) ks h = form_good w p f ks h
applied_good w p (a_type s) ks h = known_only w (Unit {0}) ks (call_type p s ks) (type_good w p s ks)
applied_good w p from_hex ks h = known_only w (Unit {0}) ks (call_hex p ks) (hex_good w p ks)
applied_good w p logs ks h = known_only w (Unit {0}) ks (call_log p ks) (log_good w p ks)
applied_good w p ranges ks h = known_only w (Unit {0}) ks (call_range p ks) (range_good w p ks)
applied_good w p no_callee ks h = gives_broken w _ (Unit {0}) rule.P14 p (λ t. tt)
applied_good w p unknown_callee ks h = gives_none w _ (Unit {0}) (λ t. tt)

applied_when_good : (w : World) (p : Place) (c : Callee) (o : Option (List Known)) → ((ks : List Known) → o ≡ Some ks → Placed c ks)
    → Gives w (GoodCallee w c × GoodKnownsWhen w o) (applied_when p c o).notes (GoodMeaning w (applied_when p c o).meaning)
applied_when_good w p c None h = gives_none w _ (Unit {0}) (λ t. tt)
applied_when_good w p c (Some ks) h = applied_good w p c ks (h ks refl)

pub call_good : (w : World) (p : Place) (c : Callee) (b : Bound) → Gives w Always b.notes (GoodKnownsWhen w b.known) → ((ks : List Known) → b.known ≡ Some ks → Placed c ks)
    → Gives w (GoodCallee w c) (call p c b).notes (GoodMeaning w (call p c b).meaning)
call_good w p c b g k =
    let j = applied_when p c b.known in
    gives_then w (GoodCallee w c) (GoodCallee w c × GoodKnownsWhen w b.known) (GoodMeaning w j.meaning) b.notes j.notes
    (record { reading = g.reading; holds = λ h a. (h, g.holds tt a) }) (applied_when_good w p c b.known k)
