-- Names and members that tell of no broken rule are known.
use Rattle.std.proofs.Common.{◌≡◌, ℕ, zero, suc, ◌+◌, ◌<◌, Bool, true, false, List, [], ◌∷◌, length, Option, Some, None, refl, sym, arith}
use Rattle.std.proofs.lemmas.Option.{none-some, same_Some}
use Rattle.std.specs.Prelude.{if◌then◌else◌, slice_get, bytes_eq, codes, ◌&&◌}
use Rattle.puya_base.specs.declared.source.Place.{Place}
use Rattle.puya_base.specs.declared.source.Rule.TheVariants as rule
use Rattle.py_grammar.specs.declared.word.Word.{Word}
use Rattle.algopy_library.specs.declared.scalar.Scalar.{Scalar}
use Rattle.algopy_library.specs.declared.row.Row.{Row}
use Rattle.algopy_library.specs.declared.member.Member.{Member}
use Rattle.algopy_library.specs.declared.member.Member.TheVariants as member
use Rattle.algopy_library.specs.declared.operator.Operation.{Operation}
use Rattle.algopy_library.specs.Members.{member_named}
use Rattle.algopy_library.specs.Packages.{built_in}
use Rattle.algopy_library.specs.Operators.{value_member}
use Rattle.path_rules.specs.declared.note.Note.{Note}
use Rattle.source_names.specs.declared.constant.Constant.{Constant}
use Rattle.source_names.specs.declared.constant.Constant.TheVariants as constant
use Rattle.source_names.specs.declared.named.Thing.{Thing}
use Rattle.source_names.specs.declared.named.Thing.TheVariants as thing
use Rattle.source_names.specs.declared.named.Entry.{Entry}
use Rattle.source_names.specs.Types.{scalar_of}
use Rattle.source_names.specs.Things.{Found, entry_named, found_built_in, found_in_module, module_name, found_member, found_method, method_named, member_of, is_myself}
use Rattle.meaning_rules.specs.declared.meaning.Typed.{Typed}
use Rattle.meaning_rules.specs.declared.meaning.Hope.TheVariants as hope
use Rattle.meaning_rules.specs.declared.meaning.Meaning.{Meaning}
use Rattle.meaning_rules.specs.declared.meaning.Meaning.TheVariants as meaning
use Rattle.meaning_rules.specs.declared.scope.Scope.{Scope}
use Rattle.meaning_rules.specs.declared.scope.Local.{Local}
use Rattle.meaning_rules.specs.declared.scope.Method.{Method}
use Rattle.meaning_rules.specs.declared.scope.Status.{Status}
use Rattle.meaning_rules.specs.declared.scope.Status.TheVariants as status
use Rattle.meaning_rules.specs.Meanings.{Judged, Valued, broken, broken_all, says, breaks, value}
use Rattle.meaning_rules.specs.Operations.{local_from, read_note, read_status, constant_says, member_says, thing_says, found_says, name_beyond, read_name, judge_name, local_of, method_pairs, application_member, thing_member, value_operation, scalar_member, member_when, member_of_value, judge_member}
use Rattle.typing_laws.proofs.Known.{Unbroken, KnownThing, KnownNames, KnownLocals, KnownScope, KnownMeaning, KnownTyped, KnownJudged, KnownValued}
use Rattle.typing_laws.proofs.KnownParts.{not_unbroken, broken_says, says_then, known_breaks, either_known, value_is_known}

-- there is something at a number of a list
pub none_below : {A : Type 0} (xs : List A) (i : ℕ) → i < length xs → slice_get xs i ≡ None → ⊥
none_below [] i h e = omega (arith, h)
none_below (x ∷ xs) zero h e = none-some x (sym e)
none_below (x ∷ xs) (suc i) h e = none_below xs i (omega (arith, h)) e

-- ---- variables

-- the number of a variable is one of the list
local_by : (i k : ℕ) (n : List ℕ) (l : Local) (ls : List Local) (b : Bool) → (local_from (suc i) n ls ≡ Some k → k < suc i + length ls)
    → (if b then Some i else local_from (suc i) n ls) ≡ Some k → k < i + length (l ∷ ls)
local_by i k n l ls true h e = let same = same_Some i k e in omega (arith, same)
local_by i k n l ls false h e = let low = h e in omega (arith, low)

local_below : (i k : ℕ) (n : List ℕ) (ls : List Local) → local_from i n ls ≡ Some k → k < i + length ls
local_below i k n [] e = absurd (none-some k e)
local_below i k n (l ∷ ls) e = local_by i k n l ls (bytes_eq l.name n) (local_below (suc i) k n ls) e

status_known : (s : Scope) (p : Place) (i : ℕ) (l : Local) (o : Status) → KnownLocals s.locals → slice_get s.locals i ≡ Some l → l.status ≡ o → KnownJudged s (read_status p i (Some l))
status_known s p i l status.Unseen k h e = rw e (λ u. absurd (not_unbroken (record { rule = rule.P17; place = p }) (read_note p i) u))
status_known s p i l (status.Fixed None) k h e = absurd (k i l h e)
status_known s p i l (status.Fixed (Some t)) k h e = rw e (λ u. tt)

read_known : (s : Scope) (p : Place) (i : ℕ) (o : Option Local) → KnownLocals s.locals → i < length s.locals → slice_get s.locals i ≡ o → KnownJudged s (read_status p i o)
read_known s p i None k h e = absurd (none_below s.locals i h e)
read_known s p i (Some l) k h e = status_known s p i l l.status k e refl

-- ---- things

constant_known : (s : Scope) (p : Place) (i : ℕ) (o : Option Constant) → KnownNames s → i < length s.constants → slice_get s.constants i ≡ o → KnownJudged s (constant_says p o)
constant_known s p i None k h e = absurd (none_below s.constants i h e)
constant_known s p i (Some (constant.Number n)) k h e = λ u. tt
constant_known s p i (Some (constant.Text b)) k h e = λ u. tt
constant_known s p i (Some (constant.Bytes b)) k h e = λ u. tt
constant_known s p i (Some (constant.Flag b)) k h e = λ u. tt
constant_known s p i (Some constant.Unknown) k h e = absurd (k.constants i constant.Unknown e)

member_says_known : (s : Scope) (p : Place) (m : Member) → KnownJudged s (member_says p m)
member_says_known s p (member.Value q t) = λ u. tt
member_says_known s p (member.Number n) = λ u. tt
member_says_known s p (member.Form f) = λ u. tt
member_says_known s p (member.Application q) = λ u. tt
member_says_known s p member.FromHex = λ u. tt
member_says_known s p (member.Row r) = λ u. tt
member_says_known s p member.LeftOut = λ u. tt

thing_known : (s : Scope) (p : Place) (t : Thing) → KnownNames s → KnownThing s t → KnownJudged s (thing_says s.constants p t)
thing_known s p (thing.Constant i) k h = constant_known s p i (slice_get s.constants i) k h refl
thing_known s p (thing.Member m) k h = member_says_known s p m
thing_known s p thing.Unknown k h = absurd h
thing_known s p (thing.Library r) k h = λ u. tt
thing_known s p (thing.Function i) k h = λ u. h
thing_known s p (thing.Class i) k h = λ u. tt
thing_known s p (thing.Method i) k h = λ u. h
thing_known s p thing.Myself k h = λ u. tt
thing_known s p thing.Variable k h = λ u. tt

-- what is found where no rule is told as broken
abbrev pub KnownFound : Scope → Found → Type 0
KnownFound s f = Unbroken (broken_all f.faults) → KnownThing s f.thing

found_known : (s : Scope) (p : Place) (f : Found) → KnownNames s → KnownFound s f → KnownJudged s (found_says s.constants p f)
found_known s p f k h =
    let t = thing_says s.constants p f.thing in says_then (KnownThing s f.thing) (KnownMeaning s t.meaning) (broken_all f.faults) t.notes h (thing_known s p f.thing k)

-- ---- names

abbrev KnownThingWhen : Scope → Option Thing → Type 0
KnownThingWhen s None = Unit {0}
KnownThingWhen s (Some t) = KnownThing s t

abbrev KnownEntries : Scope → List Entry → Type 0
KnownEntries s es = (i : ℕ) (e : Entry) → slice_get es i ≡ Some e → KnownThing s e.thing

either_thing : (s : Scope) (t : Thing) (o : Option Thing) (b : Bool) → KnownThing s t → KnownThingWhen s o → KnownThingWhen s (if b then Some t else o)
either_thing s t o true g h = g
either_thing s t o false g h = h

entry_known : (s : Scope) (es : List Entry) (n : List ℕ) → KnownEntries s es → KnownThingWhen s (entry_named es n)
entry_known s [] n k = tt
entry_known s (e ∷ es) n k = either_thing s e.thing (entry_named es n) (bytes_eq e.name n) (k 0 e refl) (entry_known s es n (λ i x h. k (suc i) x h))

undefined_known : (P : Type 0) (p : Place) → Unbroken (broken rule.P09 p ∷ []) → P
undefined_known P p u = broken_says P rule.P09 p u

built_in_known : (s : Scope) (p : Place) (o : Option Row) → KnownFound s (found_built_in p o)
built_in_known s p None = undefined_known ⊥ p
built_in_known s p (Some r) = λ u. tt

in_module_known : (s : Scope) (w : Word) (o : Option Thing) → KnownThingWhen s o → KnownFound s (found_in_module w o)
in_module_known s w None k = built_in_known s w.place (built_in w.name)
in_module_known s w (Some t) k = λ u. k

module_known : (s : Scope) (w : Word) → KnownNames s → KnownFound s (module_name s.entries w)
module_known s w k = in_module_known s w (entry_named s.entries w.name) (entry_known s s.entries w.name k.entries)

beyond_known : (s : Scope) (w : Word) → KnownNames s → KnownJudged s (name_beyond s w)
beyond_known s w k =
    either_known s (s.myself && is_myself w.name) (says (meaning.Thing thing.Myself)) (found_says s.constants w.place (module_name s.entries w)) (λ u. tt)
    (found_known s w.place (module_name s.entries w) k (module_known s w k))

read_name_known : (s : Scope) (w : Word) (o : Option ℕ) → KnownScope s → local_of s w.name ≡ o → KnownJudged s (read_name s w o)
read_name_known s w None k e = beyond_known s w k.known
read_name_known s w (Some i) k e = read_known s w.place i (slice_get s.locals i) k.locals (let low = local_below 0 i w.name s.locals e in omega (arith, low)) refl

pub name_known : (s : Scope) (w : Word) → KnownScope s → KnownJudged s (judge_name s w)
name_known s w k = read_name_known s w (local_of s w.name) k refl

-- ---- members of things

application_known : (s : Scope) (p : Place) (m : Member) (w : Word) → KnownJudged s (application_member p m w)
application_known s p (member.Application q) w = either_known s (bytes_eq w.name (codes "id")) _ (breaks rule.P09 w.place) (λ u. tt) (known_breaks s rule.P09 w.place)
application_known s p (member.Value q t) w = known_breaks s rule.P09 w.place
application_known s p (member.Number n) w = known_breaks s rule.P09 w.place
application_known s p (member.Form f) w = known_breaks s rule.P09 w.place
application_known s p member.FromHex w = known_breaks s rule.P09 w.place
application_known s p (member.Row r) w = known_breaks s rule.P09 w.place
application_known s p member.LeftOut w = known_breaks s rule.P09 w.place

found_member_known : (s : Scope) (p : Place) (o : Option Member) → KnownFound s (found_member p o)
found_member_known s p None = undefined_known ⊥ p
found_member_known s p (Some member.LeftOut) = broken_says ⊥ rule.P08 p
found_member_known s p (Some (member.Row r)) = λ u. tt
found_member_known s p (Some (member.Form f)) = λ u. tt
found_member_known s p (Some (member.Value q t)) = λ u. tt
found_member_known s p (Some (member.Number n)) = λ u. tt
found_member_known s p (Some (member.Application q)) = λ u. tt
found_member_known s p (Some member.FromHex) = λ u. tt

abbrev KnownMethods : Scope → List Method → Type 0
KnownMethods s ms = (i : ℕ) (m : Method) → slice_get ms i ≡ Some m → m.function < length s.functions

abbrev InRangeWhen : Scope → Option ℕ → Type 0
InRangeWhen s None = Unit {0}
InRangeWhen s (Some i) = i < length s.functions

either_method : (s : Scope) (i : ℕ) (o : Option ℕ) (b : Bool) → i < length s.functions → InRangeWhen s o → InRangeWhen s (if b then Some i else o)
either_method s i o true g h = g
either_method s i o false g h = h

method_known : (s : Scope) (ms : List Method) (n : List ℕ) → KnownMethods s ms → InRangeWhen s (method_named (method_pairs ms) n)
method_known s [] n k = tt
method_known s (m ∷ ms) n k = either_method s m.function (method_named (method_pairs ms) n) (bytes_eq m.name n) (k 0 m refl) (method_known s ms n (λ i x h. k (suc i) x h))

found_method_known : (s : Scope) (p : Place) (o : Option ℕ) → InRangeWhen s o → KnownFound s (found_method p o)
found_method_known s p None k = undefined_known ⊥ p
found_method_known s p (Some i) k = λ u. k

member_thing_known : (s : Scope) (t : Thing) (w : Word) → KnownNames s → KnownThing s t → KnownFound s (member_of (method_pairs s.methods) t w)
member_thing_known s (thing.Library r) w k h = found_member_known s w.place (member_named r w.name)
member_thing_known s (thing.Member m) w k h = undefined_known ⊥ w.place
member_thing_known s (thing.Constant i) w k h = undefined_known ⊥ w.place
member_thing_known s (thing.Function i) w k h = undefined_known ⊥ w.place
member_thing_known s (thing.Class i) w k h = undefined_known ⊥ w.place
member_thing_known s (thing.Method i) w k h = undefined_known ⊥ w.place
member_thing_known s thing.Myself w k h = found_method_known s w.place (method_named (method_pairs s.methods) w.name) (method_known s s.methods w.name k.methods)
member_thing_known s thing.Variable w k h = undefined_known ⊥ w.place
member_thing_known s thing.Unknown w k h = absurd h

of_thing : (s : Scope) (p : Place) (t : Thing) (w : Word) → KnownNames s → KnownThing s t → KnownJudged s (found_says s.constants p (member_of (method_pairs s.methods) t w))
of_thing s p t w k h = found_known s p (member_of (method_pairs s.methods) t w) k (member_thing_known s t w k h)

thing_member_known : (s : Scope) (p : Place) (t : Thing) (w : Word) → KnownNames s → KnownThing s t → KnownJudged s (thing_member s p t w)
thing_member_known s p (thing.Member m) w k h = application_known s p m w
thing_member_known s p (thing.Library r) w k h = of_thing s p (thing.Library r) w k h
thing_member_known s p thing.Myself w k h = of_thing s p thing.Myself w k h
thing_member_known s p (thing.Constant i) w k h = of_thing s p (thing.Constant i) w k h
thing_member_known s p (thing.Function i) w k h = of_thing s p (thing.Function i) w k h
thing_member_known s p (thing.Class i) w k h = of_thing s p (thing.Class i) w k h
thing_member_known s p (thing.Method i) w k h = of_thing s p (thing.Method i) w k h
thing_member_known s p thing.Variable w k h = of_thing s p thing.Variable w k h
thing_member_known s p thing.Unknown w k h = absurd h

-- ---- members of values

operation_known : (s : Scope) (p q : Place) (t : Typed) (o : Option Operation) → KnownJudged s (value_operation p q t o)
operation_known s p q t None = known_breaks s rule.P09 q
operation_known s p q t (Some o) = λ u. tt

scalar_member_known : (s : Scope) (p : Place) (w : Word) (t : Typed) (o : Option Scalar) → KnownJudged s (scalar_member p w t o)
scalar_member_known s p w t None = known_breaks s rule.P09 w.place
scalar_member_known s p w t (Some o) = operation_known s p w.place t (value_member o w.name)

member_when_known : (s : Scope) (p : Place) (w : Word) (o : Option Typed) → KnownTyped o → KnownJudged s (member_when p w o)
member_when_known s p w None k = absurd k
member_when_known s p w (Some t) k = scalar_member_known s p w t (scalar_of t.ty)

of_value_known : (s : Scope) (p : Place) (w : Word) (v : Valued) → KnownValued v → KnownJudged s (member_of_value p w v)
of_value_known s p w v k =
    let m = member_when p w v.typed in says_then (KnownTyped v.typed) (KnownMeaning s m.meaning) v.notes m.notes k (member_when_known s p w v.typed)

abbrev judged : List Note → Meaning → Judged
judged ns m = record { notes = ns; meaning = m }

member_by : (s : Scope) (p q : Place) (w : Word) (ns : List Note) (m : Meaning) → KnownScope s → KnownJudged s (judged ns m) → KnownJudged s (judge_member s p q w (judged ns m))
member_by s p q w ns (meaning.Thing t) k h =
    let m = thing_member s p t w in says_then (KnownThing s t) (KnownMeaning s m.meaning) ns m.notes h (thing_member_known s p t w k.known)
member_by s p q w ns (meaning.Value t) k h = of_value_known s p w (value hope.Free q (judged ns (meaning.Value t))) (value_is_known s hope.Free q (judged ns (meaning.Value t)) tt h)
member_by s p q w ns (meaning.Literal r l) k h = of_value_known s p w (value hope.Free q (judged ns (meaning.Literal r l))) (value_is_known s hope.Free q (judged ns (meaning.Literal r l)) tt h)
member_by s p q w ns (meaning.Range r) k h = of_value_known s p w (value hope.Free q (judged ns (meaning.Range r))) (value_is_known s hope.Free q (judged ns (meaning.Range r)) tt h)
member_by s p q w ns meaning.Unknown k h = h

pub member_known : (s : Scope) (p q : Place) (w : Word) (j : Judged) → KnownScope s → KnownJudged s j → KnownJudged s (judge_member s p q w j)
member_known s p q w j k h = member_by s p q w j.notes j.meaning k h
