-- Names and members are good where their scope is.
use Rattle.std.proofs.Common.{◌≡◌, ◌∙◌, ℕ, unwrap_or, Bool, true, false, List, [], ◌∷◌, Option, Some, None, refl, sym, ap, subst}
use Rattle.std.specs.Prelude.{if◌then◌else◌, slice_get, bytes_eq, codes, ◌&&◌}
use Rattle.puya_base.specs.declared.source.Place.{Place}
use Rattle.puya_base.specs.declared.source.Rule.TheVariants as rule
use Rattle.py_grammar.specs.declared.word.Word.{Word}
use Rattle.algopy_library.specs.declared.scalar.Scalar.{Scalar}
use Rattle.algopy_library.specs.declared.scalar.Scalar.TheVariants as scalar
use Rattle.algopy_library.specs.declared.row.Row.{Row}
use Rattle.algopy_library.specs.declared.member.Member.{Member}
use Rattle.algopy_library.specs.declared.member.Member.TheVariants as member
use Rattle.algopy_library.specs.declared.operator.Operation.{Operation}
use Rattle.algopy_library.specs.Members.{member_named}
use Rattle.algopy_library.specs.Packages.{built_in}
use Rattle.algopy_library.specs.Operators.{value_member}
use Rattle.path_rules.specs.declared.note.Note.{Note}
use Rattle.source_names.specs.declared.types.SourceType.TheVariants as ty
use Rattle.source_names.specs.declared.constant.Constant.{Constant}
use Rattle.source_names.specs.declared.constant.Constant.TheVariants as constant
use Rattle.source_names.specs.declared.named.Thing.{Thing}
use Rattle.source_names.specs.declared.named.Thing.TheVariants as thing
use Rattle.source_names.specs.declared.named.Entry.{Entry}
use Rattle.source_names.specs.Types.{scalar_of}
use Rattle.source_names.specs.Things.{Found, entry_named, found_built_in, found_in_module, module_name, found_member, found_method, method_named, member_of, is_myself}
use Rattle.meaning_rules.specs.declared.meaning.Typed.{Typed}
use Rattle.meaning_rules.specs.declared.meaning.Hope.TheVariants as hope
use Rattle.meaning_rules.specs.declared.meaning.Meaning.{Meaning}
use Rattle.meaning_rules.specs.declared.meaning.Meaning.TheVariants as meaning
use Rattle.meaning_rules.specs.declared.scope.Scope.{Scope}
use Rattle.meaning_rules.specs.declared.scope.Local.{Local}
use Rattle.meaning_rules.specs.declared.scope.Status.{Status}
use Rattle.meaning_rules.specs.declared.scope.Status.TheVariants as status
use Rattle.meaning_rules.specs.Meanings.{Judged, Valued, broken, broken_all, says, breaks, value}
use Rattle.meaning_rules.specs.Operations.{read_note, read_status, constant_says, member_says, thing_says, found_says, name_beyond, read_name, judge_name, local_of, method_pairs, application_member, thing_member, value_operation, scalar_member, member_when, member_of_value, judge_member}
use Rattle.typing_laws.proofs.Good.{World, Always, Gives, value_type, GoodTyped, GoodOption, IsKeptType, GoodMember, GoodThing, GoodMeaning, GoodJudged, GoodValued, GoodEntries, GoodConstants, GoodScope}
use Rattle.typing_laws.proofs.Giving.{reading_append, reading_broken, reading_broken_all, reading_read, read_allowed, gives_none, gives_broken, gives_reading, gives_then}
use Rattle.typing_laws.proofs.TypeLaws.{scalar_type, scalar_value_is}
use Rattle.typing_laws.proofs.Nodes.{number_good, flag_good, local_good, prim_good, scalar_kept}
use Rattle.typing_laws.proofs.Meanings.{value_good}
use Rattle.typing_laws.proofs.Members.{member_named_good}
use Rattle.typing_laws.proofs.Fitting.{either_good, FitsWhen, member_fits, operation_good}

-- ---- variables

status_good : (w : World) (s : Scope) (p : Place) (i : ℕ) (l : Local) (o : Status) → GoodScope w.names s → slice_get s.locals i ≡ Some l → l.status ≡ o → GoodJudged w Always (read_status p i (Some l))
status_good w s p i l status.Unseen g h e =
    rw e (gives_reading w _ _ _ (reading_append (broken rule.P17 p ∷ []) (read_note p i) (reading_broken rule.P17 p) (reading_read i p)) (λ z. tt))
status_good w s p i l (status.Fixed None) g h e = rw e (gives_reading w _ _ _ (reading_read i p) (λ z. tt))
status_good w s p i l (status.Fixed (Some u)) g h e =
    let seen = g.locals i l (Some u) h e in
    let same : seen.ty ≡ u = ap (λ z. unwrap_or z u) (sym seen.is) in
    rw e (record {
      reading = reading_read i p;
      holds = λ z a. local_good w p u i (seen.at ∙ ap (λ z. Some (value_type z)) same) (read_allowed w.reads i p [] a) (subst IsKeptType same seen.kept);
    })

read_good : (w : World) (s : Scope) (p : Place) (i : ℕ) (o : Option Local) → GoodScope w.names s → slice_get s.locals i ≡ o → GoodJudged w Always (read_status p i o)
read_good w s p i None g h = gives_none w _ _ (λ z. tt)
read_good w s p i (Some l) g h = status_good w s p i l l.status g h refl

-- ---- things

constant_good : (w : World) (cs : List Constant) (p : Place) (i : ℕ) (o : Option Constant) → GoodConstants cs → slice_get cs i ≡ o → GoodJudged w Always (constant_says p o)
constant_good w cs p i None g h = gives_none w _ _ (λ z. tt)
constant_good w cs p i (Some (constant.Number n)) g h = gives_none w _ _ (λ z. tt)
constant_good w cs p i (Some (constant.Text b)) g h = gives_none w _ _ (λ z. g i (constant.Text b) h)
constant_good w cs p i (Some (constant.Bytes b)) g h = gives_none w _ _ (λ z. g i (constant.Bytes b) h)
constant_good w cs p i (Some (constant.Flag b)) g h = gives_none w _ _ (λ z. flag_good w p b)
constant_good w cs p i (Some constant.Unknown) g h = gives_none w _ _ (λ z. tt)

member_says_good : (w : World) (p : Place) (m : Member) → GoodMember m → GoodJudged w Always (member_says p m)
member_says_good w p (member.Value q t) g = gives_none w _ _ (λ z. prim_good w p (ty.Scalar t) q [] tt g (scalar_kept t))
member_says_good w p (member.Number n) g = gives_none w _ _ (λ z. number_good w p n)
member_says_good w p (member.Form f) g = gives_none w _ _ (λ z. g)
member_says_good w p (member.Application q) g = gives_none w _ _ (λ z. g)
member_says_good w p member.FromHex g = gives_none w _ _ (λ z. tt)
member_says_good w p (member.Row r) g = gives_none w _ _ (λ z. tt)
member_says_good w p member.LeftOut g = gives_none w _ _ (λ z. tt)

thing_good : (w : World) (cs : List Constant) (p : Place) (t : Thing) → GoodConstants cs → GoodThing t → GoodJudged w Always (thing_says cs p t)
thing_good w cs p (thing.Constant i) c g = constant_good w cs p i (slice_get cs i) c refl
thing_good w cs p (thing.Member m) c g = member_says_good w p m g
thing_good w cs p thing.Unknown c g = gives_none w _ _ (λ z. tt)
thing_good w cs p (thing.Library r) c g = gives_none w _ _ (λ z. tt)
thing_good w cs p (thing.Function i) c g = gives_none w _ _ (λ z. tt)
thing_good w cs p (thing.Class i) c g = gives_none w _ _ (λ z. tt)
thing_good w cs p (thing.Method i) c g = gives_none w _ _ (λ z. tt)
thing_good w cs p thing.Myself c g = gives_none w _ _ (λ z. tt)
thing_good w cs p thing.Variable c g = gives_none w _ _ (λ z. tt)

found_good : (w : World) (cs : List Constant) (p : Place) (f : Found) → GoodConstants cs → GoodThing f.thing → GoodJudged w Always (found_says cs p f)
found_good w cs p f c g =
    gives_then w Always Always _ (broken_all f.faults) (thing_says cs p f.thing).notes (gives_reading w _ _ _ (reading_broken_all f.faults) (λ z. z)) (thing_good w cs p f.thing c g)

-- ---- names

abbrev pub GoodThingWhen : Option Thing → Type 0
GoodThingWhen None = Unit {0}
GoodThingWhen (Some t) = GoodThing t

either_thing : (t : Thing) (o : Option Thing) (b : Bool) → GoodThing t → GoodThingWhen o → GoodThingWhen (if b then Some t else o)
either_thing t o true g h = g
either_thing t o false g h = h

entry_good : (es : List Entry) (n : List ℕ) → GoodEntries es → GoodThingWhen (entry_named es n)
entry_good [] n g = tt
entry_good (e ∷ es) n g = either_thing e.thing (entry_named es n) (bytes_eq e.name n) g.0 (entry_good es n g.1)

built_in_good : (p : Place) (o : Option Row) → GoodThing (found_built_in p o).thing
built_in_good p None = tt
built_in_good p (Some r) = tt

in_module_good : (w : Word) (o : Option Thing) → GoodThingWhen o → GoodThing (found_in_module w o).thing
in_module_good w None g = built_in_good w.place (built_in w.name)
in_module_good w (Some t) g = g

module_good : (es : List Entry) (w : Word) → GoodEntries es → GoodThing (module_name es w).thing
module_good es w g = in_module_good w (entry_named es w.name) (entry_good es w.name g)

beyond_good : (w : World) (s : Scope) (x : Word) → GoodScope w.names s → GoodJudged w Always (name_beyond s x)
beyond_good w s x g =
    either_good w Always (s.myself && is_myself x.name) (says (meaning.Thing thing.Myself)) (found_says s.constants x.place (module_name s.entries x))
    (gives_none w _ _ (λ z. tt))
    (found_good w s.constants x.place (module_name s.entries x) g.known.constants (module_good s.entries x g.known.entries))

read_name_good : (w : World) (s : Scope) (x : Word) (o : Option ℕ) → GoodScope w.names s → GoodJudged w Always (read_name s x o)
read_name_good w s x None g = beyond_good w s x g
read_name_good w s x (Some i) g = read_good w s x.place i (slice_get s.locals i) g refl

pub name_is_good : (w : World) (s : Scope) (x : Word) → GoodScope w.names s → GoodJudged w Always (judge_name s x)
name_is_good w s x g = read_name_good w s x (local_of s x.name) g

-- ---- members of things

application_good : (w : World) (p : Place) (m : Member) (x : Word) → GoodJudged w (GoodMember m) (application_member p m x)
application_good w p (member.Application q) x =
    either_good w _ (bytes_eq x.name (codes "id")) _ (breaks rule.P09 x.place) (gives_none w _ _ (λ g. operation_good w p q scalar.UInt64 [] [] tt refl g)) (gives_broken w _ _ rule.P09 x.place (λ g. tt))
application_good w p (member.Value q t) x = gives_broken w _ _ rule.P09 x.place (λ g. tt)
application_good w p (member.Number n) x = gives_broken w _ _ rule.P09 x.place (λ g. tt)
application_good w p (member.Form f) x = gives_broken w _ _ rule.P09 x.place (λ g. tt)
application_good w p member.FromHex x = gives_broken w _ _ rule.P09 x.place (λ g. tt)
application_good w p (member.Row r) x = gives_broken w _ _ rule.P09 x.place (λ g. tt)
application_good w p member.LeftOut x = gives_broken w _ _ rule.P09 x.place (λ g. tt)

found_member_good : (p : Place) (o : Option Member) → ((m : Member) → o ≡ Some m → GoodMember m) → GoodThing (found_member p o).thing
found_member_good p None g = tt
found_member_good p (Some member.LeftOut) g = tt
found_member_good p (Some (member.Row r)) g = tt
found_member_good p (Some (member.Form f)) g = g (member.Form f) refl
found_member_good p (Some (member.Value q t)) g = g (member.Value q t) refl
found_member_good p (Some (member.Number n)) g = tt
found_member_good p (Some (member.Application q)) g = g (member.Application q) refl
found_member_good p (Some member.FromHex) g = tt

found_method_good : (p : Place) (o : Option ℕ) → GoodThing (found_method p o).thing
found_method_good p None = tt
found_method_good p (Some i) = tt

of_thing : (w : World) (s : Scope) (p : Place) (t : Thing) (x : Word) → GoodScope w.names s → GoodThing (member_of (method_pairs s.methods) t x).thing → Gives w (GoodThing t) (found_says s.constants p (member_of (method_pairs s.methods) t x)).notes (GoodMeaning w (found_says s.constants p (member_of (method_pairs s.methods) t x)).meaning)
of_thing w s p t x g h = let f = found_good w s.constants p (member_of (method_pairs s.methods) t x) g.known.constants h in record { reading = f.reading; holds = λ z a. f.holds tt a }

thing_member_good : (w : World) (s : Scope) (p : Place) (t : Thing) (x : Word) → GoodScope w.names s → GoodJudged w (GoodThing t) (thing_member s p t x)
thing_member_good w s p (thing.Member m) x g = application_good w p m x
thing_member_good w s p (thing.Library r) x g = of_thing w s p (thing.Library r) x g (found_member_good x.place (member_named r x.name) (member_named_good r x.name))
thing_member_good w s p thing.Myself x g = of_thing w s p thing.Myself x g (found_method_good x.place (method_named (method_pairs s.methods) x.name))
thing_member_good w s p (thing.Constant i) x g = of_thing w s p (thing.Constant i) x g tt
thing_member_good w s p (thing.Function i) x g = of_thing w s p (thing.Function i) x g tt
thing_member_good w s p (thing.Class i) x g = of_thing w s p (thing.Class i) x g tt
thing_member_good w s p (thing.Method i) x g = of_thing w s p (thing.Method i) x g tt
thing_member_good w s p thing.Variable x g = of_thing w s p thing.Variable x g tt
thing_member_good w s p thing.Unknown x g = of_thing w s p thing.Unknown x g tt

-- ---- members of values

operation_of_good : (w : World) (p q : Place) (t : Typed) (s : Scalar) (o : Option Operation) → scalar_of t.ty ≡ Some s → FitsWhen (scalar_type s ∷ []) o → GoodJudged w (GoodTyped w t × IsKeptType t.ty) (value_operation p q t o)
operation_of_good w p q t s None e f = gives_broken w _ _ rule.P09 q (λ g. tt)
operation_of_good w p q t s (Some o) e f =
    gives_none w _ _ (λ g. operation_good w p o.prim o.result (t ∷ []) (scalar_type s ∷ []) (g, tt) (ap (λ z. z ∷ []) (scalar_value_is t.ty s e)) f)

scalar_member_good : (w : World) (p : Place) (x : Word) (t : Typed) (s : Option Scalar) → scalar_of t.ty ≡ s → GoodJudged w (GoodTyped w t × IsKeptType t.ty) (scalar_member p x t s)
scalar_member_good w p x t None e = gives_broken w _ _ rule.P09 x.place (λ g. tt)
scalar_member_good w p x t (Some s) e = operation_of_good w p x.place t s (value_member s x.name) e (member_fits s x.name)

member_when_good : (w : World) (p : Place) (x : Word) (o : Option Typed) → GoodJudged w (GoodOption w o) (member_when p x o)
member_when_good w p x None = gives_none w _ _ (λ g. tt)
member_when_good w p x (Some t) = scalar_member_good w p x t (scalar_of t.ty) refl

of_value_good : (w : World) (p : Place) (x : Word) (v : Valued) → GoodValued w Always v → GoodJudged w Always (member_of_value p x v)
of_value_good w p x v g = gives_then w _ _ _ v.notes (member_when p x v.typed).notes g (member_when_good w p x v.typed)

abbrev judged : List Note → Meaning → Judged
judged ns m = record { notes = ns; meaning = m }

member_by : (w : World) (s : Scope) (p q : Place) (x : Word) (ns : List Note) (m : Meaning) → GoodScope w.names s → GoodJudged w Always (judged ns m) → GoodJudged w Always (judge_member s p q x (judged ns m))
member_by w s p q x ns (meaning.Thing t) g h = gives_then w _ _ _ ns (thing_member s p t x).notes h (thing_member_good w s p t x g)
member_by w s p q x ns (meaning.Value t) g h = of_value_good w p x (value hope.Free q (judged ns (meaning.Value t))) (value_good w hope.Free q (judged ns (meaning.Value t)) h)
member_by w s p q x ns (meaning.Literal r l) g h = of_value_good w p x (value hope.Free q (judged ns (meaning.Literal r l))) (value_good w hope.Free q (judged ns (meaning.Literal r l)) h)
member_by w s p q x ns (meaning.Range r) g h = of_value_good w p x (value hope.Free q (judged ns (meaning.Range r))) (value_good w hope.Free q (judged ns (meaning.Range r)) h)
member_by w s p q x ns meaning.Unknown g h = h

pub member_is_good : (w : World) (s : Scope) (p q : Place) (x : Word) (j : Judged) → GoodScope w.names s → GoodJudged w Always j → GoodJudged w Always (judge_member s p q x j)
member_is_good w s p q x j g h = member_by w s p q x j.notes j.meaning g h
