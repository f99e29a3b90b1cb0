-- An annotation that breaks no rule writes a type.
use Rattle.std.proofs.Common.{◌≡◌, ℕ, zero, suc, Bool, true, false, List, [], ◌∷◌, ◌++◌, map, Option, Some, None, refl, sym, subst}
use Rattle.std.specs.Prelude.{if◌then◌else◌, ◌&&◌, bytes_eq}
use Rattle.std.proofs.lemmas.Option.{none-some, same_Some}
use Rattle.puya_base.specs.declared.source.Place.{Place}
use Rattle.puya_base.specs.declared.source.Rule.{Rule}
use Rattle.puya_base.specs.declared.source.Rule.TheVariants as rule
use Rattle.py_grammar.specs.declared.word.Word.{Word}
use Rattle.py_grammar.specs.declared.type_tree.TypeTree.{TypeTree, map-TypeTree, roll-TypeTree}
use Rattle.py_grammar.specs.declared.type_tree.TypeArg.{TypeArg, map-TypeArg, roll-TypeArg}
use Rattle.py_grammar.specs.declared.type_tree.TypeArg.TheOpen.{TypeTree-F, TypeArg-F}
use Rattle.py_grammar.specs.declared.type_tree.TypeArg.TheFolds.{ind-TypeTree, fold-roll-TypeTree, fold-roll-TypeArg, fold-TypeArg}
use Rattle.algopy_library.specs.declared.row.Row.{Row}
use Rattle.algopy_library.specs.declared.row.Row.TheVariants as row
use Rattle.algopy_library.specs.declared.member.Member.{Member}
use Rattle.algopy_library.specs.declared.member.Member.TheVariants as member
use Rattle.algopy_library.specs.Packages.{built_in}
use Rattle.algopy_library.specs.Members.{member_named}
use Rattle.source_names.specs.declared.types.SourceType.{SourceType}
use Rattle.source_names.specs.declared.types.SourceType.TheVariants as ty
use Rattle.source_names.specs.declared.named.Thing.{Thing}
use Rattle.source_names.specs.declared.named.Thing.TheVariants as thing
use Rattle.source_names.specs.declared.named.Entry.{Entry}
use Rattle.source_names.specs.Types.{plain, fits_limits}
use Rattle.source_names.specs.Faults.{breaks}
use Rattle.source_names.specs.Things.{Found, entry_named, found_built_in, found_in_module, module_name, found_member, member_of, members_of, names_variable, first_name, dotted}
use Rattle.source_names.specs.Things as things
use Rattle.source_names.specs.Annotations.{Written, writes, no_type, unknown, row_type, thing_type, named_type, is_nothing, of_value_when, of_value, is_some_type, Argument, a_type, a_number, Arguments, arguments, tuple_type, applied_row, applied, applied_type, written_layer, argument_layer, written}
use Rattle.source_names.specs.Annotations as annotations
use Rattle.typing_laws.specs.Naming.{EntriesKnown, has_word, all_named, named_layer, named_argument, is_named_type}
use Rattle.typing_laws.proofs.Known.{IsKnownType}
use Rattle.typing_laws.proofs.Mains.{front_none, behind_none}

-- ---- lists of broken rules that have none

pub not_broken : (r : Rule) (p : Place) → breaks r p ≡ [] → ⊥
not_broken r p h = cc

pub and_left : (a b : Bool) → (a && b) ≡ true → a ≡ true
and_left true b h = refl
and_left false b h = h

pub and_right : (a b : Bool) → (a && b) ≡ true → b ≡ true
and_right true b h = h
and_right false b h = cc

-- ---- names that break no rule stand for something

abbrev IsThing : Thing → Type 0
IsThing t = t ≡ thing.Unknown → ⊥

abbrev KnownFound : Found → Type 0
KnownFound f = f.faults ≡ [] → IsThing f.thing

named_by : (e : Entry) (es : List Entry) (n : List ℕ) (b : Bool) (t : Thing) → EntriesKnown (e ∷ es) → (if b then Some e.thing else entry_named es n) ≡ Some t → (entry_named es n ≡ Some t → IsThing t) → IsThing t
named_by e es n true t k h f = subst IsThing (same_Some e.thing t h) (k zero e refl)
named_by e es n false t k h f = f h

entry_known : (es : List Entry) (n : List ℕ) (t : Thing) → EntriesKnown es → entry_named es n ≡ Some t → IsThing t
entry_known [] n t k h = absurd (none-some t h)
entry_known (e ∷ es) n t k h = named_by e es n (bytes_eq e.name n) t k h (λ g. entry_known es n t (λ i d a. k (suc i) d a) g)

library_there : (r : Row) → IsThing (thing.Library r)
library_there r h = cc

member_there : (m : Member) → IsThing (thing.Member m)
member_there m h = cc

variable_there : IsThing thing.Variable
variable_there h = cc

undefined_known : (p : Place) → KnownFound (things.undefined p)
undefined_known p h = absurd (not_broken rule.P09 p h)

built_in_known : (p : Place) (o : Option Row) → KnownFound (found_built_in p o)
built_in_known p (Some r) h = library_there r
built_in_known p None h = undefined_known p h

in_module_known : (w : Word) (o : Option Thing) → ((t : Thing) → o ≡ Some t → IsThing t) → KnownFound (found_in_module w o)
in_module_known w (Some t) k h = k t refl
in_module_known w None k h = built_in_known w.place (built_in w.name) h

first_by : (es : List Entry) (w : Word) (b : Bool) → EntriesKnown es → KnownFound (if b then things.stands_for thing.Variable else module_name es w)
first_by es w true k h = variable_there
first_by es w false k h = in_module_known w (entry_named es w.name) (λ t e. entry_known es w.name t k e) h

found_member_known : (p : Place) (o : Option Member) → KnownFound (found_member p o)
found_member_known p None h = undefined_known p h
found_member_known p (Some member.LeftOut) h = absurd (not_broken rule.P08 p h)
found_member_known p (Some (member.Row r)) h = library_there r
found_member_known p (Some (member.Form f)) h = member_there (member.Form f)
found_member_known p (Some (member.Value q t)) h = member_there (member.Value q t)
found_member_known p (Some (member.Number n)) h = member_there (member.Number n)
found_member_known p (Some (member.Application q)) h = member_there (member.Application q)
found_member_known p (Some member.FromHex) h = member_there member.FromHex

member_known : (t : Thing) (w : Word) → IsThing t → KnownFound (member_of [] t w)
member_known (thing.Library r) w k h = found_member_known w.place (member_named r w.name) h
member_known (thing.Member m) w k h = undefined_known w.place h
member_known (thing.Constant i) w k h = undefined_known w.place h
member_known (thing.Function i) w k h = undefined_known w.place h
member_known (thing.Class i) w k h = undefined_known w.place h
member_known (thing.Method i) w k h = undefined_known w.place h
member_known thing.Myself w k h = undefined_known w.place h
member_known thing.Variable w k h = undefined_known w.place h
member_known thing.Unknown w k h = absurd (k refl)

behind_known : (f : Found) (w : Word) → KnownFound f → KnownFound (things.behind f (member_of [] f.thing w))
behind_known f w k h = let g = member_of [] f.thing w in member_known f.thing w (k (front_none f.faults g.faults h)) (behind_none f.faults g.faults h)

members_known : (f : Found) (ws : List Word) → KnownFound f → KnownFound (members_of f ws)
members_known f [] k = k
members_known f (w ∷ ws) k = members_known (things.behind f (member_of [] f.thing w)) ws (behind_known f w k)

pub dotted_known : (es : List Entry) (vs : List (List ℕ)) (ws : List Word) → EntriesKnown es → has_word ws ≡ true → KnownFound (dotted es vs ws)
dotted_known es vs [] k h = λ f. cc
dotted_known es vs (w ∷ ws) k h = members_known (first_name es vs w) ws (first_by es w (names_variable vs w.name) k)

-- ---- what is written

abbrev KnownWritten : Written → Type 0
KnownWritten w = w.faults ≡ [] → IsKnownType w.ty

abbrev WrittenWhen : Bool → Written → Type 0
WrittenWhen b w = b ≡ true → KnownWritten w

no_type_known : (p : Place) → KnownWritten (no_type p)
no_type_known p h = not_broken rule.P13 p h

row_known : (p : Place) (r : Row) → KnownWritten (row_type p r)
row_known p row.UInt64 h = tt
row_known p row.Bool h = tt
row_known p row.Bytes h = tt
row_known p row.Text h = tt
row_known p row.Account h = tt
row_known p _ h = not_broken rule.P13 p h

thing_known : (p : Place) (t : Thing) → IsThing t → KnownWritten (thing_type p t)
thing_known p (thing.Library r) k h = row_known p r h
thing_known p thing.Unknown k h = k refl
thing_known p _ k h = not_broken rule.P13 p h

named_known : (p : Place) (f : Found) → KnownFound f → KnownWritten (named_type p f)
named_known p f k h = thing_known p f.thing (k (front_none f.faults (thing_type p f.thing).faults h)) (behind_none f.faults (thing_type p f.thing).faults h)

-- ---- the types of values

kept_known : (w : Written) (t : SourceType) → w.ty ≡ Some t → (b : Bool) → (if b then annotations.behind w.faults (no_type w.place) else w).faults ≡ [] → IsKnownType (if b then annotations.behind w.faults (no_type w.place) else w).ty
kept_known w t e true h = not_broken rule.P13 w.place (behind_none w.faults (no_type w.place).faults h)
kept_known w t e false h = subst IsKnownType (sym e) tt

value_by : (w : Written) (o : Option SourceType) → w.ty ≡ o → KnownWritten w → KnownWritten (of_value_when w o)
value_by w None e k h = k h
value_by w (Some t) e k h = kept_known w t e (is_nothing (plain t)) h

value_known : (w : Written) → KnownWritten w → KnownWritten (of_value w)
value_known w k = value_by w w.ty refl k

-- ---- what stands in brackets

abbrev KnownArgument : Argument → Type 0
KnownArgument (a_type w) = KnownWritten w
KnownArgument a_number = Unit {0}

abbrev ArgumentWhen : Bool → Argument → Type 0
ArgumentWhen b a = b ≡ true → KnownArgument a

abbrev KnownArguments : List Argument → Type 0
KnownArguments [] = Unit {0}
KnownArguments (a ∷ as_) = KnownArgument a × KnownArguments as_

type_there : (o : Option SourceType) → IsKnownType o → (b : Bool) → b ≡ true → (if is_some_type o then b else false) ≡ true
type_there None k b h = absurd k
type_there (Some t) k b h = h

arguments_known : (as_ : List Argument) → KnownArguments as_ → (arguments as_).faults ≡ [] → (arguments as_).known ≡ true
arguments_known [] k h = refl
arguments_known (a_type w ∷ as_) k h =
    type_there (of_value w).ty (value_known w k.0 (front_none (of_value w).faults (arguments as_).faults h)) (arguments as_).known
    (arguments_known as_ k.1 (behind_none (of_value w).faults (arguments as_).faults h))
arguments_known (a_number ∷ as_) k h = arguments_known as_ k.1 h

limits_known : (p : Place) (t : SourceType) (b : Bool) → KnownWritten (if b then writes p t else no_type p)
limits_known p t true h = tt
limits_known p t false h = not_broken rule.P13 p h

tuple_known : (p : Place) (o : Option (List SourceType)) → KnownWritten (tuple_type p o)
tuple_known p None h = not_broken rule.P13 p h
tuple_known p (Some ts) h = limits_known p (ty.Tuple ts) (fits_limits (ty.Tuple ts)) h

applied_row_known : (p : Place) (r : Row) (o : Option (List SourceType)) → KnownWritten (applied_row p r o)
applied_row_known p row.Tuple o h = tuple_known p o h
applied_row_known p _ o h = not_broken rule.P13 p h

-- where each argument is known
when_true : (w v : Written) (b : Bool) → b ≡ true → KnownWritten w → KnownWritten (if b then w else v)
when_true w v true e k h = k h
when_true w v false e k h = cc

applied_known : (p : Place) (t : Thing) (as_ : Arguments) → IsThing t → as_.known ≡ true → KnownWritten (applied p t as_)
applied_known p (thing.Library r) as_ k e h = when_true (applied_row p r as_.types) (unknown p) as_.known e (applied_row_known p r as_.types) h
applied_known p thing.Unknown as_ k e h = k refl
applied_known p _ as_ k e h = when_true (no_type p) (unknown p) as_.known e (no_type_known p) h

applied_type_known : (p : Place) (f : Found) (as_ : Arguments) → KnownFound f → (as_.faults ≡ [] → as_.known ≡ true) → KnownWritten (applied_type p f as_)
applied_type_known p f as_ k g h =
    let w = applied p f.thing as_ in
    let own = front_none (f.faults ++ as_.faults) w.faults h in
    applied_known p f.thing as_ (k (front_none f.faults as_.faults own)) (g (behind_none f.faults as_.faults own)) (behind_none (f.faults ++ as_.faults) w.faults h)

-- ---- annotations

abbrev arg_of : List Entry → List (List ℕ) → TypeArg → Argument
arg_of es vs = fold-TypeArg Argument Written argument_layer (written_layer es vs)

abbrev is_named_arg : TypeArg → Bool
is_named_arg = fold-TypeArg Bool Bool named_argument named_layer

abbrev KnownTree : List Entry → List (List ℕ) → TypeTree → Type 0
KnownTree es vs a = WrittenWhen (is_named_type a) (written es vs a)

abbrev KnownArg : List Entry → List (List ℕ) → TypeArg → Type 0
KnownArg es vs a = ArgumentWhen (is_named_arg a) (arg_of es vs a)

abbrev AnArg : List Entry → List (List ℕ) → Type 0
AnArg es vs = (a : TypeArg) × KnownArg es vs a

abbrev ATree : List Entry → List (List ℕ) → Type 0
ATree es vs = (a : TypeTree) × KnownTree es vs a

argument_layer_known : (es : List Entry) (vs : List (List ℕ)) (y : TypeArg-F (AnArg es vs) (ATree es vs))
    → ArgumentWhen (named_argument (map-TypeArg TypeArg TypeTree Bool Bool is_named_arg is_named_type (map-TypeArg (AnArg es vs) (ATree es vs) TypeArg TypeTree (λ e. e.0) (λ e. e.0) y)))
    (argument_layer (map-TypeArg TypeArg TypeTree Argument Written (arg_of es vs) (written es vs) (map-TypeArg (AnArg es vs) (ATree es vs) TypeArg TypeTree (λ e. e.0) (λ e. e.0) y)))
argument_layer_known es vs (TypeArg-F.Type w) = w.1
argument_layer_known es vs (TypeArg-F.Number n) = λ h. tt

all_known : (es : List Entry) (vs : List (List ℕ)) (as_ : List (AnArg es vs)) → all_named (map is_named_arg (map (λ e. e.0) as_)) ≡ true → KnownArguments (map (arg_of es vs) (map (λ e. e.0) as_))
all_known es vs [] h = tt
all_known es vs (a ∷ as_) h =
    (a.1 (and_left (is_named_arg a.0) (all_named (map is_named_arg (map (λ e. e.0) as_))) h), all_known es vs as_ (and_right (is_named_arg a.0) (all_named (map is_named_arg (map (λ e. e.0) as_))) h))

written_layer_known : (es : List Entry) (vs : List (List ℕ)) → EntriesKnown es → (y : TypeTree-F (AnArg es vs) (ATree es vs))
    → WrittenWhen (named_layer (map-TypeTree TypeArg TypeTree Bool Bool is_named_arg is_named_type (map-TypeTree (AnArg es vs) (ATree es vs) TypeArg TypeTree (λ e. e.0) (λ e. e.0) y)))
    (written_layer es vs (map-TypeTree TypeArg TypeTree Argument Written (arg_of es vs) (written es vs) (map-TypeTree (AnArg es vs) (ATree es vs) TypeArg TypeTree (λ e. e.0) (λ e. e.0) y)))
written_layer_known es vs k (TypeTree-F.None p) = λ n h. tt
written_layer_known es vs k (TypeTree-F.Named p ws) = λ n h. named_known p (dotted es vs ws) (dotted_known es vs ws k n) h
written_layer_known es vs k (TypeTree-F.Of p ws as_ c) = λ n h.
    let xs = map (arg_of es vs) (map (λ e. e.0) as_) in
    let named = all_named (map is_named_arg (map (λ e. e.0) as_)) in
    applied_type_known p (dotted es vs ws) (arguments xs) (dotted_known es vs ws k (and_left (has_word ws) named n)) (arguments_known xs (all_known es vs as_ (and_right (has_word ws) named n))) h

tree_known : (es : List Entry) (vs : List (List ℕ)) → EntriesKnown es → (a : TypeTree) → KnownTree es vs a
tree_known es vs k = ind-TypeTree (KnownArg es vs) (KnownTree es vs)
    (λ x y is.
    subst (λ b. ArgumentWhen b (fold-TypeArg Argument Written argument_layer (written_layer es vs) (roll-TypeArg x))) (sym (fold-roll-TypeArg Bool Bool named_argument named_layer x))
    (subst (ArgumentWhen (named_argument (map-TypeArg TypeArg TypeTree Bool Bool is_named_arg is_named_type x))) (sym (fold-roll-TypeArg Argument Written argument_layer (written_layer es vs) x))
    (subst (λ z. ArgumentWhen (named_argument (map-TypeArg TypeArg TypeTree Bool Bool is_named_arg is_named_type z)) (argument_layer (map-TypeArg TypeArg TypeTree Argument Written (arg_of es vs) (written es vs) z))) is (argument_layer_known es vs y))))
    (λ x y is.
    subst (λ b. WrittenWhen b (written es vs (roll-TypeTree x))) (sym (fold-roll-TypeTree Bool Bool named_argument named_layer x))
    (subst (WrittenWhen (named_layer (map-TypeTree TypeArg TypeTree Bool Bool is_named_arg is_named_type x))) (sym (fold-roll-TypeTree Argument Written argument_layer (written_layer es vs) x))
    (subst (λ z. WrittenWhen (named_layer (map-TypeTree TypeArg TypeTree Bool Bool is_named_arg is_named_type z)) (written_layer es vs (map-TypeTree TypeArg TypeTree Argument Written (arg_of es vs) (written es vs) z))) is (written_layer_known es vs k y))))

pub annotation_known : (es : List Entry) (vs : List (List ℕ)) (a : TypeTree) → EntriesKnown es → is_named_type a ≡ true → (written es vs a).faults ≡ [] → IsKnownType (written es vs a).ty
annotation_known es vs a k n h = tree_known es vs k a n h

pub value_annotation_known : (es : List Entry) (vs : List (List ℕ)) (a : TypeTree) → EntriesKnown es → is_named_type a ≡ true → (of_value (written es vs a)).faults ≡ [] → IsKnownType (of_value (written es vs a)).ty
value_annotation_known es vs a k n h = value_known (written es vs a) (tree_known es vs k a n) h
