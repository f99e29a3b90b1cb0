-- What annotations write, with what was told before; the parts of brackets one after the other.
use Rattle.std.proofs.Common.{◌≡◌, ℕ, suc, ◌+◌, ◌<◌, ◌≤◌, length, drop, get_or, map, arith, List, [], ◌∷◌, ◌++◌, Bool, true, false, refl, sym, ap, ◌∙◌, append_assoc, append-nil, Option, Some, None}
use Rattle.std.specs.Prelude.{if◌then◌else◌, ◌&&◌}
use Rattle.std.proofs.Math.Seq.{drop-cons}
use Rattle.std.proofs.Math.ListN.{drop_of_length-le}
use Rattle.puya_base.specs.declared.source.Refusal.{Refusal}
use Rattle.puya_base.specs.declared.source.Place.{Place}
use Rattle.py_grammar.specs.declared.type_tree.TypeTree.{TypeTree}
use Rattle.py_grammar.specs.declared.type_tree.TypeArg.{TypeArg}
use Rattle.py_grammar.specs.declared.type_tree.TypeArg.TheVariants as arg
use Rattle.py_grammar.specs.declared.type_tree.TypeArg.TheOpen.{TypeArg-F}
use Rattle.py_grammar.specs.declared.type_tree.TypeArg.TheFolds.{fold-roll-TypeArg}
use Rattle.source_names.specs.declared.named.Entry.{Entry}
use Rattle.source_names.specs.declared.annotations.Argument.{Argument as Seen}
use Rattle.source_names.specs.declared.types.SourceType.{SourceType}
use Rattle.source_names.specs.Types.{plain}
use Rattle.source_names.specs.Annotations.{Written, written, argument_layer, written_layer, of_value, of_value_when, kept, is_nothing, Argument, a_type, a_number, arguments, is_some_type, both}
use Rattle.source_names.specs.Parts.{argument, argument_faults, argument_of, argument_value, known_with, typed_with, types_with, types_when, value_faults, value_type}

kept_faults : (w : Written) (t : SourceType) (b : Bool) → is_nothing (plain t) ≡ b
    → w.faults ++ value_faults w.place (Some t) ≡ (kept w t).faults
unfolding value_faults
kept_faults w t true e = rw e refl
kept_faults w t false e = rw e (append-nil w.faults)

value_by : (w : Written) (o : Option SourceType) → w.faults ++ value_faults w.place o ≡ (of_value_when w o).faults
unfolding value_faults
value_by w None = append-nil w.faults
value_by w (Some t) = kept_faults w t (is_nothing (plain t)) refl

-- what is told of an annotation, and then of it as the type of a value
pub told_value : (told : List Refusal) (w : Written) → (told ++ w.faults) ++ value_faults w.place w.ty ≡ told ++ (of_value w).faults
told_value told w = append_assoc told w.faults (value_faults w.place w.ty) ∙ ap (λ z. told ++ z) (value_by w w.ty)

kept_type : (w : Written) (t : SourceType) (b : Bool) → w.ty ≡ Some t → is_nothing (plain t) ≡ b → value_type (Some t) ≡ (kept w t).ty
unfolding value_type
kept_type w t true s e = rw e refl
kept_type w t false s e = rw e (sym s)

type_by : (w : Written) (o : Option SourceType) → w.ty ≡ o → value_type o ≡ (of_value_when w o).ty
unfolding value_type
type_by w None e = sym e
type_by w (Some t) e = kept_type w t (is_nothing (plain t)) e refl

pub value_is : (w : Written) → value_type w.ty ≡ (of_value w).ty
value_is w = type_by w w.ty refl

-- ---- the parts of brackets

pub told_argument : (told : List Refusal) (a : Argument) (as_ : List Argument) → (told ++ argument_faults a) ++ (arguments as_).faults ≡ told ++ (arguments (a ∷ as_)).faults
told_argument told (a_type w) as_ = append_assoc told (of_value w).faults (arguments as_).faults
told_argument told a_number as_ = ap (λ z. z ++ (arguments as_).faults) (append-nil told)

known_by : (k : Bool) (o : Option SourceType) (r : Bool) → known_with k (argument_of o) && r ≡ k && (if is_some_type o then r else false)
known_by true None r = refl
known_by false None r = refl
known_by k (Some t) r = refl

pub known_argument : (k : Bool) (a : Argument) (as_ : List Argument) → known_with k (argument_value a) && (arguments as_).known ≡ k && (arguments (a ∷ as_)).known
known_argument k (a_type w) as_ = known_by k (of_value w).ty (arguments as_).known
known_argument k a_number as_ = refl

-- types before others
pub before : List SourceType → Option (List SourceType) → Option (List SourceType)
before ts (Some us) = Some (ts ++ us)
before ts None = None

-- the types so far, where each known part was one, before those to come
pub gathered : Bool → List SourceType → Option (List SourceType) → Option (List SourceType)
gathered true ts o = before ts o
gathered false ts o = None

no_number : (b : Bool) (ts : List SourceType) → None ≡ gathered b ts None
unfolding gathered before
no_number true ts = refl
no_number false ts = refl

one_type : (b : Bool) (ts : List SourceType) (o : Option SourceType) (r : Option (List SourceType))
    → gathered (typed_with b (argument_of o)) (types_with ts (argument_of o)) r ≡ gathered b ts (both o r)
unfolding gathered before
one_type b ts None r = no_number b ts
one_type false ts (Some t) r = refl
one_type true ts (Some t) None = refl
one_type true ts (Some t) (Some us) = ap Some (append_assoc ts (t ∷ []) us)

pub typed_argument : (b : Bool) (ts : List SourceType) (a : Argument) (as_ : List Argument)
    → gathered (typed_with b (argument_value a)) (types_with ts (argument_value a)) (arguments as_).types ≡ gathered b ts (arguments (a ∷ as_)).types
unfolding gathered
typed_argument b ts (a_type w) as_ = one_type b ts (of_value w).ty (arguments as_).types
typed_argument b ts a_number as_ = no_number b ts

pub gathered_first : (o : Option (List SourceType)) → gathered true [] o ≡ o
unfolding gathered before
gathered_first None = refl
gathered_first (Some ts) = refl

pub gathered_all : (b : Bool) (ts : List SourceType) → gathered b ts (Some []) ≡ types_when b ts
unfolding gathered before
gathered_all true ts = ap Some (append-nil ts)
gathered_all false ts = refl

-- ---- the parts of brackets from a place on

up : (i : ℕ) → suc i ≡ i + 1
up i = omega arith

pub parts_at : (es : List Entry) (vs : List (List ℕ)) (xs : List TypeArg) (i : ℕ) (x : TypeArg) → x ≡ get_or xs i x → i < length xs
    → map (argument es vs) (drop i xs) ≡ argument es vs x ∷ map (argument es vs) (drop (i + 1) xs)
parts_at es vs xs i x is low =
    ap (map (argument es vs)) (drop-cons xs i x low ∙ ap (λ y. y ∷ drop (suc i) xs) (sym is) ∙ ap (λ j. x ∷ drop j xs) (up i))

pub no_parts : (es : List Entry) (vs : List (List ℕ)) (xs : List TypeArg) (i : ℕ) → length xs ≤ i → map (argument es vs) (drop i xs) ≡ []
no_parts es vs xs i done = ap (map (argument es vs)) (drop_of_length-le xs done)

pub told_next : (told told' all : List Refusal) (a : Argument) (as_ rest : List Argument) → as_ ≡ a ∷ rest → told' ≡ told ++ argument_faults a
    → told ++ (arguments as_).faults ≡ all → told' ++ (arguments rest).faults ≡ all
told_next told told' all a as_ rest is d h =
    ap (λ z. z ++ (arguments rest).faults) d ∙ told_argument told a rest ∙ ap (λ z. told ++ (arguments z).faults) (sym is) ∙ h

pub known_next : (k k' all : Bool) (a : Argument) (v : Seen) (as_ rest : List Argument) → as_ ≡ a ∷ rest → v ≡ argument_value a → k' ≡ known_with k v
    → k && (arguments as_).known ≡ all → k' && (arguments rest).known ≡ all
known_next k k' all a v as_ rest is e d h =
    ap (λ z. z && (arguments rest).known) (d ∙ ap (known_with k) e) ∙ known_argument k a rest ∙ ap (λ z. k && (arguments z).known) (sym is) ∙ h

pub types_next : (b b' : Bool) (ts ts' : List SourceType) (all : Option (List SourceType)) (a : Argument) (v : Seen) (as_ rest : List Argument) → as_ ≡ a ∷ rest → v ≡ argument_value a
    → b' ≡ typed_with b v → ts' ≡ types_with ts v → gathered b ts (arguments as_).types ≡ all → gathered b' ts' (arguments rest).types ≡ all
types_next b b' ts ts' all a v as_ rest is e d f h =
    ap (λ z. gathered z ts' (arguments rest).types) (d ∙ ap (typed_with b) e)
    ∙ ap (λ z. gathered (typed_with b (argument_value a)) z (arguments rest).types) (f ∙ ap (types_with ts) e)
    ∙ typed_argument b ts a rest
    ∙ ap (λ z. gathered b ts (arguments z).types) (sym is)
    ∙ h

pub types_end : (b : Bool) (ts : List SourceType) (all : Option (List SourceType)) (as_ : List Argument) → as_ ≡ [] → gathered b ts (arguments as_).types ≡ all → types_when b ts ≡ all
types_end b ts all as_ is h = sym (gathered_all b ts) ∙ ap (λ z. gathered b ts (arguments z).types) (sym is) ∙ h

-- ---- a type in brackets

argument_is : (es : List Entry) (vs : List (List ℕ)) (t : TypeTree) → argument es vs (arg.Type t) ≡ a_type (written es vs t)
argument_is es vs t = ap (argument es vs) (sym (arg.rolls-Type t)) ∙ fold-roll-TypeArg Argument Written argument_layer (written_layer es vs) (TypeArg-F.Type t)

pub type_told : (es : List Entry) (vs : List (List ℕ)) (told seen all : List Refusal) (a : TypeArg) (t : TypeTree) (p : Place) (o : Option SourceType) → a ≡ arg.Type t
    → seen ≡ told ++ (written es vs t).faults → p ≡ (written es vs t).place → o ≡ (written es vs t).ty → all ≡ seen ++ value_faults p o
    → all ≡ told ++ argument_faults (argument es vs a)
type_told es vs told seen all a t p o is d e f h =
    let w = written es vs t in
    h
    ∙ ap (λ z. z ++ value_faults p o) d
    ∙ ap (λ z. (told ++ w.faults) ++ value_faults z o) e
    ∙ ap (λ z. (told ++ w.faults) ++ value_faults w.place z) f
    ∙ told_value told w
    ∙ ap (λ z. told ++ argument_faults z) (sym (ap (argument es vs) is ∙ argument_is es vs t))

pub type_value : (es : List Entry) (vs : List (List ℕ)) (a : TypeArg) (t : TypeTree) (o u : Option SourceType) (v : Seen) → a ≡ arg.Type t
    → o ≡ (written es vs t).ty → u ≡ value_type o → v ≡ argument_of u → v ≡ argument_value (argument es vs a)
type_value es vs a t o u v is f g h =
    h
    ∙ ap argument_of (g ∙ ap value_type f ∙ value_is (written es vs t))
    ∙ ap argument_value (sym (ap (argument es vs) is ∙ argument_is es vs t))
