-- Annotations: the types that they write (Python reference 8.7, 'annotation'), P08 and P09 on their names, P13 where they write none.
use Rattle.std.specs.Prelude.{ℕ, Bool, true, false, if◌then◌else◌, List, [], ◌∷◌, ◌++◌, Option, Some, None}
use Rattle.puya_base.specs.declared.source.Place.{Place}
use Rattle.puya_base.specs.declared.source.Rule.TheVariants as rule
use Rattle.puya_base.specs.declared.source.Refusal.{Refusal}
use Rattle.py_grammar.specs.declared.type_tree.TypeTree.{TypeTree}
use Rattle.py_grammar.specs.declared.type_tree.TypeArg.TheOpen.{TypeTree-F, TypeArg-F}
use Rattle.py_grammar.specs.declared.type_tree.TypeArg.TheFolds.{fold-TypeTree}
use Rattle.algopy_library.specs.declared.scalar.Scalar.TheVariants as scalar
use Rattle.algopy_library.specs.declared.row.Row.{Row}
use Rattle.algopy_library.specs.declared.row.Row.TheVariants as row
use Rattle.source_names.specs.declared.types.SourceType.{SourceType}
use Rattle.source_names.specs.declared.types.SourceType.TheVariants as ty
use Rattle.source_names.specs.declared.named.Thing.{Thing}
use Rattle.source_names.specs.declared.named.Thing.TheVariants as thing
use Rattle.source_names.specs.declared.named.Entry.{Entry}
use Rattle.source_names.specs.Types.{T, one, nothing, tuple, plain, fits_limits}
use Rattle.source_names.specs.Faults.{breaks}
use Rattle.source_names.specs.Things.{Found, dotted}

-- what an annotation writes: its place, the rules that it breaks, and its type where that is known
pub record Written : Type 0 where
  pub place : Place
  pub faults : List Refusal
  pub ty : Option SourceType

abbrev pub writes : Place → SourceType → Written
writes p t = record { place = p; faults = []; ty = Some t }

-- P13
abbrev pub no_type : Place → Written
no_type p = record { place = p; faults = breaks rule.P13 p; ty = None }

abbrev pub unknown : Place → Written
unknown p = record { place = p; faults = []; ty = None }

abbrev pub row_type : Place → Row → Written
row_type p row.UInt64 = writes p (ty.Scalar scalar.UInt64)
row_type p row.Bool = writes p (ty.Scalar scalar.Bool)
row_type p row.Bytes = writes p (ty.Scalar scalar.Bytes)
row_type p row.Text = writes p (ty.Scalar scalar.Text)
row_type p row.Account = writes p (ty.Scalar scalar.Account)
row_type p _ = no_type p

abbrev pub thing_type : Place → Thing → Written
thing_type p (thing.Library r) = row_type p r
thing_type p thing.Unknown = unknown p
thing_type p _ = no_type p

abbrev pub behind : List Refusal → Written → Written
behind fs w = record { place = w.place; faults = fs ++ w.faults; ty = w.ty }

-- a name alone
abbrev pub named_type : Place → Found → Written
named_type p f = behind f.faults (thing_type p f.thing)

abbrev pub is_nothing : T → Bool
is_nothing (one s) = false
is_nothing nothing = true
is_nothing (tuple ts) = false

abbrev pub kept : Written → SourceType → Written
kept w t = if is_nothing (plain t) then behind w.faults (no_type w.place) else w

-- the type of a value: `None` is none
abbrev pub of_value_when : Written → Option SourceType → Written
of_value_when w (Some t) = kept w t
of_value_when w None = w

abbrev pub of_value : Written → Written
of_value w = of_value_when w w.ty

abbrev pub both : Option SourceType → Option (List SourceType) → Option (List SourceType)
both (Some t) (Some ts) = Some (t ∷ ts)
both (Some t) None = None
both None ts = None

-- what stands in the brackets: a type, or a number
pub data Argument : Type 0 where
  a_type : Written → Argument
  a_number : Argument

pub record Arguments : Type 0 where
  pub faults : List Refusal
  -- none of them has a broken part
  pub known : Bool
  -- the types, where each is one
  pub types : Option (List SourceType)

abbrev pub is_some_type : Option SourceType → Bool
is_some_type None = false
is_some_type (Some t) = true

abbrev pub and_type : Written → Arguments → Arguments
and_type w r = record { faults = w.faults ++ r.faults; known = if is_some_type w.ty then r.known else false; types = both w.ty r.types }

abbrev pub arguments : List Argument → Arguments
arguments [] = record { faults = []; known = true; types = Some [] }
arguments (a_type w ∷ as_) = and_type (of_value w) (arguments as_)
arguments (a_number ∷ as_) = let r = arguments as_ in record { faults = r.faults; known = r.known; types = None }

-- P13 on a tuple that is too large
abbrev pub within_limits : Place → SourceType → Written
within_limits p t = if fits_limits t then writes p t else no_type p

abbrev pub tuple_type : Place → Option (List SourceType) → Written
tuple_type p (Some ts) = within_limits p (ty.Tuple ts)
tuple_type p None = no_type p

abbrev pub applied_row : Place → Row → Option (List SourceType) → Written
applied_row p row.Tuple ts = tuple_type p ts
applied_row p _ ts = no_type p

-- a name with arguments is judged where each argument is known
abbrev pub applied : Place → Thing → Arguments → Written
applied p (thing.Library r) as_ = if as_.known then applied_row p r as_.types else unknown p
applied p thing.Unknown as_ = unknown p
applied p _ as_ = if as_.known then no_type p else unknown p

abbrev pub applied_type : Place → Found → Arguments → Written
applied_type p f as_ = behind (f.faults ++ as_.faults) (applied p f.thing as_)

abbrev pub written_layer : List Entry → List (List ℕ) → TypeTree-F Argument Written → Written
written_layer es vs (TypeTree-F.None p) = writes p ty.Nothing
written_layer es vs (TypeTree-F.Named p ws) = named_type p (dotted es vs ws)
written_layer es vs (TypeTree-F.Of p ws as_ c) = applied_type p (dotted es vs ws) (arguments as_)

abbrev pub argument_layer : TypeArg-F Argument Written → Argument
argument_layer (TypeArg-F.Type w) = a_type w
argument_layer (TypeArg-F.Number n) = a_number

-- what an annotation writes in a module with these names, inside a function with these variables
abbrev pub written : List Entry → List (List ℕ) → TypeTree → Written
written es vs = fold-TypeTree Argument Written (argument_layer) (written_layer es vs)
