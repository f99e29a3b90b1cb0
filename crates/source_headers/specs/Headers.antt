-- Functions as their first lines have them (Python reference 8.7): parameters, results, decorators; P10, P13 and P22 on these.
use Rattle.std.specs.Prelude.{ℕ, Bool, true, false, if◌then◌else◌, List, [], ◌∷◌, ◌++◌, Option, Some, None}
use Rattle.puya_base.specs.declared.source.Place.{Place}
use Rattle.puya_base.specs.declared.source.Rule.TheVariants as rule
use Rattle.puya_base.specs.declared.source.Refusal.{Refusal}
use Rattle.py_grammar.specs.declared.word.Word.{Word}
use Rattle.py_grammar.specs.declared.type_tree.TypeTree.{TypeTree}
use Rattle.py_grammar.specs.declared.expression.Tree.{Tree}
use Rattle.py_grammar.specs.declared.module.Param.{Param}
use Rattle.py_grammar.specs.declared.module.Func.{Func}
use Rattle.algopy_library.specs.declared.row.Row.{Row}
use Rattle.algopy_library.specs.declared.row.Row.TheVariants as row
use Rattle.source_names.specs.declared.named.Thing.{Thing}
use Rattle.source_names.specs.declared.named.Thing.TheVariants as thing
use Rattle.source_names.specs.declared.named.Entry.{Entry}
use Rattle.source_names.specs.declared.signature.Parameter.{Parameter}
use Rattle.source_names.specs.declared.signature.Signature.{Signature}
use Rattle.source_names.specs.Source.{Ex, name, number, text, bytes, flag, paren, tuple, display, member, index, slice, call, unary, binary, choose, tree_of, place_of}
use Rattle.source_names.specs.Faults.{breaks}
use Rattle.source_names.specs.Things.{Found, stands_for, behind, module_name, member_of, entry_named, is_myself}
use Rattle.source_names.specs.Lookups.{is_seen}
use Rattle.source_names.specs.Annotations.{Written, written, of_value}

-- ---- parameters

-- P13 on a parameter without an annotation
abbrev pub annotated : List Entry → Word → Option TypeTree → Written
annotated es w None = record { place = w.place; faults = breaks rule.P13 w.place; ty = None }
annotated es w (Some t) = of_value (written es [] t)

abbrev pub parameter : List Entry → Param → Parameter
parameter es p = record { name = p.name.name; place = p.name.place; ty = (annotated es p.name p.annotation).ty }

abbrev pub parameters : List Entry → List Param → List Parameter
parameters es [] = []
parameters es (p ∷ ps) = parameter es p ∷ parameters es ps

abbrev pub all_annotated : List Entry → List Param → List Refusal
all_annotated es [] = []
all_annotated es (p ∷ ps) = (annotated es p.name p.annotation).faults ++ all_annotated es ps

-- an annotation of `self` says nothing, but it writes a type
abbrev pub myself_annotated : List Entry → Option TypeTree → List Refusal
myself_annotated es None = []
myself_annotated es (Some t) = (of_value (written es [] t)).faults

-- P10 on a name that was seen before
unfoldable pub again : List (List ℕ) → List ℕ → Place → List Refusal
again seen n p = if is_seen n seen then breaks rule.P10 p else []

-- P10 on each name that stands before
abbrev pub twice : List (List ℕ) → List Word → List Refusal
twice seen [] = []
twice seen (w ∷ ws) = (if is_seen w.name seen then breaks rule.P10 w.place else []) ++ twice (w.name ∷ seen) ws

abbrev pub param_names : List Param → List Word
param_names [] = []
param_names (p ∷ ps) = p.name ∷ param_names ps

abbrev pub clashes_when : Place → Option Thing → List Refusal
clashes_when p None = []
clashes_when p (Some t) = breaks rule.P10 p

-- P10 on a variable that is named as a module name
abbrev pub clashes : List Entry → Word → List Refusal
clashes es w = clashes_when w.place (entry_named es w.name)

abbrev pub all_clashes : List Entry → List Word → List Refusal
all_clashes es [] = []
all_clashes es (w ∷ ws) = clashes es w ++ all_clashes es ws

-- whether the first parameter is `self`, and the others
pub record Divided : Type 0 where
  pub myself : Option Param
  pub others : List Param

abbrev pub all_params : List Param → Divided
all_params ps = record { myself = None; others = ps }

abbrev pub divided_when : Bool → Param → List Param → Divided
divided_when true p ps = record { myself = Some p; others = ps }
divided_when false p ps = all_params (p ∷ ps)

-- a member's first parameter is `self`; in a function of the module it is a parameter as any other
abbrev pub divided : Bool → List Param → Divided
divided false ps = all_params ps
divided true [] = all_params []
divided true (p ∷ ps) = divided_when (is_myself p.name.name) p ps

abbrev pub myself_faults : List Entry → Option Param → List Refusal
myself_faults es None = []
myself_faults es (Some p) = myself_annotated es p.annotation

-- ---- results

-- P13 on a function without the type of its result
abbrev pub resulted : List Entry → Place → Option TypeTree → Written
resulted es p None = record { place = p; faults = breaks rule.P13 p; ty = None }
resulted es p (Some t) = written es [] t

abbrev pub signature : List Entry → Bool → Func → Signature
signature es inside f = record { params = parameters es (divided inside f.params).others; result = (resulted es f.place f.result).ty }

abbrev pub signature_faults : List Entry → Bool → Func → List Refusal
signature_faults es inside f =
    let d = divided inside f.params in
    myself_faults es d.myself ++ (all_annotated es d.others ++ (twice [] (param_names f.params) ++ (all_clashes es (param_names f.params) ++ (resulted es f.place f.result).faults)))

-- ---- decorators

abbrev pub not_alone : Thing → Thing
not_alone thing.Unknown = thing.Unknown
not_alone _ = thing.Variable

-- something made of a name is no decorator
abbrev pub made_of : Found → Found
made_of f = record { faults = f.faults; thing = not_alone f.thing }

abbrev pub no_name : Found
no_name = stands_for thing.Variable

abbrev pub decorator : List Entry → Ex → Found
decorator es (name w) = module_name es w
decorator es (number l) = no_name
decorator es (text p ls) = no_name
decorator es (bytes p ls) = no_name
decorator es (flag p b) = no_name
decorator es (paren p e) = decorator es e
decorator es (tuple p xs) = no_name
decorator es (display p xs) = no_name
decorator es (member p e w) = let f = decorator es e in behind f (member_of [] f.thing w)
decorator es (index p e i) = made_of (decorator es e)
decorator es (slice p e a b) = made_of (decorator es e)
decorator es (call p f as_) = made_of (decorator es f)
decorator es (unary p o e) = no_name
decorator es (binary p o a b) = no_name
decorator es (choose p a c b) = no_name

-- P22 on a decorator that is none, or stands where none may
abbrev pub unwanted : Place → Thing → List Refusal
unwanted p thing.Unknown = []
unwanted p _ = breaks rule.P22 p

abbrev pub all_unwanted : List Entry → List Tree → List Refusal
all_unwanted es [] = []
all_unwanted es (d ∷ ds) =
    let f = decorator es (tree_of d) in
    f.faults ++ (unwanted (place_of (tree_of d)) f.thing ++ all_unwanted es ds)

abbrev pub wanted_row : Place → Row → List Refusal
wanted_row p row.Subroutine = []
wanted_row p _ = breaks rule.P22 p

-- the decorator of a function
abbrev pub wanted : Place → Thing → List Refusal
wanted p (thing.Library r) = wanted_row p r
wanted p thing.Unknown = []
wanted p _ = breaks rule.P22 p

-- a function has one decorator, `subroutine`; P22 at `def` where it has none, and at each further one
abbrev pub decorators : List Entry → Place → List Tree → List Refusal
decorators es p [] = breaks rule.P22 p
decorators es p (d ∷ ds) =
    let f = decorator es (tree_of d) in
    f.faults ++ (wanted (place_of (tree_of d)) f.thing ++ all_unwanted es ds)
