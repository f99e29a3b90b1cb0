-- Functions: their variables, their notes, the rules that they break, and the typed function; P10 on variables and P24.
use Rattle.std.specs.Prelude.{ℕ, ◌+◌, Bool, nat_le, if◌then◌else◌, List, [], ◌∷◌, ◌++◌, map, length, take, drop, Option, Some, None}
use Rattle.puya_base.specs.declared.source.Place.{Place}
use Rattle.puya_base.specs.declared.source.Rule.TheVariants as rule
use Rattle.puya_base.specs.declared.source.Refusal.{Refusal}
use Rattle.awst.specs.declared.ty.Ty.{Ty}
use Rattle.awst.specs.declared.contract.Func.{Func as TypedFunc}
use Rattle.awst.specs.declared.statement.Stmt.{Stmt}
use Rattle.awst.specs.Functions.{places_of}
use Rattle.py_grammar.specs.declared.word.Word.{Word}
use Rattle.py_grammar.specs.declared.module.Func.{Func}
use Rattle.path_rules.specs.declared.note.Note.{Note}
use Rattle.path_rules.specs.declared.note.Note.TheVariants as note
use Rattle.source_names.specs.declared.types.SourceType.{SourceType}
use Rattle.source_names.specs.declared.signature.Parameter.{Parameter}
use Rattle.source_names.specs.declared.signature.Signature.{Signature}
use Rattle.source_names.specs.Types.{typed, is_nothing}
use Rattle.source_names.specs.Faults.{breaks}
use Rattle.source_headers.specs.Headers.{all_clashes}
use Rattle.meaning_rules.specs.declared.scope.Scope.{Scope}
use Rattle.meaning_rules.specs.declared.scope.Local.{Local}
use Rattle.meaning_rules.specs.declared.scope.Status.{Status}
use Rattle.meaning_rules.specs.declared.scope.Status.TheVariants as status
use Rattle.statement_check.specs.Lines.{block_of}
use Rattle.statement_check.specs.Noting.{target_local}
use Rattle.statement_check.specs.Targets.{all_targets, first_ones}
use Rattle.statement_check.specs.Statements.{Done, checks}

-- ---- variables

abbrev pub param_local : Parameter → Local
param_local p = record { name = p.name; status = status.Fixed p.ty }

abbrev pub parameter_names : List Parameter → List (List ℕ)
parameter_names ps = map (λ (p : Parameter). p.name) ps

-- the variables besides the parameters, where they are first targets
abbrev pub target_words : Bool → Signature → Func → List Word
target_words inside s f = first_ones inside (parameter_names s.params) (all_targets (block_of f.body))

abbrev pub first_locals : Bool → Signature → Func → List Local
first_locals inside s f = map param_local s.params ++ map target_local (target_words inside s f)

-- ---- bodies

abbrev pub body : Scope → Bool → Signature → Func → Done
body s inside g f = checks s g.result (first_locals inside g f) (block_of f.body)

abbrev pub assigned_from : ℕ → List Parameter → List Note
assigned_from i [] = []
assigned_from i (p ∷ ps) = note.Assign i ∷ assigned_from (i + 1) ps

-- the parameters are assigned, and then the body runs
abbrev pub notes_of : Scope → Bool → Signature → Func → List Note
notes_of s inside g f = assigned_from 0 g.params ++ (body s inside g f).notes

abbrev pub end_when : Place → Option SourceType → Option Place
end_when p None = None
end_when p (Some t) = if is_nothing t then None else Some p

-- where a missing return is told: at the name of a function that has a result
abbrev pub end_of : Signature → Func → Option Place
end_of g f = end_when f.name.place g.result

-- ---- typed functions

abbrev pub both_types : Option Ty → Option (List Ty) → Option (List Ty)
both_types (Some t) (Some ts) = Some (t ∷ ts)
both_types (Some t) None = None
both_types None ts = None

abbrev pub type_known : Option SourceType → Option Ty
type_known None = None
type_known (Some t) = Some (typed t)

abbrev pub status_type : Status → Option Ty
status_type status.Unseen = None
status_type (status.Fixed t) = type_known t

abbrev pub local_types : List Local → Option (List Ty)
local_types [] = Some []
local_types (l ∷ ls) = both_types (status_type l.status) (local_types ls)

abbrev pub function_of : ℕ → Func → Option Ty → Option (List Ty) → Option (List Stmt) → Option TypedFunc
function_of n f (Some r) (Some ts) (Some ss) = Some (record { name = f.name.name; params = take n ts; result = r; locals = drop n ts; body = ss })
function_of n f _ _ _ = None

-- the typed function, where its signature, its variables and its statements are known
abbrev pub typed_function : Scope → Bool → Signature → Func → Option TypedFunc
typed_function s inside g f =
    let d = body s inside g f in
    function_of (length g.params) f (type_known g.result) (local_types d.locals) d.typed

-- ---- the rules

abbrev pub place_limit : ℕ
place_limit = 100

abbrev pub place_faults : Place → Option TypedFunc → List Refusal
place_faults p None = []
place_faults p (Some f) = if nat_le (places_of f) place_limit then [] else breaks rule.P24 p

-- P10 on a variable named as a module name, and P24 where each expression has a type
abbrev pub body_faults : Scope → Bool → Signature → Func → List Refusal
body_faults s inside g f = all_clashes s.entries (target_words inside g f) ++ place_faults f.name.place (typed_function s inside g f)
