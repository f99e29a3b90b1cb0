-- What is good: what the checker says of expressions, as the typed tree needs it. A world is what a function may name, and the variables that it may read.
use Rattle.std.proofs.Common.{◌≡◌, ℕ, suc, map, ◌≤◌, Bool, true, false, List, [], ◌∷◌, length, Option, Some, None}
use Rattle.std.specs.Prelude.{IsTrue, slice_get}
use Rattle.puya_base.specs.declared.source.Refusal.{Refusal}
use Rattle.awst.specs.Types.{ValueType, uint64, bool, type_of, is_kept}
use Rattle.awst.specs.Paths as Paths
use Rattle.awst.specs.Tree.{Ex, ex, Form, constant, variable, strict, both, one_of, choose, call, Exs, no_exprs, an_expr}
use Rattle.awst.specs.Plain.{tree_of, optional_tree}
use Rattle.awst.specs.Shapes.{Fits, shape_of}
use Rattle.awst.specs.Sound.{Names, Signature, literal_limit, IsSound, IsOf, IsOptionalOf, ty_of}
use Rattle.algopy_library.specs.declared.form.Form.{Form as LibraryForm}
use Rattle.algopy_library.specs.declared.member.Member.{Member}
use Rattle.algopy_library.specs.declared.member.Member.TheVariants as member
use Rattle.path_rules.specs.declared.note.Note.{Note}
use Rattle.path_rules.specs.Steps.{Step, broken, read, Steps, step_of, steps_of}
use Rattle.path_rules.specs.Walks as Walks
use Rattle.path_rules.specs.Rules.{TellAll}
use Rattle.source_names.specs.declared.types.SourceType.{SourceType}
use Rattle.source_names.specs.declared.types.SourceType.TheVariants as ty
use Rattle.source_names.specs.declared.constant.Constant.{Constant}
use Rattle.source_names.specs.declared.constant.Constant.TheVariants as constant_
use Rattle.source_names.specs.declared.named.Thing.{Thing}
use Rattle.source_names.specs.declared.named.Thing.TheVariants as thing
use Rattle.source_names.specs.declared.named.Entry.{Entry}
use Rattle.source_names.specs.declared.signature.Parameter.{Parameter}
use Rattle.source_names.specs.declared.signature.Signature.{Signature as SourceSignature}
use Rattle.source_names.specs.Types.{typed, is_nothing, scalar_of}
use Rattle.meaning_rules.specs.declared.meaning.Typed.{Typed}
use Rattle.meaning_rules.specs.declared.meaning.Lit.{Lit}
use Rattle.meaning_rules.specs.declared.meaning.Lit.TheVariants as lit
use Rattle.meaning_rules.specs.declared.meaning.Range.{Range}
use Rattle.meaning_rules.specs.declared.meaning.Meaning.{Meaning}
use Rattle.meaning_rules.specs.declared.meaning.Meaning.TheVariants as meaning
use Rattle.meaning_rules.specs.declared.scope.Scope.{Scope}
use Rattle.meaning_rules.specs.declared.scope.Local.{Local}
use Rattle.meaning_rules.specs.declared.scope.Status.TheVariants as status
use Rattle.meaning_rules.specs.declared.operand.Operand.{Operand}
use Rattle.meaning_rules.specs.declared.operand.Operand.TheVariants.{Value as a_value, Literal as a_literal, Missing as missing}
use Rattle.meaning_rules.specs.declared.operand.End.{End}
use Rattle.meaning_rules.specs.declared.operand.End.TheVariants.{Number as an_end}
use Rattle.meaning_rules.specs.Meanings.{Judged, Valued, Operated}
use Rattle.meaning_rules.specs.Operations.{Parts, Ended}
use Rattle.call_rules.specs.Calls.{admits_scalar, results_type, form_count}
use Rattle.algopy_library.specs.Forms.{admitted}

-- ---- types

-- the type of plain trees for a type of the source
abbrev pub value_type : SourceType → ValueType
value_type t = type_of (typed t)

abbrev pub IsKeptType : SourceType → Type 0
IsKeptType t = IsTrue (is_kept (value_type t))

-- the type of a value, or what a function without a result gives
abbrev pub IsResultType : SourceType → Type 0
IsResultType t = is_nothing t ≡ false → IsKeptType t

-- ---- notes on expressions

abbrev pub Each : (Step → Type 0) → List Note → Type 0
Each P [] = Unit {0}
Each P (n ∷ ns) = P (step_of n) × Each P ns

abbrev pub IsReading : Step → Type 0
IsReading (broken r) = Unit {0}
IsReading (read x p) = Unit {0}
IsReading _ = ⊥

-- they tell of broken rules and of reads alone
abbrev pub Reading : List Note → Type 0
Reading ns = Each IsReading ns

abbrev pub IsAllowed : (ℕ → Bool) → Step → Type 0
IsAllowed reads (read x p) = IsTrue (reads x)
IsAllowed reads _ = Unit {0}

-- each variable that they read may be read
abbrev pub Allows : (ℕ → Bool) → List Note → Type 0
Allows reads ns = Each (IsAllowed reads) ns

-- ---- trees

-- each variable that is read in a tree may be read
abbrev mutual
  pub Within : (ℕ → Bool) → Ex → Type 0
  Within reads (ex node form) = FormWithin reads form

  pub FormWithin : (ℕ → Bool) → Form → Type 0
  FormWithin reads (constant v) = Unit {0}
  FormWithin reads (variable x) = IsTrue (reads x)
  FormWithin reads (strict operation es) = AllWithin reads es
  FormWithin reads (both a b) = Within reads a × Within reads b
  FormWithin reads (one_of a b) = Within reads a × Within reads b
  FormWithin reads (choose c a b) = Within reads c × (Within reads a × Within reads b)
  FormWithin reads (call f es order) = AllWithin reads es

  pub AllWithin : (ℕ → Bool) → Exs → Type 0
  AllWithin reads no_exprs = Unit {0}
  AllWithin reads (an_expr e es) = Within reads e × AllWithin reads es

-- ---- worlds

pub record World : Type 0 where
  pub names : Names
  pub reads : ℕ → Bool

-- a typed expression, as a tree of its type
pub record GoodTyped (w : World) (t : Typed) : Type 0 where
  pub sound : IsSound w.names (tree_of t.expr)
  pub type_is : ty_of (tree_of t.expr) ≡ value_type t.ty
  pub kept : IsResultType t.ty
  pub reads : Within w.reads (tree_of t.expr)

abbrev pub GoodLit : Lit → Type 0
GoodLit (lit.Number n) = Unit {0}
GoodLit (lit.Text b) = length b ≤ literal_limit
GoodLit (lit.Bytes b) = length b ≤ literal_limit

-- arguments of these types are admitted, one after another from that number on
abbrev pub Admitted : LibraryForm → ℕ → List SourceType → Type 0
Admitted f i [] = Unit {0}
Admitted f i (t ∷ ts) = (admits_scalar (admitted f i) (scalar_of t) ≡ true) × Admitted f (suc i) ts

-- a form gives its result for each list of arguments that it takes
abbrev pub GoodForm : LibraryForm → Type 0
GoodForm f = (ts : List SourceType) → length ts ≡ form_count f → Admitted f 0 ts → Fits (shape_of f.prim) (map value_type ts) (value_type (results_type f.results f.result))

abbrev pub GoodMember : Member → Type 0
GoodMember (member.Value q t) = Fits (shape_of q) [] (value_type (ty.Scalar t))
GoodMember (member.Application q) = Fits (shape_of q) [] uint64
GoodMember (member.Form f) = GoodForm f × IsResultType (results_type f.results f.result)
GoodMember _ = Unit {0}

abbrev pub GoodThing : Thing → Type 0
GoodThing (thing.Member m) = GoodMember m
GoodThing _ = Unit {0}

-- what a `for` goes over
pub record GoodRange (w : World) (r : Range) : Type 0 where
  pub start : IsOptionalOf w.names uint64 (optional_tree r.start)
  pub start_reads : (e : Ex) → optional_tree r.start ≡ Some e → Within w.reads e
  pub stop : IsOf w.names uint64 (tree_of r.stop)
  pub stop_reads : Within w.reads (tree_of r.stop)
  pub step : 1 ≤ r.step

abbrev pub GoodMeaning : World → Meaning → Type 0
GoodMeaning w (meaning.Value t) = GoodTyped w t
GoodMeaning w (meaning.Literal p l) = GoodLit l
GoodMeaning w (meaning.Thing t) = GoodThing t
GoodMeaning w (meaning.Range r) = GoodRange w r
GoodMeaning w meaning.Unknown = Unit {0}

abbrev pub GoodOperand : World → Operand → Type 0
GoodOperand w (a_value t) = GoodTyped w t × IsKeptType t.ty
GoodOperand w (a_literal p l) = GoodLit l
GoodOperand w missing = Unit {0}

-- a value, where it is known
abbrev pub GoodOption : World → Option Typed → Type 0
GoodOption w None = Unit {0}
GoodOption w (Some t) = GoodTyped w t × IsKeptType t.ty

-- Notes that tell of broken rules and reads alone, and what holds where that premise does and each variable that they read may be read.
pub record Gives (w : World) (P : Type 0) (ns : List Note) (Q : Type 0) : Type 0 where
  pub reading : Reading ns
  pub holds : P → Allows w.reads ns → Q

abbrev pub Always : Type 0
Always = Unit {0}

abbrev pub GoodJudged : World → Type 0 → Judged → Type 0
GoodJudged w P j = Gives w P j.notes (GoodMeaning w j.meaning)

abbrev pub GoodValued : World → Type 0 → Valued → Type 0
GoodValued w P v = Gives w P v.notes (GoodOption w v.typed)

abbrev pub GoodOperated : World → Type 0 → Operated → Type 0
GoodOperated w P o = Gives w P o.notes (GoodOperand w o.operand)

-- ---- scopes

-- a variable whose type is fixed is one of that type
pub record SeenType (names : Names) (i : ℕ) (t : Option SourceType) : Type 0 where
  pub ty : SourceType
  pub is : t ≡ Some ty
  pub at : slice_get names.variables i ≡ Some (value_type ty)
  pub kept : IsKeptType ty

abbrev pub Sees : Names → List Local → Type 0
Sees names ls = (i : ℕ) (l : Local) (t : Option SourceType) → slice_get ls i ≡ Some l → l.status ≡ status.Fixed t → SeenType names i t

-- a function as the typed contract has it
pub record KnowsFunction (functions : List Signature) (n : ℕ) (g : SourceSignature) : Type 0 where
  pub signature : Signature
  pub exists : slice_get functions n ≡ Some signature
  pub count : length signature.params ≡ length g.params
  pub param : (i : ℕ) (p : Parameter) (t : SourceType) → slice_get g.params i ≡ Some p → p.ty ≡ Some t → slice_get signature.params i ≡ Some (value_type t)
  pub result : (t : SourceType) → g.result ≡ Some t → (signature.result ≡ value_type t) × IsResultType t

abbrev pub KnowsFunctions : List Signature → List SourceSignature → Type 0
KnowsFunctions functions gs = (n : ℕ) (g : SourceSignature) → slice_get gs n ≡ Some g → KnowsFunction functions n g

abbrev pub ShortConstant : Constant → Type 0
ShortConstant (constant_.Text b) = length b ≤ literal_limit
ShortConstant (constant_.Bytes b) = length b ≤ literal_limit
ShortConstant _ = Unit {0}

abbrev pub GoodConstants : List Constant → Type 0
GoodConstants cs = (i : ℕ) (c : Constant) → slice_get cs i ≡ Some c → ShortConstant c

abbrev pub GoodEntries : List Entry → Type 0
GoodEntries [] = Unit {0}
GoodEntries (e ∷ es) = GoodThing e.thing × GoodEntries es

-- the names of a scope, its variables aside
pub record GoodNames (names : Names) (s : Scope) : Type 0 where
  pub entries : GoodEntries s.entries
  pub constants : GoodConstants s.constants
  pub functions : KnowsFunctions names.functions s.functions

pub record GoodScope (names : Names) (s : Scope) : Type 0 where
  pub known : GoodNames names s
  pub locals : Sees names s.locals

-- ---- what tuples, slices and conditions are made of

abbrev pub EachKept : List SourceType → Type 0
EachKept [] = Unit {0}
EachKept (t ∷ ts) = IsKeptType t × EachKept ts

abbrev pub GoodTypeds : World → List Typed → Type 0
GoodTypeds w [] = Unit {0}
GoodTypeds w (t ∷ ts) = (GoodTyped w t × IsKeptType t.ty) × GoodTypeds w ts

abbrev pub GoodTypedsWhen : World → Option (List Typed) → Type 0
GoodTypedsWhen w None = Unit {0}
GoodTypedsWhen w (Some ts) = GoodTypeds w ts

abbrev pub GoodParts : World → Parts → Type 0
GoodParts w r = Gives w Always r.notes (GoodTypedsWhen w r.typed)

abbrev pub GoodEnd : World → End → Type 0
GoodEnd w (an_end e) = IsOf w.names uint64 (tree_of e) × Within w.reads (tree_of e)
GoodEnd w _ = Unit {0}

abbrev pub GoodEnded : World → Ended → Type 0
GoodEnded w e = Gives w Always e.notes (GoodEnd w e.end)

-- a condition, where it is known
abbrev pub GoodCondition : World → Option Typed → Type 0
GoodCondition w None = Unit {0}
GoodCondition w (Some t) = GoodTyped w t × (ty_of (tree_of t.expr) ≡ bool)

-- ---- variables as statements go on

-- each type that is fixed is known, and the variable has it
pub record SettledType (names : Names) (i : ℕ) (t : Option SourceType) : Type 0 where
  pub ty : SourceType
  pub is : t ≡ Some ty
  pub at : slice_get names.variables i ≡ Some (value_type ty)

abbrev pub Settled : Names → List Local → Type 0
Settled names ls = (i : ℕ) (l : Local) (t : Option SourceType) → slice_get ls i ≡ Some l → l.status ≡ status.Fixed t → SettledType names i t

abbrev pub KeptLocals : List Local → Type 0
KeptLocals ls = (i : ℕ) (l : Local) (t : SourceType) → slice_get ls i ≡ Some l → l.status ≡ status.Fixed (Some t) → IsKeptType t

-- a variable whose type is fixed keeps it
pub record Stays (ls : List Local) (i : ℕ) (t : Option SourceType) : Type 0 where
  pub local : Local
  pub at : slice_get ls i ≡ Some local
  pub status : local.status ≡ status.Fixed t

pub record Later (ls more : List Local) : Type 0 where
  pub same_length : length more ≡ length ls
  pub stays : (i : ℕ) (l : Local) (t : Option SourceType) → slice_get ls i ≡ Some l → l.status ≡ status.Fixed t → Stays more i t

-- notes that tell of no broken rule, inside a loop or outside
abbrev pub Quiet : Bool → List Note → Type 0
Quiet inside ns = (r : Refusal) → TellAll inside (steps_of ns) r → ⊥

-- ---- paths

-- a walk of moves as a walk of steps has it; where the read stands does not count
abbrev pub Agrees : Paths.Way → Walks.Way → Type 0
Agrees Paths.goes_on (Walks.out Walks.goes) = Unit {0}
Agrees Paths.at_break (Walks.out Walks.breaks) = Unit {0}
Agrees Paths.at_continue (Walks.out Walks.continues) = Unit {0}
Agrees Paths.at_end Walks.returns = Unit {0}
Agrees (Paths.at_read p) (Walks.at q) = Unit {0}
Agrees _ _ = ⊥

pub record Followed (x : ℕ) (fs : Steps) (s : Bool) (w : Paths.Way) (t : Bool) : Type 0 where
  pub way : Walks.Way
  pub agrees : Agrees w way
  pub walk : Walks.Walks x fs s way t

-- each walk of the moves is one of the steps
abbrev pub Follows : Steps → Paths.Moves → Type 0
Follows fs ms = (x : ℕ) (s t : Bool) (w : Paths.Way) → Paths.Walks x ms s w t → Followed x fs s w t
