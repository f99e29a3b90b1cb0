-- Calls (Python reference 6.3.4): what is called, which parameter each argument is for, and what the forms of the library take; P09, P14 and P15.
use Rattle.std.specs.Prelude.{ℕ, zero, suc, ◌+◌, ◌*◌, ◌==◌, ◌%◌, nat_lt, nat_le, Bool, true, false, ◌&&◌, ◌||◌, if◌then◌else◌, List, [], ◌∷◌, ◌++◌, map, length, bytes_eq, Option, Some, None, slice_get}
use Rattle.puya_base.specs.declared.source.Place.{Place}
use Rattle.puya_base.specs.declared.source.Rule.{Rule}
use Rattle.puya_base.specs.declared.source.Rule.TheVariants as rule
use Rattle.awst.specs.declared.expression.Expr.{Expr}
use Rattle.awst.specs.declared.expression.ExprKind.{ExprKind}
use Rattle.awst.specs.declared.expression.ExprKind.TheVariants as kind
use Rattle.awst.specs.declared.primitive.Primitive.{Primitive}
use Rattle.awst.specs.declared.primitive.Primitive.TheVariants as prim
use Rattle.py_lexer.specs.Numbers.{digit_value}
use Rattle.py_grammar.specs.declared.word.Word.{Word}
use Rattle.algopy_library.specs.declared.scalar.Scalar.{Scalar}
use Rattle.algopy_library.specs.declared.scalar.Scalar.TheVariants as scalar
use Rattle.algopy_library.specs.declared.row.Row.{Row}
use Rattle.algopy_library.specs.declared.row.Row.TheVariants as row
use Rattle.algopy_library.specs.declared.form.Admits.{Admits}
use Rattle.algopy_library.specs.declared.form.Admits.TheVariants as class
use Rattle.algopy_library.specs.declared.form.Form.{Form}
use Rattle.algopy_library.specs.declared.member.Member.{Member}
use Rattle.algopy_library.specs.declared.member.Member.TheVariants as member
use Rattle.algopy_library.specs.Forms.{admitted}
use Rattle.algopy_library.specs.Operators.{has_truth, is_logged}
use Rattle.path_rules.specs.declared.note.Note.{Note}
use Rattle.source_names.specs.declared.types.SourceType.{SourceType}
use Rattle.source_names.specs.declared.types.SourceType.TheVariants as ty
use Rattle.source_names.specs.declared.named.Thing.{Thing}
use Rattle.source_names.specs.declared.named.Thing.TheVariants as thing
use Rattle.source_names.specs.declared.signature.Parameter.{Parameter}
use Rattle.source_names.specs.declared.signature.Signature.{Signature}
use Rattle.source_names.specs.Types.{typed, same_type, scalar_of}
use Rattle.meaning_rules.specs.declared.meaning.Hope.{Hope}
use Rattle.meaning_rules.specs.declared.meaning.Hope.TheVariants as hope
use Rattle.meaning_rules.specs.declared.meaning.Context.{Context}
use Rattle.meaning_rules.specs.declared.meaning.Typed.{Typed}
use Rattle.meaning_rules.specs.declared.meaning.Lit.{Lit}
use Rattle.meaning_rules.specs.declared.meaning.Lit.TheVariants as lit
use Rattle.meaning_rules.specs.declared.meaning.Range.{Range}
use Rattle.meaning_rules.specs.declared.meaning.Meaning.{Meaning}
use Rattle.meaning_rules.specs.declared.meaning.Meaning.TheVariants as meaning
use Rattle.meaning_rules.specs.declared.scope.Scope.{Scope}
use Rattle.meaning_rules.specs.declared.operand.Operand.{Operand}
use Rattle.meaning_rules.specs.declared.operand.Operand.TheVariants.{Value as a_value, Literal as a_literal, Missing as missing}
use Rattle.call_rules.specs.declared.callee.Slot.{Slot}
use Rattle.call_rules.specs.declared.callee.Slot.TheVariants.{Wrong as wrong, At as at, Beyond as beyond}
use Rattle.call_rules.specs.declared.slots.Used.{Used}
use Rattle.call_rules.specs.declared.arguments.Known.{Known}
use Rattle.call_rules.specs.declared.arguments.Known.TheVariants.{Value as value_at, Literal as literal_at}
use Rattle.meaning_rules.specs.Meanings.{Judged, Valued, Operated, broken, unknown, breaks, says, after, a_node, node, no_value, value_breaks, a_typed, literal, lit_node, operand_of, settled, fits_type, hoped, context, truth_of}

-- ---- what is called

pub data Callee : Type 0 where
  -- a function of the contract, by its number
  a_function : ℕ → Signature → Callee
  a_form : Form → Callee
  -- a type: UInt64, bool, Bytes or String
  a_type : Scalar → Callee
  from_hex : Callee
  logs : Callee
  ranges : Callee
  -- what can't be called
  no_callee : Callee
  unknown_callee : Callee

abbrev pub function_callee : ℕ → Option Signature → Callee
function_callee i None = unknown_callee
function_callee i (Some s) = a_function i s

abbrev pub row_callee : Row → Callee
row_callee row.UInt64 = a_type scalar.UInt64
row_callee row.Bool = a_type scalar.Bool
row_callee row.Bytes = a_type scalar.Bytes
row_callee row.Text = a_type scalar.Text
row_callee row.Log = logs
row_callee row.Urange = ranges
row_callee _ = no_callee

abbrev pub member_callee : Member → Callee
member_callee (member.Form f) = a_form f
member_callee member.FromHex = from_hex
member_callee _ = no_callee

abbrev pub thing_callee : List Signature → Thing → Callee
thing_callee fs (thing.Library r) = row_callee r
thing_callee fs (thing.Member m) = member_callee m
thing_callee fs (thing.Function i) = function_callee i (slice_get fs i)
thing_callee fs (thing.Method i) = function_callee i (slice_get fs i)
thing_callee fs thing.Unknown = unknown_callee
thing_callee fs _ = no_callee

abbrev pub callee : List Signature → Meaning → Callee
callee fs (meaning.Thing t) = thing_callee fs t
callee fs (meaning.Value t) = no_callee
callee fs (meaning.Literal q l) = no_callee
callee fs (meaning.Range r) = no_callee
callee fs meaning.Unknown = unknown_callee

-- ---- which parameter an argument is for

abbrev pub is_used : ℕ → List ℕ → Bool
is_used n [] = false
is_used n (m ∷ ms) = if n == m then true else is_used n ms

abbrev pub param_from : ℕ → List ℕ → List Parameter → Option ℕ
param_from i n [] = None
param_from i n (p ∷ ps) = if bytes_eq p.name n then Some i else param_from (suc i) n ps

-- P09 on a keyword that names no parameter, P15 on one whose parameter has its argument
abbrev pub keyed : Place → List ℕ → Option ℕ → Slot
keyed p used None = wrong rule.P09 p
keyed p used (Some j) = if is_used j used then wrong rule.P15 p else at j

abbrev pub placed : ℕ → Option Parameter → Slot
placed i None = beyond
placed i (Some p) = at i

abbrev pub nothing_used : Used
nothing_used = record { numbers = []; keyword = false }

-- by position and then by keyword: P15 on an argument by position behind a keyword
abbrev pub function_slot : Signature → ℕ → Used → Option Word → Place → Slot
function_slot s i u (Some k) p = keyed k.place u.numbers (param_from 0 k.name s.params)
function_slot s i u None p = if u.keyword then wrong rule.P15 p else placed i (slice_get s.params i)

-- the forms of the library take their arguments by position: P09 on a keyword
abbrev pub library_slot : ℕ → Option Word → Slot
library_slot i (Some k) = wrong rule.P09 k.place
library_slot i None = at i

-- what can't be called, or is not known, asks nothing of its arguments
abbrev pub slot : Callee → ℕ → Used → Option Word → Place → Slot
slot (a_function n s) i u k p = function_slot s i u k p
slot no_callee i u k p = at i
slot unknown_callee i u k p = at i
slot _ i u k p = library_slot i k

-- ---- what is hoped of an argument

abbrev pub admits_hope : Admits → Hope
admits_hope class.Number = hope.Wants (ty.Scalar scalar.UInt64)
admits_hope class.Bytes = hope.Wants (ty.Scalar scalar.Bytes)
admits_hope class.Either = hope.Free
admits_hope class.Nothing = hope.Free

-- the bounds of `urange` are numbers; its step is judged as a literal
abbrev pub range_hope : ℕ → Hope
range_hope i = if nat_lt i 2 then hope.Wants (ty.Scalar scalar.UInt64) else hope.Free

-- behind the last parameter nothing is expected; the count is judged at the call
abbrev pub parameter_hope : Option Parameter → Hope
parameter_hope None = hope.Free
parameter_hope (Some p) = hoped p.ty

abbrev pub hope_at : Callee → ℕ → Hope
hope_at (a_function n s) i = parameter_hope (slice_get s.params i)
hope_at (a_form f) i = admits_hope (admitted f i)
hope_at (a_type s) i = hope.Free
hope_at from_hex i = hope.Free
hope_at logs i = hope.Free
hope_at ranges i = range_hope i
hope_at no_callee i = hope.Free
hope_at unknown_callee i = hope.Unknown

abbrev pub slot_hope : Callee → Slot → Hope
slot_hope c (wrong r p) = hope.Unknown
slot_hope c (at i) = hope_at c i
slot_hope c beyond = hope.Free

abbrev pub is_nothing_admitted : Admits → Bool
is_nothing_admitted class.Nothing = true
is_nothing_admitted _ = false

-- whether a literal stays one there: where a type is called, in `from_hex`, as the step of `urange`, and behind the last parameter
abbrev pub takes_literal : Callee → ℕ → Bool
takes_literal (a_type s) i = true
takes_literal from_hex i = true
takes_literal ranges i = nat_le 2 i
takes_literal no_callee i = true
takes_literal (a_function n s) i = false
takes_literal (a_form f) i = is_nothing_admitted (admitted f i)
takes_literal logs i = false
takes_literal unknown_callee i = false

abbrev pub slot_takes : Callee → Slot → Bool
slot_takes c (wrong r p) = false
slot_takes c (at i) = takes_literal c i
slot_takes c beyond = true

-- ---- arguments

abbrev pub slot_number : Slot → ℕ
slot_number (wrong r p) = 0
slot_number (at i) = i
slot_number beyond = 0

abbrev pub slot_notes : Slot → List Note
slot_notes (wrong r p) = broken r p ∷ []
slot_notes (at i) = []
slot_notes beyond = []

pub record Given : Type 0 where
  pub notes : List Note
  pub known : Option Known

abbrev pub known_value : ℕ → Option Typed → Option Known
known_value i None = None
known_value i (Some t) = Some (value_at i t)

abbrev pub given_value : ℕ → Valued → Given
given_value i v = record { notes = v.notes; known = known_value i v.typed }

abbrev pub given_literal : Bool → Hope → ℕ → Place → Lit → Given
given_literal true h i q l = record { notes = []; known = Some (literal_at i q l) }
given_literal false h i q l = given_value i (literal h q l)

abbrev pub given_operand : Callee → Slot → Operand → Given
given_operand c s (a_value t) = record { notes = []; known = Some (value_at (slot_number s) t) }
given_operand c s (a_literal q l) = given_literal (slot_takes c s) (slot_hope c s) (slot_number s) q l
given_operand c s missing = record { notes = []; known = None }

abbrev pub only_right : Slot → Option Known → Option Known
only_right (wrong r p) k = None
only_right (at i) k = k
only_right beyond k = k

-- one argument, judged where it stands
abbrev pub given : Callee → Slot → Place → Judged → Given
given c s p j =
    let o = operand_of p j in
    let g = given_operand c s o.operand in
    record { notes = slot_notes s ++ (o.notes ++ g.notes); known = only_right s g.known }

abbrev pub with_number : List ℕ → Slot → List ℕ
with_number ns (wrong r p) = ns
with_number ns (at i) = i ∷ ns
with_number ns beyond = ns

abbrev pub is_keyword : Option Word → Bool
is_keyword None = false
is_keyword (Some k) = true

abbrev pub use_of : Used → Slot → Option Word → Used
use_of u s k = record { numbers = with_number u.numbers s; keyword = u.keyword || is_keyword k }

abbrev pub both_known : Option Known → Option (List Known) → Option (List Known)
both_known (Some k) (Some ks) = Some (k ∷ ks)
both_known (Some k) None = None
both_known None ks = None

pub record Bound : Type 0 where
  pub notes : List Note
  pub known : Option (List Known)

abbrev pub and_given : Given → Bound → Bound
and_given g b = record { notes = g.notes ++ b.notes; known = both_known g.known b.known }

abbrev pub no_arguments : Bound
no_arguments = record { notes = []; known = Some [] }

-- ---- calls whose arguments are known

-- the arguments as expressions, with the number of each one's parameter, and the rules that they break
pub record Fitted : Type 0 where
  pub notes : List Note
  pub exprs : Option (List Expr)
  pub order : List ℕ

abbrev pub fitted_none : Fitted
fitted_none = record { notes = []; exprs = Some []; order = [] }

abbrev pub expr_of : Option Typed → Option Expr
expr_of None = None
expr_of (Some t) = Some t.expr

abbrev pub both_exprs : Option Expr → Option (List Expr) → Option (List Expr)
both_exprs (Some e) (Some es) = Some (e ∷ es)
both_exprs (Some e) None = None
both_exprs None es = None

abbrev pub and_fitted : ℕ → Valued → Fitted → Fitted
and_fitted i v f = record { notes = v.notes ++ f.notes; exprs = both_exprs (expr_of v.typed) f.exprs; order = i ∷ f.order }

-- a test of a value on its type: P14 where it fails
abbrev pub passes : Bool → Typed → Valued
passes b t = if b then a_typed t else value_breaks rule.P14 t.expr.place

abbrev pub fitted : (ℕ → Typed → Valued) → List Known → Fitted
fitted test [] = fitted_none
fitted test (value_at i t ∷ ks) = and_fitted i (test i t) (fitted test ks)
fitted test (literal_at i q l ∷ ks) = and_fitted i (value_breaks rule.P14 q) (fitted test ks)

abbrev pub result_when : Place → Option (List Expr) → (List Expr → Judged) → Judged
result_when p None own = unknown
result_when p (Some es) own = own es

abbrev pub with_fitted : Place → Fitted → (List Expr → Judged) → Judged
with_fitted p f own = after f.notes (result_when p f.exprs own)

-- P15: another number of arguments
abbrev pub counted : Place → Bool → Judged → Judged
counted p right j = if right then j else breaks rule.P15 p

abbrev pub fits_param : Option SourceType → Typed → Valued
fits_param None t = no_value
fits_param (Some u) t = fits_type u t

abbrev pub fits_parameter : Option Parameter → Typed → Valued
fits_parameter None t = value_breaks rule.P15 t.expr.place
fits_parameter (Some p) t = fits_param p.ty t

abbrev pub param_test : Signature → ℕ → Typed → Valued
param_test s i t = fits_parameter (slice_get s.params i) t

abbrev pub called : Place → ℕ → Option SourceType → List ℕ → List Expr → Judged
called p n None order es = unknown
called p n (Some t) order es = node p t (kind.Call n es order)

abbrev pub call_function : Place → ℕ → Signature → List Known → Judged
call_function p n s ks =
    let f = fitted (param_test s) ks in
    counted p (length ks == length s.params) (with_fitted p f (called p n s.result f.order))

-- how many arguments a form takes
abbrev pub form_count : Form → ℕ
form_count f =
    if is_nothing_admitted f.first then 0
    else if is_nothing_admitted f.second then 1
    else if is_nothing_admitted f.third then 2
    else if is_nothing_admitted f.fourth then 3
    else 4

abbrev pub admits_scalar : Admits → Option Scalar → Bool
admits_scalar class.Number (Some scalar.UInt64) = true
admits_scalar class.Bytes (Some scalar.Bytes) = true
admits_scalar class.Either (Some scalar.UInt64) = true
admits_scalar class.Either (Some scalar.Bytes) = true
admits_scalar _ _ = false

abbrev pub form_test : Form → ℕ → Typed → Valued
form_test f i t = passes (admits_scalar (admitted f i) (scalar_of t.ty)) t

abbrev pub repeated : ℕ → SourceType → List SourceType
repeated zero t = []
repeated (suc n) t = t ∷ repeated n t

-- one value, or a tuple of several
abbrev pub results_type : ℕ → Scalar → SourceType
results_type n s = if n == 1 then ty.Scalar s else ty.Tuple (repeated n (ty.Scalar s))

abbrev pub form_result : Place → Form → List Expr → Judged
form_result p f es = node p (results_type f.results f.result) (kind.Prim f.prim es)

abbrev pub call_form : Place → Form → List Known → Judged
call_form p f ks = counted p (length ks == form_count f) (with_fitted p (fitted (form_test f) ks) (form_result p f))

abbrev pub logged_when : Option Scalar → Bool
logged_when None = false
logged_when (Some s) = is_logged s

abbrev pub log_test : ℕ → Typed → Valued
log_test i t = passes (logged_when (scalar_of t.ty)) t

abbrev pub call_log : Place → List Known → Judged
call_log p ks = counted p (nat_le 1 (length ks)) (with_fitted p (fitted log_test ks) (λ es. node p ty.Nothing (kind.Prim prim.Log es)))

-- ---- types as callees

-- what a type without arguments gives: 0, no bytes, an empty text
abbrev pub empty_of : Place → Scalar → Judged
empty_of p scalar.UInt64 = node p (ty.Scalar scalar.UInt64) (kind.Int 0)
empty_of p scalar.Bytes = node p (ty.Scalar scalar.Bytes) (kind.Data [])
empty_of p scalar.Text = node p (ty.Scalar scalar.Text) (kind.Data [])
empty_of p _ = breaks rule.P15 p

abbrev pub same_lit : Scalar → Lit → Bool
same_lit scalar.UInt64 (lit.Number n) = true
same_lit scalar.Bytes (lit.Bytes b) = true
same_lit scalar.Text (lit.Text b) = true
same_lit _ _ = false

-- the literal itself, at the place of the call
abbrev pub of_literal : Place → Scalar → Place → Lit → Judged
of_literal p s q l = if same_lit s l then says (meaning.Value (lit_node p l)) else breaks rule.P14 q

abbrev pub number_of_value : Place → Typed → Option Scalar → Judged
number_of_value p t (Some scalar.Bool) = node p (ty.Scalar scalar.UInt64) (kind.Prim prim.NumberOfBool (t.expr ∷ []))
number_of_value p t _ = breaks rule.P14 t.expr.place

abbrev pub truth_when : Place → Typed → Option Scalar → Judged
truth_when p t None = breaks rule.P14 t.expr.place
truth_when p t (Some s) = if has_truth s then node p (ty.Scalar scalar.Bool) (kind.Prim prim.Truth (t.expr ∷ [])) else breaks rule.P14 t.expr.place

-- `UInt64(b)` of a bool, `bool(x)` of what can be a condition; the other types take a literal alone
abbrev pub of_value : Place → Scalar → Typed → Judged
of_value p scalar.UInt64 t = number_of_value p t (scalar_of t.ty)
of_value p scalar.Bool t = truth_when p t (scalar_of t.ty)
of_value p _ t = breaks rule.P14 t.expr.place

abbrev pub of_known : Place → Scalar → Known → Judged
of_known p s (value_at i t) = of_value p s t
of_known p s (literal_at i q l) = of_literal p s q l

abbrev pub call_type : Place → Scalar → List Known → Judged
call_type p s [] = empty_of p s
call_type p s (k ∷ []) = of_known p s k
call_type p s (k ∷ m ∷ ks) = breaks rule.P15 p

-- ---- `Bytes.from_hex`

abbrev pub with_pair : Option ℕ → Option ℕ → Option (List ℕ) → Option (List ℕ)
with_pair (Some h) (Some l) (Some bs) = Some ((h * 16 + l) ∷ bs)
with_pair (Some h) (Some l) None = None
with_pair (Some h) None bs = None
with_pair None l bs = None

-- the bytes that pairs of hexadecimal digits write
abbrev pub hex_bytes : List ℕ → Option (List ℕ)
hex_bytes [] = Some []
hex_bytes (h ∷ []) = None
hex_bytes (h ∷ l ∷ ds) = with_pair (digit_value h) (digit_value l) (hex_bytes ds)

abbrev pub hex_data : Place → Place → Option (List ℕ) → Judged
hex_data p q None = breaks rule.P14 q
hex_data p q (Some bs) = node p (ty.Scalar scalar.Bytes) (kind.Data bs)

abbrev pub hex_literal : Place → Place → Lit → Judged
hex_literal p q (lit.Text b) = hex_data p q (hex_bytes b)
hex_literal p q _ = breaks rule.P14 q

abbrev pub call_hex : Place → List Known → Judged
call_hex p [] = breaks rule.P15 p
call_hex p (value_at i t ∷ []) = breaks rule.P14 t.expr.place
call_hex p (literal_at i q l ∷ []) = hex_literal p q l
call_hex p (k ∷ m ∷ ks) = breaks rule.P15 p

-- ---- `urange`

abbrev pub bound : Known → Valued
bound (value_at i t) = fits_type (ty.Scalar scalar.UInt64) t
bound (literal_at i q l) = literal (hope.Wants (ty.Scalar scalar.UInt64)) q l

-- P15 on a step that is no literal from 1
pub record Stepped : Type 0 where
  pub notes : List Note
  pub step : Option ℕ

abbrev pub no_step : Place → Stepped
no_step p = record { notes = broken rule.P15 p ∷ []; step = None }

abbrev pub step_number : Place → ℕ → Stepped
step_number q zero = no_step q
step_number q (suc n) = record { notes = []; step = Some (suc n) }

abbrev pub step_literal : Place → Lit → Stepped
step_literal q (lit.Number n) = step_number q n
step_literal q _ = no_step q

abbrev pub step_of : Known → Stepped
step_of (value_at i t) = no_step t.expr.place
step_of (literal_at i q l) = step_literal q l

abbrev pub range_from : Option Typed → Option Typed → Option ℕ → Meaning
range_from (Some a) (Some b) (Some n) = meaning.Range (record { start = Some a.expr; stop = b.expr; step = n })
range_from _ _ _ = meaning.Unknown

abbrev pub range_to : Option Typed → Meaning
range_to None = meaning.Unknown
range_to (Some b) = meaning.Range (record { start = None; stop = b.expr; step = 1 })

abbrev pub range_parts : Valued → Valued → Stepped → Judged
range_parts a b s = record { notes = a.notes ++ (b.notes ++ s.notes); meaning = range_from a.typed b.typed s.step }

abbrev pub step_one : Stepped
step_one = record { notes = []; step = Some 1 }

abbrev pub call_range : Place → List Known → Judged
call_range p [] = breaks rule.P15 p
call_range p (b ∷ []) = let v = bound b in record { notes = v.notes; meaning = range_to v.typed }
call_range p (a ∷ b ∷ []) = range_parts (bound a) (bound b) step_one
call_range p (a ∷ b ∷ s ∷ []) = range_parts (bound a) (bound b) (step_of s)
call_range p (a ∷ b ∷ s ∷ t ∷ ks) = breaks rule.P15 p

-- ---- a call, where what is called and each argument is known

abbrev pub applied : Place → Callee → List Known → Judged
applied p (a_function n s) ks = call_function p n s ks
applied p (a_form f) ks = call_form p f ks
applied p (a_type s) ks = call_type p s ks
applied p from_hex ks = call_hex p ks
applied p logs ks = call_log p ks
applied p ranges ks = call_range p ks
applied p no_callee ks = breaks rule.P14 p
applied p unknown_callee ks = unknown

abbrev pub applied_when : Place → Callee → Option (List Known) → Judged
applied_when p c None = unknown
applied_when p c (Some ks) = applied p c ks

abbrev pub call : Place → Callee → Bound → Judged
call p c b = after b.notes (applied_when p c b.known)
