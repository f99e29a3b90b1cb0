-- Names, members, operators, conditional expressions, tuples and subscripts (Python reference, chapter 6; Algorand Python guide, "Types"): P08 and P09 on names and members, P13 on tuples, P14, P17 on a read.
use Rattle.std.specs.Prelude.{ℕ, suc, Bool, true, false, ◌&&◌, ◌||◌, if◌then◌else◌, List, [], ◌∷◌, ◌++◌, map, bytes_eq, codes, Option, Some, None, slice_get}
use Rattle.puya_base.specs.declared.source.Place.{Place}
use Rattle.puya_base.specs.declared.source.Rule.TheVariants as rule
use Rattle.awst.specs.declared.expression.Expr.{Expr}
use Rattle.awst.specs.declared.expression.ExprKind.TheVariants as kind
use Rattle.awst.specs.declared.expression.Index.TheVariants as item
use Rattle.awst.specs.declared.primitive.Primitive.{Primitive}
use Rattle.awst.specs.declared.primitive.Primitive.TheVariants as prim
use Rattle.py_grammar.specs.declared.word.Word.{Word}
use Rattle.py_grammar.specs.declared.expression.UnaryOp.{UnaryOp}
use Rattle.py_grammar.specs.declared.expression.UnaryOp.TheVariants as op
use Rattle.algopy_library.specs.declared.scalar.Scalar.{Scalar}
use Rattle.algopy_library.specs.declared.scalar.Scalar.TheVariants as scalar
use Rattle.algopy_library.specs.declared.member.Member.{Member}
use Rattle.algopy_library.specs.declared.member.Member.TheVariants as member
use Rattle.algopy_library.specs.declared.operator.Operator.{Operator}
use Rattle.algopy_library.specs.declared.operator.Operation.{Operation}
use Rattle.algopy_library.specs.Operators.{between, inverted, has_truth, value_member}
use Rattle.path_rules.specs.declared.note.Note.{Note}
use Rattle.path_rules.specs.declared.note.Note.TheVariants as note
use Rattle.source_names.specs.declared.types.SourceType.{SourceType}
use Rattle.source_names.specs.declared.types.SourceType.TheVariants as ty
use Rattle.source_names.specs.declared.constant.Constant.{Constant}
use Rattle.source_names.specs.declared.constant.Constant.TheVariants as constant
use Rattle.source_names.specs.declared.named.Thing.{Thing}
use Rattle.source_names.specs.declared.named.Thing.TheVariants as thing
use Rattle.source_names.specs.Types.{same_type, scalar_of, tuple_parts, fits_limits, same_scalar}
use Rattle.source_names.specs.Literals.{is_short}
use Rattle.source_names.specs.Things.{Found, module_name, member_of, is_myself}
use Rattle.source_names.specs.Source.{Between, does, and_then, or_else, is_in}
use Rattle.meaning_rules.specs.declared.meaning.Hope.{Hope}
use Rattle.meaning_rules.specs.declared.meaning.Hope.TheVariants as hope
use Rattle.meaning_rules.specs.declared.meaning.Typed.{Typed}
use Rattle.meaning_rules.specs.declared.meaning.Lit.{Lit}
use Rattle.meaning_rules.specs.declared.meaning.Lit.TheVariants as lit
use Rattle.meaning_rules.specs.declared.meaning.Meaning.TheVariants as meaning
use Rattle.meaning_rules.specs.declared.scope.Scope.{Scope}
use Rattle.meaning_rules.specs.declared.scope.Local.{Local}
use Rattle.meaning_rules.specs.declared.scope.Method.{Method}
use Rattle.meaning_rules.specs.declared.scope.Status.TheVariants as status
use Rattle.meaning_rules.specs.declared.operand.Operand.{Operand}
use Rattle.meaning_rules.specs.declared.operand.Operand.TheVariants.{Value as a_value, Literal as a_literal, Missing as missing}
use Rattle.meaning_rules.specs.declared.operand.End.{End}
use Rattle.meaning_rules.specs.declared.operand.End.TheVariants.{Absent as no_end, Number as an_end, Broken as broken_end}
use Rattle.meaning_rules.specs.Meanings.{Judged, Valued, Operated, broken, broken_all, unknown, breaks, says, after, a_node, node, literal, operand_of, settled, value, required, condition}

-- ---- literals

-- P14 on a literal of over 4096 bytes
abbrev pub short_literal : Place → List ℕ → Lit → Judged
short_literal p b l = if is_short b then says (meaning.Literal p l) else breaks rule.P14 p

-- ---- names

abbrev pub local_from : ℕ → List ℕ → List Local → Option ℕ
local_from i n [] = None
local_from i n (l ∷ ls) = if bytes_eq l.name n then Some i else local_from (suc i) n ls

-- the number of a variable
abbrev pub local_of : Scope → List ℕ → Option ℕ
local_of s n = local_from 0 n s.locals

abbrev pub read_note : Place → ℕ → List Note
read_note p i = note.Read i p ∷ []

-- P17 on a read before the first assignment or annotation in reading order
abbrev pub read_status : Place → ℕ → Option Local → Judged
read_status p i None = unknown
read_status p i (Some l) = elim l.status [
  | status.Unseen ↦ record { notes = broken rule.P17 p ∷ read_note p i; meaning = meaning.Unknown }
  | status.Fixed t ↦ elim t [
    | None ↦ record { notes = read_note p i; meaning = meaning.Unknown }
    | Some u ↦ record { notes = read_note p i; meaning = meaning.Value (a_node p u (kind.Local i)) }
  ]
]

abbrev pub constant_says : Place → Option Constant → Judged
constant_says p None = unknown
constant_says p (Some (constant.Number n)) = says (meaning.Literal p (lit.Number n))
constant_says p (Some (constant.Text b)) = says (meaning.Literal p (lit.Text b))
constant_says p (Some (constant.Bytes b)) = says (meaning.Literal p (lit.Bytes b))
constant_says p (Some (constant.Flag b)) = node p (ty.Scalar scalar.Bool) (kind.Flag b)
constant_says p (Some constant.Unknown) = unknown

-- a member of the library that is a value
abbrev pub member_says : Place → Member → Judged
member_says p (member.Value q t) = node p (ty.Scalar t) (kind.Prim q [])
member_says p (member.Number n) = node p (ty.Scalar scalar.UInt64) (kind.Int n)
member_says p m = says (meaning.Thing (thing.Member m))

-- a constant stands for its literal
abbrev pub thing_says : List Constant → Place → Thing → Judged
thing_says cs p (thing.Constant i) = constant_says p (slice_get cs i)
thing_says cs p (thing.Member m) = member_says p m
thing_says cs p thing.Unknown = unknown
thing_says cs p t = says (meaning.Thing t)

abbrev pub found_says : List Constant → Place → Found → Judged
found_says cs p f = after (broken_all f.faults) (thing_says cs p f.thing)

abbrev pub name_beyond : Scope → Word → Judged
name_beyond s w =
    if s.myself && is_myself w.name then says (meaning.Thing thing.Myself)
    else found_says s.constants w.place (module_name s.entries w)

abbrev pub read_name : Scope → Word → Option ℕ → Judged
read_name s w None = name_beyond s w
read_name s w (Some i) = read_status w.place i (slice_get s.locals i)

-- a variable, `self`, a name of the module, a built-in name; P09 on any other
abbrev pub judge_name : Scope → Word → Judged
judge_name s w = read_name s w (local_of s w.name)

-- ---- members

abbrev pub method_pairs : List Method → List (List ℕ × ℕ)
method_pairs ms = map (λ (m : Method). (m.name, m.function)) ms

-- `id` of an application, which is no value itself
abbrev pub application_member : Place → Member → Word → Judged
application_member p (member.Application q) w =
    if bytes_eq w.name (codes "id") then node p (ty.Scalar scalar.UInt64) (kind.Prim q []) else breaks rule.P09 w.place
application_member p _ w = breaks rule.P09 w.place

abbrev pub thing_member : Scope → Place → Thing → Word → Judged
thing_member s p (thing.Member m) w = application_member p m w
thing_member s p t w = found_says s.constants p (member_of (method_pairs s.methods) t w)

abbrev pub value_operation : Place → Place → Typed → Option Operation → Judged
value_operation p q t None = breaks rule.P09 q
value_operation p q t (Some o) = node p (ty.Scalar o.result) (kind.Prim o.prim (t.expr ∷ []))

abbrev pub scalar_member : Place → Word → Typed → Option Scalar → Judged
scalar_member p w t None = breaks rule.P09 w.place
scalar_member p w t (Some s) = value_operation p w.place t (value_member s w.name)

abbrev pub member_when : Place → Word → Option Typed → Judged
member_when p w None = unknown
member_when p w (Some t) = scalar_member p w t (scalar_of t.ty)

-- P09 on a member that a value's type hasn't
abbrev pub member_of_value : Place → Word → Valued → Judged
member_of_value p w v = after v.notes (member_when p w v.typed)

abbrev pub judge_member : Scope → Place → Place → Word → Judged → Judged
judge_member s p q w j = elim j.meaning [
  | meaning.Thing t ↦ after j.notes (thing_member s p t w)
  | meaning.Value t ↦ member_of_value p w (value hope.Free q j)
  | meaning.Literal r l ↦ member_of_value p w (value hope.Free q j)
  | meaning.Range r ↦ member_of_value p w (value hope.Free q j)
  | meaning.Unknown ↦ j
]

-- ---- operators

-- what an operator does at the type of its left operand
abbrev pub operation_at : Operator → Option Scalar → Option Operation
operation_at o None = None
operation_at o (Some s) = between o s

abbrev pub is_bool : Option Scalar → Bool
is_bool (Some scalar.Bool) = true
is_bool _ = false

abbrev pub operated : Place → Typed → Typed → Option Operation → Judged
operated p a b None = breaks rule.P14 p
operated p a b (Some o) = node p (ty.Scalar o.result) (kind.Prim o.prim (a.expr ∷ b.expr ∷ []))

abbrev pub is_some_operation : Option Operation → Bool
is_some_operation None = false
is_some_operation (Some o) = true

-- whether the type of the left operand has it
abbrev pub has_between : Between → SourceType → Bool
has_between (does o) t = is_some_operation (operation_at o (scalar_of t))
has_between and_then t = is_bool (scalar_of t)
has_between or_else t = is_bool (scalar_of t)
has_between is_in t = false

-- between two values of one type that has it
abbrev pub joined_by : Place → Between → Typed → Typed → Judged
joined_by p (does o) a b = operated p a b (operation_at o (scalar_of a.ty))
joined_by p and_then a b = node p (ty.Scalar scalar.Bool) (kind.And a.expr b.expr)
joined_by p or_else a b = node p (ty.Scalar scalar.Bool) (kind.Or a.expr b.expr)
joined_by p is_in a b = breaks rule.P14 b.expr.place

-- P14 at the operation where the left type hasn't the operator, else at the right operand where it has another type
abbrev pub two_values : Place → Between → Typed → Typed → Judged
two_values p o a b =
    if has_between o a.ty then (if same_type a.ty b.ty then joined_by p o a b else breaks rule.P14 b.expr.place)
    else breaks rule.P14 p

abbrev pub with_left : Place → Between → Option Typed → Typed → Judged
with_left p o None b = unknown
with_left p o (Some a) b = two_values p o a b

abbrev pub with_right : Place → Between → Typed → Option Typed → Judged
with_right p o a None = unknown
with_right p o a (Some b) = two_values p o a b

abbrev pub left_literal : Place → Between → Valued → Typed → Judged
left_literal p o v b = after v.notes (with_left p o v.typed b)

abbrev pub right_literal : Place → Between → Typed → Valued → Judged
right_literal p o a v = after v.notes (with_right p o a v.typed)

-- a literal takes the type of what stands beside it
abbrev pub two_operands : Place → Between → Operand → Operand → Judged
two_operands p o (a_value a) (a_value b) = two_values p o a b
two_operands p o (a_value a) (a_literal q l) =
    if has_between o a.ty then right_literal p o a (literal (hope.Wants a.ty) q l) else breaks rule.P14 p
two_operands p o (a_value a) missing = unknown
two_operands p o (a_literal q l) (a_value b) = left_literal p o (literal (hope.Wants b.ty) q l) b
two_operands p o (a_literal q l) (a_literal r k) = breaks rule.P14 q
two_operands p o (a_literal q l) missing = unknown
two_operands p o missing b = unknown

abbrev pub is_missing : Operand → Bool
is_missing (a_value t) = false
is_missing (a_literal q l) = false
is_missing missing = true

-- no type has `in`: P14 at the right operand
abbrev pub contained : Place → Operand → Operand → Judged
contained q a b = if is_missing a || is_missing b then unknown else breaks rule.P14 q

abbrev pub between_operands : Place → Place → Between → Operand → Operand → Judged
between_operands p q is_in a b = contained q a b
between_operands p q o a b = two_operands p o a b

abbrev pub judge_binary : Place → Place → Place → Between → Judged → Judged → Judged
judge_binary p pa pb o x y =
    let a = operand_of pa x in
    let b = operand_of pb y in
    after (a.notes ++ b.notes) (between_operands p pb o a.operand b.operand)

abbrev pub one_operated : Place → Typed → Option Operation → Judged
one_operated p a None = breaks rule.P14 p
one_operated p a (Some o) = node p (ty.Scalar o.result) (kind.Prim o.prim (a.expr ∷ []))

abbrev pub inverted_at : Option Scalar → Option Operation
inverted_at None = None
inverted_at (Some s) = inverted s

abbrev pub has_truth_at : Option Scalar → Bool
has_truth_at None = false
has_truth_at (Some s) = has_truth s

abbrev pub negated : Place → Typed → Judged
negated p a = if has_truth_at (scalar_of a.ty) then node p (ty.Scalar scalar.Bool) (kind.Prim prim.Not (a.expr ∷ [])) else breaks rule.P14 p

abbrev pub unary_value : Place → UnaryOp → Typed → Judged
unary_value p op.Plus a = breaks rule.P14 p
unary_value p op.Minus a = breaks rule.P14 p
unary_value p op.Invert a = one_operated p a (inverted_at (scalar_of a.ty))
unary_value p op.Not a = negated p a

-- no type has unary `+` and `-`, so that a literal is no better there
abbrev pub unary_literal : Place → UnaryOp → Place → Judged
unary_literal p op.Plus q = breaks rule.P14 p
unary_literal p op.Minus q = breaks rule.P14 p
unary_literal p op.Invert q = breaks rule.P14 q
unary_literal p op.Not q = breaks rule.P14 q

abbrev pub unary_operand : Place → UnaryOp → Operand → Judged
unary_operand p o (a_value a) = unary_value p o a
unary_operand p o (a_literal q l) = unary_literal p o q
unary_operand p o missing = unknown

abbrev pub judge_unary : Place → Place → UnaryOp → Judged → Judged
judge_unary p pa o x = let a = operand_of pa x in after a.notes (unary_operand p o a.operand)

-- ---- conditional expressions

abbrev pub chosen_when : Place → Option Typed → Typed → Typed → Judged
chosen_when p None a b = unknown
chosen_when p (Some c) a b = node p a.ty (kind.Choose c.expr a.expr b.expr)

-- P14 where the two values have different types, at the given place
abbrev pub chosen : Place → Place → Option Typed → Typed → Typed → Judged
chosen p q c a b = if same_type a.ty b.ty then chosen_when p c a b else breaks rule.P14 q

abbrev pub choose_two : Place → Place → Option Typed → Option Typed → Option Typed → Judged
choose_two p q c (Some a) (Some b) = chosen p q c a b
choose_two p q c (Some a) None = unknown
choose_two p q c None b = unknown

-- what a literal takes there: what is hoped for, or else the type of the other value
abbrev pub beside : Hope → SourceType → Hope
beside (hope.Wants t) u = hope.Wants t
beside hope.Free u = hope.Wants u
beside hope.Unknown u = hope.Unknown

abbrev pub choose_literal : Place → Place → Option Typed → Typed → Valued → Judged
choose_literal p q c a v = after v.notes (choose_two p q c (Some a) v.typed)

abbrev pub choose_first : Place → Place → Option Typed → Valued → Typed → Judged
choose_first p q c v b = after v.notes (choose_two p q c v.typed (Some b))

abbrev pub choose_literals : Place → Place → Option Typed → Valued → Valued → Judged
choose_literals p q c v w = after (v.notes ++ w.notes) (choose_two p q c v.typed w.typed)

-- two values; where just one of them is a literal, their difference is told at it, else at the second
abbrev pub choose_values : Place → Place → Hope → Option Typed → Operand → Operand → Judged
choose_values p pb h c (a_value a) (a_value b) = chosen p pb c a b
choose_values p pb h c (a_value a) (a_literal q l) = choose_literal p q c a (literal (beside h a.ty) q l)
choose_values p pb h c (a_literal q l) (a_value b) = choose_first p q c (literal (beside h b.ty) q l) b
choose_values p pb h c (a_literal q l) (a_literal r k) = choose_literals p r c (literal h q l) (literal h r k)
choose_values p pb h c (a_value a) missing = unknown
choose_values p pb h c (a_literal q l) missing = unknown
choose_values p pb h c missing b = unknown

abbrev pub judge_choose : Place → Place → Place → Place → Hope → Judged → Judged → Judged → Judged
judge_choose p pa pc pb h x z y =
    let c = condition pc z in
    let a = operand_of pa x in
    let b = operand_of pb y in
    after (a.notes ++ (c.notes ++ b.notes)) (choose_values p pb h c.typed a.operand b.operand)

-- ---- tuples

pub record Parts : Type 0 where
  pub notes : List Note
  pub typed : Option (List Typed)

abbrev pub no_parts : Parts
no_parts = record { notes = []; typed = Some [] }

abbrev pub both : Option Typed → Option (List Typed) → Option (List Typed)
both (Some t) (Some ts) = Some (t ∷ ts)
both (Some t) None = None
both None ts = None

abbrev pub and_part : Valued → Parts → Parts
and_part v r = record { notes = v.notes ++ r.notes; typed = both v.typed r.typed }

abbrev pub types_in : List Typed → List SourceType
types_in ts = map (λ (t : Typed). t.ty) ts

abbrev pub exprs_in : List Typed → List Expr
exprs_in ts = map (λ (t : Typed). t.expr) ts

abbrev pub within_limits : Place → SourceType → List Typed → Judged
within_limits p t ts = if fits_limits t then node p t (kind.Tuple (exprs_in ts)) else breaks rule.P13 p

-- P13 on a tuple without parts, or of a type that is too large
abbrev pub tuple_of : Place → List Typed → Judged
tuple_of p [] = breaks rule.P13 p
tuple_of p (t ∷ ts) = within_limits p (ty.Tuple (types_in (t ∷ ts))) (t ∷ ts)

abbrev pub tuple_when : Place → Option (List Typed) → Judged
tuple_when p None = unknown
tuple_when p (Some ts) = tuple_of p ts

abbrev pub judge_tuple : Place → Parts → Judged
judge_tuple p r = after r.notes (tuple_when p r.typed)

-- what stands in brackets, where a list is no value
pub record Items : Type 0 where
  pub notes : List Note
  pub known : Bool

abbrev pub no_items : Items
no_items = record { notes = []; known = true }

abbrev pub and_item : Operated → Items → Items
and_item o r = record { notes = o.notes ++ r.notes; known = if is_missing o.operand then false else r.known }

-- P14 on a list
abbrev pub judge_display : Place → Items → Judged
judge_display p r = after r.notes (if r.known then breaks rule.P14 p else unknown)

-- ---- subscripts

-- a number, which a literal may be
abbrev pub a_number : Operand → Valued
a_number o = required (Some (ty.Scalar scalar.UInt64)) (settled (hope.Wants (ty.Scalar scalar.UInt64)) o)

-- what is hoped of an index
abbrev pub index_scalar : Option Scalar → Hope
index_scalar (Some scalar.Bytes) = hope.Wants (ty.Scalar scalar.UInt64)
index_scalar _ = hope.Free

abbrev pub index_hope : Operand → Hope
index_hope (a_value t) = index_scalar (scalar_of t.ty)
index_hope (a_literal q l) = hope.Free
index_hope missing = hope.Unknown

abbrev pub based : Operated → Valued
based o = let v = settled hope.Free o.operand in record { notes = o.notes ++ v.notes; typed = v.typed }

abbrev pub byte_at : Place → Typed → Option Typed → Judged
byte_at p b None = unknown
byte_at p b (Some i) = node p (ty.Scalar scalar.Bytes) (kind.Prim prim.ByteAt (b.expr ∷ i.expr ∷ []))

abbrev pub byte_index : Place → Typed → Valued → Judged
byte_index p b v = after v.notes (byte_at p b v.typed)

abbrev pub tuple_item : Place → Place → Typed → ℕ → Option SourceType → Judged
tuple_item p q b i None = breaks rule.P14 q
tuple_item p q b i (Some t) = node p t (kind.Item b.expr (item.Fixed i))

abbrev pub literal_item : Place → Place → Typed → List SourceType → Lit → Judged
literal_item p q b ts (lit.Number n) = tuple_item p q b n (slice_get ts n)
literal_item p q b ts _ = breaks rule.P14 q

-- P14 on an index of a tuple that is no number literal in range
abbrev pub item_of : Place → Place → Typed → List SourceType → Operand → Judged
item_of p q b ts (a_value t) = breaks rule.P14 q
item_of p q b ts (a_literal r l) = literal_item p q b ts l
item_of p q b ts missing = unknown

abbrev pub no_index : Place → Operand → Judged
no_index p i = if is_missing i then unknown else breaks rule.P14 p

abbrev pub tuple_index : Place → Place → Typed → Option (List SourceType) → Operand → Judged
tuple_index p q b None i = no_index p i
tuple_index p q b (Some ts) i = item_of p q b ts i

abbrev pub index_of : Place → Place → Typed → Option Scalar → Operand → Judged
index_of p q b (Some scalar.Bytes) i = byte_index p b (a_number i)
index_of p q b s i = tuple_index p q b (tuple_parts b.ty) i

abbrev pub index_when : Place → Place → Option Typed → Operand → Judged
index_when p q None i = unknown
index_when p q (Some b) i = index_of p q b (scalar_of b.ty) i

abbrev pub judge_index : Place → Place → Operated → Judged → Judged
judge_index p q o j =
    let b = based o in
    let i = operand_of q j in
    after (b.notes ++ i.notes) (index_when p q b.typed i.operand)

-- ---- slices

pub record Ended : Type 0 where
  pub notes : List Note
  pub end : End

abbrev pub slice_prim : End → End → Option (Primitive × List Expr)
slice_prim no_end no_end = Some (prim.SliceAll, [])
slice_prim (an_end i) no_end = Some (prim.SliceFrom, i ∷ [])
slice_prim no_end (an_end j) = Some (prim.SliceTo, j ∷ [])
slice_prim (an_end i) (an_end j) = Some (prim.SliceBetween, i ∷ j ∷ [])
slice_prim _ _ = None

abbrev pub sliced : Place → Typed → Option (Primitive × List Expr) → Judged
sliced p b None = unknown
sliced p b (Some q) = node p (ty.Scalar scalar.Bytes) (kind.Prim q.0 (b.expr ∷ q.1))

abbrev pub is_broken : End → Bool
is_broken no_end = false
is_broken (an_end e) = false
is_broken broken_end = true

-- P14 on a slice of anything but Bytes
abbrev pub slice_of : Place → Typed → Option Scalar → End → End → Judged
slice_of p b (Some scalar.Bytes) i j = sliced p b (slice_prim i j)
slice_of p b _ i j = if is_broken i || is_broken j then unknown else breaks rule.P14 p

abbrev pub slice_when : Place → Option Typed → End → End → Judged
slice_when p None i j = unknown
slice_when p (Some b) i j = slice_of p b (scalar_of b.ty) i j

abbrev pub end_of_value : Option Typed → End
end_of_value None = broken_end
end_of_value (Some t) = an_end t.expr

abbrev pub end_of_bytes : Operand → Ended
end_of_bytes o = let v = a_number o in record { notes = v.notes; end = end_of_value v.typed }

abbrev pub is_bytes : Option Typed → Bool
is_bytes None = false
is_bytes (Some t) = elim (scalar_of t.ty) [ None ↦ false | Some s ↦ same_scalar s scalar.Bytes ]

-- an end of a slice of something else is only known or not
abbrev pub other_end : Operand → Ended
other_end o = record { notes = []; end = if is_missing o then broken_end else no_end }

abbrev pub end_of : Bool → Operated → Ended
end_of b o = let e = if b then end_of_bytes o.operand else other_end o.operand in record { notes = o.notes ++ e.notes; end = e.end }

abbrev pub absent_end : Ended
absent_end = record { notes = []; end = no_end }

abbrev pub judge_slice : Place → Valued → Ended → Ended → Judged
judge_slice p b i j = after (b.notes ++ (i.notes ++ j.notes)) (slice_when p b.typed i.end j.end)
