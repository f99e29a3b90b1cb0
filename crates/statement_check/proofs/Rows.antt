-- Worked rows of the rules on expressions and statements.
use Rattle.std.proofs.Common.{◌≡◌, ℕ, true, false, List, [], ◌∷◌, Some, None, refl}
use Rattle.std.specs.Prelude.{codes}
use Rattle.puya_base.specs.declared.source.Place.{Place}
use Rattle.puya_base.specs.declared.source.Rule.TheVariants as rule
use Rattle.py_grammar.specs.declared.word.Word.{Word}
use Rattle.py_grammar.specs.declared.expression.UnaryOp.TheVariants as op
use Rattle.algopy_library.specs.declared.row.Row.{Row}
use Rattle.algopy_library.specs.declared.row.Row.TheVariants as row
use Rattle.algopy_library.specs.declared.scalar.Scalar.TheVariants as scalar
use Rattle.algopy_library.specs.declared.operator.Operator.TheVariants as operator
use Rattle.algopy_library.specs.Packages.{built_in}
use Rattle.algopy_library.specs.Members.{member_named}
use Rattle.path_rules.specs.declared.note.Note.{Note}
use Rattle.path_rules.specs.declared.note.Note.TheVariants as note
use Rattle.source_names.specs.declared.types.SourceType.TheVariants as ty
use Rattle.source_names.specs.declared.named.Thing.TheVariants as thing
use Rattle.source_names.specs.declared.named.Entry.{Entry}
use Rattle.source_names.specs.Source.{Ex, name, number, text, bytes, flag, paren, tuple, display, index, slice, call, unary, binary, choose, Exs, no_exprs, an_expr, Maybe, absent, present, Args, no_args, an_arg, does, and_then, is_in}
use Rattle.source_names.specs.Source as source
use Rattle.source_names.specs.Equations.{plain-Scalar, plain-Nothing, plain-Tuple, parts-Scalar, parts-Tuple}
use Rattle.meaning_rules.specs.declared.meaning.Hope.TheVariants as hope
use Rattle.meaning_rules.specs.declared.scope.Scope.{Scope}
use Rattle.meaning_rules.specs.declared.scope.Status.TheVariants as status
use Rattle.meaning_rules.specs.Meanings.{broken, freely, value}
use Rattle.expression_check.specs.Expressions.{judge}
use Rattle.statement_check.specs.Lines.{give, alone, assign, augment, St, line, for_in, no_stmts, a_stmt}
use Rattle.statement_check.specs.Statements.{checks}

ruleset types = (plain-Scalar, plain-Nothing, plain-Tuple, parts-Scalar, parts-Tuple)

abbrev p : ℕ → Place
p n = record { line = 1; col = n }

abbrev w : List ℕ → ℕ → Word
w n c = record { name = n; place = p c }

abbrev n : List ℕ → ℕ → Ex
n x c = name (w x c)

abbrev five : ℕ → Ex
five c = number (record { text = codes "5"; place = p c })

abbrev b_hi : ℕ → Ex
b_hi c = bytes (p c) ((record { text = 98 ∷ 34 ∷ 104 ∷ 105 ∷ 34 ∷ []; place = p c }) ∷ [])

abbrev an_entry : List ℕ → Row → Entry
an_entry x r = record { name = x; place = p 1; thing = thing.Library r }

-- `x` and `b` are variables, a UInt64 and Bytes; `u` is not seen yet
abbrev here : Scope
here = record {
  entries = an_entry (codes "UInt64") row.UInt64 ∷ an_entry (codes "op") row.Op ∷ an_entry (codes "Txn") row.Txn ∷ an_entry (codes "log") row.Log ∷ an_entry (codes "urange") row.Urange ∷ [];
  constants = [];
  functions = [];
  methods = [];
  myself = false;
  locals = (record { name = codes "x"; status = status.Fixed (Some (ty.Scalar scalar.UInt64)) }) ∷ (record { name = codes "b"; status = status.Fixed (Some (ty.Scalar scalar.Bytes)) }) ∷ (record { name = codes "u"; status = status.Unseen }) ∷ [];
}

abbrev x : ℕ → Ex
x c = n (codes "x") c

abbrev b : ℕ → Ex
b c = n (codes "b") c

abbrev notes : Ex → List Note
notes t = (value hope.Free (p 9) (judge here freely t)).notes

abbrev reads_x : ℕ → Note
reads_x c = note.Read 0 (p c)

abbrev reads_b : ℕ → Note
reads_b c = note.Read 1 (p c)

-- `y`
undefined_name : notes (n (codes "y") 3) ≡ broken rule.P09 (p 3) ∷ []
unfolding built_in
undefined_name = refl

-- `5`, `5 + 5`, `-5`, `x + 5`, `5 + b`, `b < 5`, `x + b`, `x / 5`
literal_alone : notes (five 3) ≡ broken rule.P14 (p 3) ∷ []
literal_alone = refl

two_literals : notes (binary (p 3) (does operator.Add) (five 3) (five 5)) ≡ broken rule.P14 (p 3) ∷ []
two_literals = refl

minus_literal : notes (unary (p 3) op.Minus (five 4)) ≡ broken rule.P14 (p 3) ∷ []
minus_literal = refl

beside_number : notes (binary (p 3) (does operator.Add) (x 3) (five 5)) ≡ reads_x 3 ∷ []
beside_number = simp (types)

beside_bytes : notes (binary (p 3) (does operator.Add) (five 3) (b 5)) ≡ reads_b 5 ∷ broken rule.P14 (p 3) ∷ []
beside_bytes = simp (types)

left_has_none : notes (binary (p 3) (does operator.Less) (b 3) (five 5)) ≡ reads_b 3 ∷ broken rule.P14 (p 3) ∷ []
left_has_none = simp (types)

two_types : notes (binary (p 3) (does operator.Add) (x 3) (b 5)) ≡ reads_x 3 ∷ reads_b 5 ∷ broken rule.P14 (p 5) ∷ []
two_types = simp (types)

no_division : notes (binary (p 3) (does operator.Div) (x 3) (five 5)) ≡ reads_x 3 ∷ broken rule.P14 (p 3) ∷ []
no_division = simp (types)

-- `1 + y` where y is not defined: one fault
unknown_beside : notes (binary (p 3) (does operator.Add) (five 3) (n (codes "y") 5)) ≡ broken rule.P09 (p 5) ∷ []
unfolding built_in
unknown_beside = refl

-- `UInt64(5)`, `UInt64(x)`, `op.itob(5)`, `op.itob(y=5)`, `op.bitlen(5)`, `op.itob()`, `log(5)`, `x(5)`, `op.keccak256`
the_number : notes (call (p 3) (n (codes "UInt64") 3) (an_arg None (five 10) no_args)) ≡ []
the_number = simp (types)

of_a_number : notes (call (p 3) (n (codes "UInt64") 3) (an_arg None (x 10) no_args)) ≡ reads_x 10 ∷ broken rule.P14 (p 10) ∷ []
of_a_number = simp (types)

abbrev of_op : List ℕ → Ex
of_op m = source.member (p 3) (n (codes "op") 3) (w m 6)

form_of_literal : notes (call (p 3) (of_op (codes "itob")) (an_arg None (five 11) no_args)) ≡ []
unfolding member_named
form_of_literal = simp (types)

form_by_keyword : notes (call (p 3) (of_op (codes "itob")) (an_arg (Some (w (codes "y") 11)) (five 13) no_args)) ≡ broken rule.P09 (p 11) ∷ []
unfolding member_named
form_by_keyword = refl

form_of_either : notes (call (p 3) (of_op (codes "bitlen")) (an_arg None (five 13) no_args)) ≡ broken rule.P14 (p 13) ∷ []
unfolding member_named
form_of_either = refl

form_of_none : notes (call (p 3) (of_op (codes "itob")) no_args) ≡ broken rule.P15 (p 3) ∷ []
unfolding member_named
form_of_none = refl

log_of_literal : (checks here None here.locals (a_stmt (line (alone (call (p 3) (n (codes "log") 3) (an_arg None (five 7) no_args)))) no_stmts)).notes ≡ broken rule.P14 (p 7) ∷ []
log_of_literal = refl

call_of_local : notes (call (p 3) (x 3) (an_arg None (five 5) no_args)) ≡ reads_x 3 ∷ broken rule.P14 (p 3) ∷ []
call_of_local = refl

left_out_member : notes (of_op (codes "keccak256")) ≡ broken rule.P08 (p 6) ∷ []
unfolding member_named
left_out_member = refl

unknown_member : notes (of_op (codes "foo")) ≡ broken rule.P09 (p 6) ∷ []
unfolding member_named
unknown_member = refl

-- `u` before its first assignment
read_too_early : notes (n (codes "u") 3) ≡ broken rule.P17 (p 3) ∷ note.Read 2 (p 3) ∷ []
read_too_early = refl

-- `()`, `(x, 5)`, `[x]`, `b[5]`, `x[5]`, `x in b`
no_parts : notes (tuple (p 3) no_exprs) ≡ broken rule.P13 (p 3) ∷ []
no_parts = refl

literal_part : notes (tuple (p 3) (an_expr (x 4) (an_expr (five 7) no_exprs))) ≡ reads_x 4 ∷ broken rule.P14 (p 7) ∷ []
literal_part = simp (types)

a_list : notes (display (p 3) (an_expr (x 4) no_exprs)) ≡ reads_x 4 ∷ broken rule.P14 (p 3) ∷ []
a_list = simp (types)

one_byte : notes (index (p 3) (b 3) (five 5)) ≡ reads_b 3 ∷ []
one_byte = simp (types)

no_index : notes (index (p 3) (x 3) (five 5)) ≡ reads_x 3 ∷ broken rule.P14 (p 3) ∷ []
no_index = simp (types)

in_bytes : notes (binary (p 3) is_in (x 3) (b 8)) ≡ reads_x 3 ∷ reads_b 8 ∷ broken rule.P14 (p 8) ∷ []
in_bytes = simp (types)

-- `5 if x else 5`, `5 if x else x`
choose_literals : notes (choose (p 3) (five 3) (x 8) (five 15)) ≡ reads_x 8 ∷ broken rule.P14 (p 3) ∷ broken rule.P14 (p 15) ∷ []
choose_literals = simp (types)

choose_beside : notes (choose (p 3) (five 3) (x 8) (x 15)) ≡ reads_x 8 ∷ reads_x 15 ∷ []
choose_beside = simp (types)

-- ---- statements

abbrev said : St → List Note
said s = (checks here (Some (ty.Scalar scalar.UInt64)) here.locals (a_stmt s no_stmts)).notes

-- `u = 5`, `x = 5`, `x = b`, `return 5`, `return b`, `return`, `x += 5`, `x += b`, `5 = x`, `for x in b: pass`, `for u in urange(5): pass`
new_literal : said (line (assign (n (codes "u") 3) (five 7))) ≡ broken rule.P14 (p 7) ∷ note.Assign 2 ∷ []
new_literal = refl

old_literal : said (line (assign (x 3) (five 7))) ≡ note.Assign 0 ∷ []
old_literal = simp (types)

other_type : said (line (assign (x 3) (b 7))) ≡ reads_b 7 ∷ broken rule.P14 (p 7) ∷ note.Assign 0 ∷ []
other_type = simp (types)

returned_literal : said (line (give (p 3) (Some (five 10)))) ≡ note.Return ∷ []
returned_literal = simp (types)

returned_other : said (line (give (p 3) (Some (b 10)))) ≡ reads_b 10 ∷ broken rule.P14 (p 10) ∷ note.Return ∷ []
returned_other = simp (types)

returned_nothing : said (line (give (p 3) None)) ≡ broken rule.P14 (p 3) ∷ note.Return ∷ []
returned_nothing = simp (types)

added : said (line (augment (x 3) operator.Add (five 8))) ≡ reads_x 3 ∷ note.Assign 0 ∷ []
added = simp (types)

added_other : said (line (augment (x 3) operator.Add (b 8))) ≡ reads_x 3 ∷ reads_b 8 ∷ broken rule.P14 (p 8) ∷ note.Assign 0 ∷ []
added_other = simp (types)

literal_target : said (line (assign (five 3) (x 7))) ≡ broken rule.P16 (p 3) ∷ reads_x 7 ∷ []
literal_target = simp (types)

other_turn : said (for_in (p 1) (w (codes "x") 5) (b 10) no_stmts) ≡ reads_b 10 ∷ broken rule.P14 (p 5) ∷ note.Loop [] true (note.Assign 0 ∷ []) ∷ note.Forget 0 ∷ []
other_turn = simp (types)

over_numbers : said (for_in (p 1) (w (codes "u") 5) (call (p 10) (n (codes "urange") 10) (an_arg None (five 17) no_args)) no_stmts) ≡ note.Loop [] true (note.Assign 2 ∷ []) ∷ note.Forget 2 ∷ []
over_numbers = simp (types)

swapped : said (line (assign (tuple (p 3) (an_expr (x 3) (an_expr (b 6) no_exprs))) (tuple (p 10) (an_expr (b 10) (an_expr (x 13) no_exprs))))) ≡ reads_b 10 ∷ reads_x 13 ∷ broken rule.P14 (p 10) ∷ note.Assign 0 ∷ note.Assign 1 ∷ []
swapped = simp (types)
