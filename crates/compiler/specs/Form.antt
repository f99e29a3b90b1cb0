-- The one form of source that is compiled: an import of two names, and a class whose two programs return a sum or product of two
-- numbers, and 1. Texts that stand alone are docstrings and say nothing (Python reference 7.1).
use Rattle.std.specs.Prelude.{ℕ, Bool, true, false, ◌&&◌, ◌==◌, cond, bytes_eq, codes, List, [], ◌∷◌, Option, Some, None, option_map}
use Rattle.puya_base.specs.declared.source.Place.{Place}
use Rattle.py_lexer.specs.Numbers.{number_value}
use Rattle.py_grammar.specs.declared.word.Word.{Word}
use Rattle.py_grammar.specs.declared.type_tree.TypeTree.{TypeTree, out-TypeTree}
use Rattle.py_grammar.specs.declared.type_tree.TypeArg.{TypeArg}
use Rattle.py_grammar.specs.declared.type_tree.TypeArg.TheOpen.{TypeTree-F}
use Rattle.py_grammar.specs.declared.expression.Tree.{Tree, out-Tree}
use Rattle.py_grammar.specs.declared.expression.Arg.{Arg, out-Arg}
use Rattle.py_grammar.specs.declared.expression.Arg.TheOpen.{Tree-F, Arg-F}
use Rattle.py_grammar.specs.declared.expression.Exprs.{Exprs}
use Rattle.py_grammar.specs.declared.expression.BinaryOp.{BinaryOp}
use Rattle.py_grammar.specs.declared.expression.BinaryOp.TheVariants as op
use Rattle.py_grammar.specs.declared.statement.Simple.{Simple}
use Rattle.py_grammar.specs.declared.statement.Simple.TheVariants as simple
use Rattle.py_grammar.specs.declared.statement.Stmt.{Stmt, out-Stmt}
use Rattle.py_grammar.specs.declared.statement.Block.{Block, out-Block}
use Rattle.py_grammar.specs.declared.statement.Branch.{Branch}
use Rattle.py_grammar.specs.declared.statement.Block.TheOpen.{Stmt-F, Block-F}
use Rattle.py_grammar.specs.declared.module.Param.{Param}
use Rattle.py_grammar.specs.declared.module.Func.{Func}
use Rattle.py_grammar.specs.declared.module.Member.{Member}
use Rattle.py_grammar.specs.declared.module.Member.TheVariants as member
use Rattle.py_grammar.specs.declared.module.Class.{Class}
use Rattle.py_grammar.specs.declared.module.Import.{Import}
use Rattle.py_grammar.specs.declared.module.Item.{Item}
use Rattle.py_grammar.specs.declared.module.Item.TheVariants as item
use Rattle.py_grammar.specs.declared.module.Module.{Module}
use Rattle.compiler.specs.declared.form.Operator.{Operator}
use Rattle.compiler.specs.declared.form.Operator.TheVariants.{Plus, Times}
use Rattle.compiler.specs.declared.form.Sum.{Sum}

abbrev pub bind : {A B : Type 0} → Option A → (A → Option B) → Option B
bind None f = None
bind (Some x) f = f x

-- ---- expressions

-- the name is this one
abbrev pub is_word : Word → List ℕ → Bool
is_word w text = bytes_eq w.name text

-- the names with points between are this one alone
abbrev pub is_path : List Word → List ℕ → Bool
is_path (w ∷ []) text = is_word w text
is_path _ text = false

abbrev pub is_name_node : Tree-F Arg Tree → List ℕ → Bool
is_name_node (Tree-F.Name w) text = is_word w text
is_name_node _ text = false

-- the expression is this name
unfoldable pub is_name : Tree → List ℕ → Bool
is_name t text = is_name_node (out-Tree t) text

abbrev pub number_node : Tree-F Arg Tree → Option ℕ
number_node (Tree-F.Number n) = number_value n.text
number_node _ = None

-- the value of an integer
unfoldable pub number_of : Tree → Option ℕ
number_of t = number_node (out-Tree t)

abbrev pub plain_node : Arg-F Arg Tree → Option Tree
plain_node (Arg-F.Plain t) = Some t
plain_node (Arg-F.Keyed w t) = None

-- an argument by position
unfoldable pub plain_of : Arg → Option Tree
plain_of a = plain_node (out-Arg a)

-- the number in the arguments of a call, where it stands alone with no comma
abbrev pub only_number : List Arg → Bool → Option ℕ
only_number (a ∷ []) false = bind (plain_of a) number_of
only_number _ _ = None

abbrev pub constant_node : Tree-F Arg Tree → Option ℕ
constant_node (Tree-F.Call p f args comma) = cond (is_name f (codes "UInt64")) (only_number args comma) None
constant_node _ = None

-- the number in `UInt64(number)`
unfoldable pub constant_of : Tree → Option ℕ
constant_of t = constant_node (out-Tree t)

abbrev pub operator_of : BinaryOp → Option Operator
operator_of op.Add = Some Plus
operator_of op.Mul = Some Times
operator_of _ = None

-- two numbers with an operator between
abbrev pub joined : Option Operator → Option ℕ → Option ℕ → Option Sum
joined (Some o) (Some a) (Some b) = Some (record { left = a; operator = o; right = b })
joined _ _ _ = None

abbrev pub sum_node : Tree-F Arg Tree → Option Sum
sum_node (Tree-F.Binary p o x y) = joined (operator_of o) (constant_of x) (constant_of y)
sum_node _ = None

-- a sum or a product of two numbers
unfoldable pub sum_of : Tree → Option Sum
sum_of t = sum_node (out-Tree t)

abbrev pub is_text_node : Tree-F Arg Tree → Bool
is_text_node (Tree-F.Text p texts) = true
is_text_node _ = false

unfoldable pub is_text : Tree → Bool
is_text t = is_text_node (out-Tree t)

-- ---- statements

-- the one expression, with no comma behind it
abbrev pub only_one : List Tree → Bool → Option Tree
only_one (t ∷ []) false = Some t
only_one _ _ = None

abbrev pub only_of : Exprs → Option Tree
only_of e = only_one e.items e.comma

abbrev pub is_some_text : Option Tree → Bool
is_some_text None = false
is_some_text (Some t) = is_text t

abbrev pub is_docstring_line : Simple → Bool
is_docstring_line (simple.Value e) = is_some_text (only_of e)
is_docstring_line _ = false

-- what a line returns
abbrev pub returned_line : Simple → Option Tree
returned_line (simple.Return p (Some e)) = only_of e
returned_line _ = None

abbrev pub line_node : Stmt-F Block Stmt Branch → Option Simple
line_node (Stmt-F.Simple s) = Some s
line_node _ = None

-- the statement, if it is one of a line
unfoldable pub line_of : Stmt → Option Simple
line_of s = line_node (out-Stmt s)

abbrev pub is_some_docstring : Option Simple → Bool
is_some_docstring None = false
is_some_docstring (Some s) = is_docstring_line s

abbrev pub is_docstring : Stmt → Bool
is_docstring s = is_some_docstring (line_of s)

-- what stands behind docstrings
unfoldable pub behind_docstrings : List Stmt → List Stmt
behind_docstrings [] = []
behind_docstrings (s ∷ ss) = cond (is_docstring s) (behind_docstrings ss) (s ∷ ss)

abbrev pub is_end : {A : Type 0} → List A → Bool
is_end [] = true
is_end (x ∷ xs) = false

-- what the first statement returns, where only docstrings stand behind it
abbrev pub returned_first : List Stmt → Option Tree
returned_first [] = None
returned_first (s ∷ ss) = cond (is_end (behind_docstrings ss)) (bind (line_of s) returned_line) None

abbrev pub returned_node : Block-F Block Stmt Branch → Option Tree
returned_node (Block-F.Line s) = returned_line s
returned_node (Block-F.Lines ss) = returned_first (behind_docstrings ss)

-- what a block returns that does nothing else
unfoldable pub returned_of : Block → Option Tree
returned_of b = returned_node (out-Block b)

-- ---- functions and classes

abbrev pub is_none : {A : Type 0} → Option A → Bool
is_none None = true
is_none (Some x) = false

-- `self` alone, with no annotation and no comma behind it
abbrev pub is_self : List Param → Bool → Bool
is_self (p ∷ []) false = is_word p.name (codes "self") && is_none p.annotation
is_self _ _ = false

abbrev pub is_type_node : TypeTree-F TypeArg TypeTree → List ℕ → Bool
is_type_node (TypeTree-F.Named p ws) text = is_path ws text
is_type_node _ text = false

-- the type is this name
unfoldable pub is_type : TypeTree → List ℕ → Bool
is_type t text = is_type_node (out-TypeTree t) text

abbrev pub is_some_type : Option TypeTree → List ℕ → Bool
is_some_type None text = false
is_some_type (Some t) text = is_type t text

-- a program of a contract: this name, no decorators, `self`, and a number as its result
unfoldable pub is_program : Func → List ℕ → Bool
is_program f text = is_word f.name text && (is_end f.decorators && (is_self f.params f.comma && is_some_type f.result (codes "UInt64")))

-- what stands behind docstrings of a class
unfoldable pub behind_texts : List Member → List Member
behind_texts [] = []
behind_texts (member.Text p ts ∷ ms) = behind_texts ms
behind_texts (m ∷ ms) = m ∷ ms

abbrev pub func_of : Member → Option Func
func_of (member.Func f) = Some f
func_of _ = None

-- what the first member returns, where it is a program of this name, and the members behind it
abbrev pub program_first : List Member → List ℕ → Option (Tree × List Member)
program_first [] text = None
program_first (m ∷ ms) text = bind (func_of m) (λ f. cond (is_program f text) (option_map (λ t. (t, behind_texts ms)) (returned_of f.body)) None)

abbrev pub is_one : Option ℕ → Bool
is_one None = false
is_one (Some n) = n == 1

-- what a class computes
unfoldable pub computed : Class → Option Sum
computed c =
    cond (is_path c.base (codes "Contract"))
    (bind (program_first (behind_texts c.members) (codes "approval_program"))
    (λ p. bind (program_first p.1 (codes "clear_state_program"))
    (λ q. cond (is_end q.1 && is_one (constant_of q.0)) (sum_of p.0) None)))
    None

-- ---- modules

-- a name that is imported under itself
abbrev pub is_import : Import → List ℕ → Bool
is_import i text = is_word i.name text && is_none i.known_as

abbrev pub are_imports : List Import → Bool
are_imports (a ∷ b ∷ []) = is_import a (codes "Contract") && is_import b (codes "UInt64")
are_imports _ = false

-- `from algopy import Contract, UInt64`
abbrev pub is_import_item : Item → Bool
is_import_item (item.From p ws is) = is_path ws (codes "algopy") && are_imports is
is_import_item _ = false

-- what stands behind docstrings of a module
unfoldable pub behind_items : List Item → List Item
behind_items [] = []
behind_items (item.Text p ts ∷ is) = behind_items is
behind_items (i ∷ is) = i ∷ is

abbrev pub class_of : Item → Option Class
class_of (item.Class c) = Some c
class_of _ = None

-- the class that stands first, where nothing stands behind it
abbrev pub only_class : List Item → Option Class
only_class [] = None
only_class (i ∷ is) = cond (is_end (behind_items is)) (class_of i) None

abbrev pub imported_first : List Item → Option Class
imported_first [] = None
imported_first (i ∷ is) = cond (is_import_item i) (only_class (behind_items is)) None

-- the class of a module that is one import and one class
unfoldable pub class_in : Module → Option Class
class_in m = imported_first (behind_items m.items)

-- the name of the contract and what it computes
pub record Form : Type 0 where
  pub name : List ℕ
  pub sum : Sum

-- what a module is in the form of
unfoldable pub form_of : Module → Option Form
form_of m = bind (class_in m) (λ c. option_map (λ s. record { name = c.name.name; sum = s }) (computed c))
