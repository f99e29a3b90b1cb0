-- Where what a part makes stands: the place of its first symbol.
use Rattle.std.specs.Prelude.{Bool, true, false, Option, Some, None}
use Rattle.puya_base.specs.declared.source.Place.{Place}
use Rattle.py_grammar.specs.declared.type_tree.TypeTree.{TypeTree, out-TypeTree}
use Rattle.py_grammar.specs.declared.type_tree.TypeArg.{TypeArg, out-TypeArg}
use Rattle.py_grammar.specs.declared.type_tree.TypeArg.TheOpen.{TypeTree-F, TypeArg-F}
use Rattle.py_grammar.specs.declared.expression.Tree.{Tree}
use Rattle.py_grammar.specs.declared.expression.Arg.{Arg, out-Arg}
use Rattle.py_grammar.specs.declared.expression.Arg.TheOpen.{Arg-F}
use Rattle.py_grammar.specs.declared.expression.Exprs.{Exprs}
use Rattle.py_grammar.specs.declared.statement.Simple.{Simple}
use Rattle.py_grammar.specs.declared.statement.Simple.TheVariants as simple
use Rattle.py_grammar.specs.declared.statement.Stmt.{Stmt, out-Stmt}
use Rattle.py_grammar.specs.declared.statement.Branch.{Branch}
use Rattle.py_grammar.specs.declared.statement.Block.{Block}
use Rattle.py_grammar.specs.declared.statement.Block.TheOpen.{Stmt-F}
use Rattle.py_grammar.specs.declared.module.Member.{Member}
use Rattle.py_grammar.specs.declared.module.Member.TheVariants as member
use Rattle.py_grammar.specs.declared.module.Item.{Item}
use Rattle.py_grammar.specs.declared.module.Item.TheVariants as item
use Rattle.py_grammar.specs.Codes.{Value}
use Rattle.py_grammar.specs.Parts.{Part, Made}
use Rattle.py_grammar.specs.Trees.{place_of, opt_map, head_of}

abbrev pub type_place_in : TypeTree-F TypeArg TypeTree → Place
type_place_in (TypeTree-F.None p) = p
type_place_in (TypeTree-F.Named p _) = p
type_place_in (TypeTree-F.Of p _ _ _) = p

unfoldable pub type_place : TypeTree → Place
type_place t = type_place_in (out-TypeTree t)

abbrev pub type_arg_place_in : TypeArg-F TypeArg TypeTree → Place
type_arg_place_in (TypeArg-F.Type t) = type_place t
type_arg_place_in (TypeArg-F.Number n) = n.place

unfoldable pub type_arg_place : TypeArg → Place
type_arg_place t = type_arg_place_in (out-TypeArg t)

abbrev pub arg_place_in : Arg-F Arg Tree → Place
arg_place_in (Arg-F.Keyed w _) = w.place
arg_place_in (Arg-F.Plain t) = place_of t

unfoldable pub arg_place : Arg → Place
arg_place a = arg_place_in (out-Arg a)

abbrev pub exprs_place : Exprs → Option Place
exprs_place e = opt_map place_of (head_of e.items)

abbrev pub simple_place : Simple → Option Place
simple_place (simple.Pass p) = Some p
simple_place (simple.Break p) = Some p
simple_place (simple.Continue p) = Some p
simple_place (simple.Return p _) = Some p
simple_place (simple.Assert p _ _) = Some p
simple_place (simple.Del p _) = Some p
simple_place (simple.Value e) = exprs_place e
simple_place (simple.Assign e _) = exprs_place e
simple_place (simple.Update e _ _) = exprs_place e
simple_place (simple.Annotate e _ _) = exprs_place e

abbrev pub stmt_place_in : Stmt-F Block Stmt Branch → Option Place
stmt_place_in (Stmt-F.Simple s) = simple_place s
stmt_place_in (Stmt-F.If p _ _ _ _) = Some p
stmt_place_in (Stmt-F.While p _ _) = Some p
stmt_place_in (Stmt-F.For p _ _ _) = Some p

unfoldable pub stmt_place : Stmt → Option Place
stmt_place s = stmt_place_in (out-Stmt s)

abbrev pub member_place : Member → Place
member_place (member.Text p _) = p
member_place (member.Pass p) = p
member_place (member.Field w _) = w.place
member_place (member.Func f) = f.place

abbrev pub item_place : Item → Place
item_place (item.Text p _) = p
item_place (item.Import p _ _) = p
item_place (item.From p _ _) = p
item_place (item.FromParen p _ _ _) = p
item_place (item.Const w _) = w.place
item_place (item.Func f) = f.place
item_place (item.Class c) = c.place

-- a module and a block have no place of their own, and a subscript is none yet
abbrev pub has_place : Part → Bool
has_place Part.Module = false
has_place Part.Block = false
has_place Part.Subscript = false
has_place _ = true

abbrev pub place_in : (n : Part) → Value (Made n) → Option Place
place_in Part.Module m = None
place_in Part.Block b = None
place_in Part.Subscript f = None
place_in Part.Item i = Some (item_place i)
place_in Part.Import i = Some (item_place i)
place_in Part.Const i = Some (item_place i)
place_in Part.Class c = Some c.place
place_in Part.Member m = Some (member_place m)
place_in Part.Func f = Some f.place
place_in Part.Param p = Some p.name.place
place_in Part.Annotation t = Some (type_place t)
place_in Part.TypeArgument t = Some (type_arg_place t)
place_in Part.Stmt s = stmt_place s
place_in Part.Simple s = simple_place s
place_in Part.Exprs e = exprs_place e
place_in Part.Argument a = Some (arg_place a)
place_in _ x = Some (place_of x)
