-- The types of the values that rules make, each by a name, so that a rule may say the type of its value.
use Rattle.std.specs.Prelude.{Bool, List, Option}
use Rattle.py_grammar.specs.declared.symbol.Symbol.{Symbol as SymbolValue}
use Rattle.py_grammar.specs.declared.word.Word.{Word as WordValue}
use Rattle.py_grammar.specs.declared.type_tree.TypeTree.{TypeTree as TypeTreeValue}
use Rattle.py_grammar.specs.declared.type_tree.TypeArg.{TypeArg as TypeArgValue}
use Rattle.py_grammar.specs.declared.expression.Tree.{Tree as TreeValue}
use Rattle.py_grammar.specs.declared.expression.Arg.{Arg as ArgValue}
use Rattle.py_grammar.specs.declared.expression.Exprs.{Exprs as ExprsValue}
use Rattle.py_grammar.specs.declared.expression.BinaryOp.{BinaryOp as BinaryOpValue}
use Rattle.py_grammar.specs.declared.expression.CompareOp.{CompareOp as CompareOpValue}
use Rattle.py_grammar.specs.declared.statement.UpdateOp.{UpdateOp as UpdateOpValue}
use Rattle.py_grammar.specs.declared.statement.Simple.{Simple as SimpleValue}
use Rattle.py_grammar.specs.declared.statement.Stmt.{Stmt as StmtValue}
use Rattle.py_grammar.specs.declared.statement.Block.{Block as BlockValue}
use Rattle.py_grammar.specs.declared.module.Param.{Param as ParamValue}
use Rattle.py_grammar.specs.declared.module.Func.{Func as FuncValue}
use Rattle.py_grammar.specs.declared.module.Member.{Member as MemberValue}
use Rattle.py_grammar.specs.declared.module.Class.{Class as ClassValue}
use Rattle.py_grammar.specs.declared.module.Import.{Import as ImportValue}
use Rattle.py_grammar.specs.declared.module.Item.{Item as ItemValue}
use Rattle.py_grammar.specs.declared.module.ConstValue.{ConstValue as ConstantValue}
use Rattle.py_grammar.specs.declared.module.Module.{Module as ModuleValue}

pub data Code : Type 0 where
  Symbol : Code
  Word : Code
  TypeTree : Code
  TypeArg : Code
  Tree : Code
  Arg : Code
  Exprs : Code
  BinaryOp : Code
  CompareOp : Code
  UpdateOp : Code
  Simple : Code
  Stmt : Code
  Block : Code
  Param : Code
  Func : Code
  Member : Code
  Class : Code
  Import : Code
  Item : Code
  ConstValue : Code
  Module : Code
  Flag : Code
  ListOf : Code → Code
  OptionOf : Code → Code
  Pair : Code → Code → Code
  Arrow : Code → Code → Code

abbrev pub Value : Code → Type 0
Value Code.Symbol = SymbolValue
Value Code.Word = WordValue
Value Code.TypeTree = TypeTreeValue
Value Code.TypeArg = TypeArgValue
Value Code.Tree = TreeValue
Value Code.Arg = ArgValue
Value Code.Exprs = ExprsValue
Value Code.BinaryOp = BinaryOpValue
Value Code.CompareOp = CompareOpValue
Value Code.UpdateOp = UpdateOpValue
Value Code.Simple = SimpleValue
Value Code.Stmt = StmtValue
Value Code.Block = BlockValue
Value Code.Param = ParamValue
Value Code.Func = FuncValue
Value Code.Member = MemberValue
Value Code.Class = ClassValue
Value Code.Import = ImportValue
Value Code.Item = ItemValue
Value Code.ConstValue = ConstantValue
Value Code.Module = ModuleValue
Value Code.Flag = Bool
Value (Code.ListOf a) = List (Value a)
Value (Code.OptionOf a) = Option (Value a)
Value (Code.Pair a b) = Value a × Value b
Value (Code.Arrow a b) = Value a → Value b
