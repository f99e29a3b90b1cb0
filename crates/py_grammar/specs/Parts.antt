-- The parts of a source that have a rule of their own, and what each makes (Python reference, chapters 6 to 9).
use Rattle.py_grammar.specs.Codes.{Code}

pub data Part : Type 0 where
  Module : Part
  Item : Part
  Import : Part
  Const : Part
  Class : Part
  Member : Part
  Func : Part
  Param : Part
  Annotation : Part
  TypeArgument : Part
  Block : Part
  Stmt : Part
  Simple : Part
  Exprs : Part
  Expr : Part
  Or : Part
  And : Part
  Not : Part
  Cmp : Part
  BitOr : Part
  BitXor : Part
  BitAnd : Part
  Shift : Part
  Sum : Part
  Term : Part
  Unary : Part
  Power : Part
  Post : Part
  Atom : Part
  Argument : Part
  Subscript : Part

abbrev pub Made : Part → Code
Made Part.Module = Code.Module
Made Part.Item = Code.Item
Made Part.Import = Code.Item
Made Part.Const = Code.Item
Made Part.Class = Code.Class
Made Part.Member = Code.Member
Made Part.Func = Code.Func
Made Part.Param = Code.Param
Made Part.Annotation = Code.TypeTree
Made Part.TypeArgument = Code.TypeArg
Made Part.Block = Code.Block
Made Part.Stmt = Code.Stmt
Made Part.Simple = Code.Simple
Made Part.Exprs = Code.Exprs
Made Part.Argument = Code.Arg
Made Part.Subscript = Code.Arrow Code.Tree Code.Tree
Made _ = Code.Tree
