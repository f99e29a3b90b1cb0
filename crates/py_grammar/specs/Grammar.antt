-- The grammar: the rule of each part, in the order of its printed form, which stands above it (Python reference, chapters 6 to 9).
-- Behind each alternative stands the tree that it makes.
use Rattle.std.specs.Prelude.{true, false, map, ◌∷◌}
use Rattle.py_grammar.specs.declared.symbol.Sym.{Sym}
use Rattle.py_grammar.specs.declared.symbol.Sym.TheVariants as sym
use Rattle.py_grammar.specs.declared.type_tree.TypeTree.TheVariants as type_tree
use Rattle.py_grammar.specs.declared.type_tree.TypeArg.TheVariants as type_arg
use Rattle.py_grammar.specs.declared.expression.Tree.TheVariants as tree
use Rattle.py_grammar.specs.declared.expression.Arg.TheVariants as arg
use Rattle.py_grammar.specs.declared.expression.BinaryOp.TheVariants as op
use Rattle.py_grammar.specs.declared.expression.CompareOp.TheVariants as compare
use Rattle.py_grammar.specs.declared.expression.UnaryOp.TheVariants as unary
use Rattle.py_grammar.specs.declared.statement.UpdateOp.TheVariants as update
use Rattle.py_grammar.specs.declared.statement.Simple.TheVariants as simple
use Rattle.py_grammar.specs.declared.statement.Stmt.TheVariants as stmt
use Rattle.py_grammar.specs.declared.statement.Block.TheVariants as block
use Rattle.py_grammar.specs.declared.module.Member.TheVariants as member
use Rattle.py_grammar.specs.declared.module.Item.TheVariants as item
use Rattle.py_grammar.specs.declared.module.ConstValue.TheVariants as const
use Rattle.py_grammar.specs.Codes.{Code, Value}
use Rattle.py_grammar.specs.Parts.{Part}
use Rattle.py_grammar.specs.Rules.{Rule, Table, one, part, ◌~◌, ◌∣◌, maybe, many, listed, ◌⇒◌}
use Rattle.py_grammar.specs.Trees.{word, literal, place_of, exprs_of, all_of, comma_of, items_of, has_comma, grouped, compared, raised, chosen, applied, literals, words, named, valued, opt_map, first_place}

-- operands with operators between them, which group to the left
abbrev pub with_operators : Rule Code.Tree → Rule Code.BinaryOp → Rule Code.Tree
with_operators r o = r ~ many (o ~ r) ⇒ (λ p. grouped p.0 p.1)

-- an operator, and the symbol that it is
abbrev pub is : {A : Code} → Sym → Value A → Rule A
is k o = one k ⇒ (λ t. o)

-- STR+
abbrev pub strings : Rule (Code.Pair Code.Symbol (Code.ListOf Code.Symbol))
strings = one sym.Str ~ many (one sym.Str)

-- BYTES+
abbrev pub bytes : Rule (Code.Pair Code.Symbol (Code.ListOf Code.Symbol))
bytes = one sym.Bytes ~ many (one sym.Bytes)

-- dotted : NAME ('.' NAME)*
abbrev pub dotted : Rule (Code.Pair Code.Symbol (Code.ListOf (Code.Pair Code.Symbol Code.Symbol)))
dotted = one sym.Name ~ many (one sym.Dot ~ one sym.Name)

-- of cmp : '<' | '>' | '<=' | '>=' | '==' | '!=' | 'in' | 'not' 'in'
abbrev pub comparison : Rule Code.CompareOp
comparison =
    is sym.Less compare.Less
    ∣ is sym.Greater compare.Greater
    ∣ is sym.AtMost compare.AtMost
    ∣ is sym.AtLeast compare.AtLeast
    ∣ is sym.Equal compare.Equal
    ∣ is sym.NotEqual compare.NotEqual
    ∣ is sym.In compare.In
    ∣ one sym.Not ~ one sym.In ⇒ (λ p. compare.NotIn)

-- AUG : '+=' | '-=' | '*=' | '//=' | '%=' | '**=' | '&=' | '|=' | '^=' | '<<=' | '>>='
abbrev pub augment : Rule Code.UpdateOp
augment =
    is sym.PlusEqual update.Add
    ∣ is sym.MinusEqual update.Sub
    ∣ is sym.StarEqual update.Mul
    ∣ is sym.FloorEqual update.FloorDiv
    ∣ is sym.PercentEqual update.Mod
    ∣ is sym.PowerEqual update.Power
    ∣ is sym.AmpEqual update.BitAnd
    ∣ is sym.BarEqual update.BitOr
    ∣ is sym.CaretEqual update.BitXor
    ∣ is sym.LeftEqual update.ShiftLeft
    ∣ is sym.RightEqual update.ShiftRight

-- of post : '.' NAME | '(' [arg (',' arg)* [',']] ')' | '[' sub ']'
abbrev pub suffix : Rule (Code.Arrow Code.Tree Code.Tree)
suffix =
    one sym.Dot ~ one sym.Name ⇒ (λ p x. tree.Member (place_of x) x (word p.1))
    ∣ one sym.LParen ~ maybe (listed (part Part.Argument)) ~ one sym.RParen ⇒ (λ p x. tree.Call (place_of x) x (all_of p.1.0) (comma_of p.1.0))
    ∣ one sym.LBracket ~ part Part.Subscript ~ one sym.RBracket ⇒ (λ p. p.1.0)

-- what may stand behind the expressions of a statement: '=' exprs | AUG expr | ':' type ['=' exprs]
abbrev pub assignment : Rule (Code.Arrow Code.Exprs Code.Simple)
assignment =
    one sym.Assign ~ part Part.Exprs ⇒ (λ p e. simple.Assign e p.1)
    ∣ augment ~ part Part.Expr ⇒ (λ p e. simple.Update e p.0 p.1)
    ∣ one sym.Colon ~ part Part.Annotation ~ maybe (one sym.Assign ~ part Part.Exprs) ⇒ (λ p e. simple.Annotate e p.1.0 (opt_map (λ q. q.1) p.1.1))

-- of names : NAME ['as' NAME]
abbrev pub imported : Rule Code.Import
imported = one sym.Name ~ maybe (one sym.As ~ one sym.Name) ⇒ (λ p. record { name = word p.0; known_as = opt_map (λ q. word q.1) p.1 })

-- names : NAME ['as' NAME] (',' NAME ['as' NAME])*, or in parentheses, with a comma or none behind the last
abbrev pub names : Rule (Code.Arrow Code.Symbol (Code.Arrow (Code.ListOf Code.Word) Code.Item))
names =
    imported ~ many (one sym.Comma ~ imported) ⇒ (λ p t w. item.From t.place w (p.0 ∷ map (λ q. q.1) p.1))
    ∣ one sym.LParen ~ listed imported ~ one sym.RParen ⇒ (λ p t w. item.FromParen t.place w p.1.0.0 p.1.0.1)

-- of const : NUMBER | STR+ | BYTES+ | 'True' | 'False'
abbrev pub constant : Rule Code.ConstValue
constant =
    one sym.Number ⇒ (λ t. const.Number (literal t))
    ∣ strings ⇒ (λ p. const.Text p.0.place (literals p))
    ∣ bytes ⇒ (λ p. const.Bytes p.0.place (literals p))
    ∣ one sym.True ⇒ (λ t. const.Flag t.place true)
    ∣ one sym.False ⇒ (λ t. const.Flag t.place false)

unfoldable pub rule : Table
-- module : (STR+ NEWLINE | import | const | func | class)* END
rule Part.Module = many (part Part.Item) ~ one sym.End ⇒ (λ p. record { items = p.0 })
-- what stands in a module
rule Part.Item =
    strings ~ one sym.Newline ⇒ (λ p. item.Text p.0.0.place (literals p.0))
    ∣ part Part.Import
    ∣ part Part.Const
    ∣ part Part.Func ⇒ (λ f. item.Func f)
    ∣ part Part.Class ⇒ (λ c. item.Class c)
-- import : 'import' dotted ['as' NAME] NEWLINE | 'from' dotted 'import' (names | '(' names [','] ')') NEWLINE
rule Part.Import =
    one sym.Import ~ dotted ~ maybe (one sym.As ~ one sym.Name) ~ one sym.Newline ⇒ (λ p. item.Import p.0.place (words p.1.0) (opt_map (λ q. word q.1) p.1.1.0))
    ∣ one sym.From ~ dotted ~ one sym.Import ~ names ~ one sym.Newline ⇒ (λ p. p.1.1.1.0 p.0 (words p.1.0))
-- const : NAME '=' (NUMBER | STR+ | BYTES+ | 'True' | 'False') NEWLINE
rule Part.Const = one sym.Name ~ one sym.Assign ~ constant ~ one sym.Newline ⇒ (λ p. item.Const (word p.0) p.1.1.0)
-- class : 'class' NAME '(' dotted ')' ':' NEWLINE INDENT member+ DEDENT
rule Part.Class =
    one sym.Class ~ one sym.Name ~ one sym.LParen ~ dotted ~ one sym.RParen ~ one sym.Colon ~ one sym.Newline ~ one sym.Indent ~ (part Part.Member ~ many (part Part.Member)) ~ one sym.Dedent
    ⇒ (λ p. record { place = p.0.place; name = word p.1.0; base = words p.1.1.1.0; members = p.1.1.1.1.1.1.1.1.0.0 ∷ p.1.1.1.1.1.1.1.1.0.1 })
-- member : STR+ NEWLINE | 'pass' NEWLINE | NAME ':' type NEWLINE | func
rule Part.Member =
    strings ~ one sym.Newline ⇒ (λ p. member.Text p.0.0.place (literals p.0))
    ∣ one sym.Pass ~ one sym.Newline ⇒ (λ p. member.Pass p.0.place)
    ∣ one sym.Name ~ one sym.Colon ~ part Part.Annotation ~ one sym.Newline ⇒ (λ p. member.Field (word p.0) p.1.1.0)
    ∣ part Part.Func ⇒ (λ f. member.Func f)
-- func : ('@' post NEWLINE)* 'def' NAME '(' [param (',' param)* [',']] ')' ['->' type] ':' block
rule Part.Func =
    many (one sym.At ~ part Part.Post ~ one sym.Newline) ~ one sym.Def ~ one sym.Name ~ one sym.LParen ~ maybe (listed (part Part.Param)) ~ one sym.RParen ~ maybe (one sym.Arrow ~ part Part.Annotation) ~ one sym.Colon ~ part Part.Block
    ⇒ (λ p. record { place = first_place p.1.0.place p.0; decorators = map (λ q. q.1.0) p.0; def = p.1.0.place; name = word p.1.1.0; params = all_of p.1.1.1.1.0; comma = comma_of p.1.1.1.1.0; result = opt_map (λ q. q.1) p.1.1.1.1.1.1.0; body = p.1.1.1.1.1.1.1.1 })
-- param : NAME [':' type]
rule Part.Param = one sym.Name ~ maybe (one sym.Colon ~ part Part.Annotation) ⇒ (λ p. record { name = word p.0; annotation = opt_map (λ q. q.1) p.1 })
-- type : 'None' | dotted ['[' targ (',' targ)* [','] ']']
rule Part.Annotation =
    one sym.None ⇒ (λ t. type_tree.None t.place)
    ∣ dotted ~ maybe (one sym.LBracket ~ listed (part Part.TypeArgument) ~ one sym.RBracket) ⇒ (λ p. named p.0 p.1)
-- targ : type | NUMBER
rule Part.TypeArgument =
    part Part.Annotation ⇒ (λ t. type_arg.Type t)
    ∣ one sym.Number ⇒ (λ t. type_arg.Number (literal t))
-- block : simple NEWLINE | NEWLINE INDENT stmt+ DEDENT
rule Part.Block =
    part Part.Simple ~ one sym.Newline ⇒ (λ p. block.Line p.0)
    ∣ one sym.Newline ~ one sym.Indent ~ (part Part.Stmt ~ many (part Part.Stmt)) ~ one sym.Dedent ⇒ (λ p. block.Lines (p.1.1.0.0 ∷ p.1.1.0.1))
-- stmt : simple NEWLINE | 'if' expr ':' block ('elif' expr ':' block)* ['else' ':' block] | 'while' expr ':' block
--      | 'for' NAME 'in' expr ':' block
rule Part.Stmt =
    part Part.Simple ~ one sym.Newline ⇒ (λ p. stmt.Simple p.0)
    ∣ one sym.If ~ part Part.Expr ~ one sym.Colon ~ part Part.Block ~ many (one sym.Elif ~ part Part.Expr ~ one sym.Colon ~ part Part.Block) ~ maybe (one sym.Else ~ one sym.Colon ~ part Part.Block)
    ⇒ (λ p. stmt.If p.0.place p.1.0 p.1.1.1.0 (map (λ q. record { place = q.0.place; test = q.1.0; block = q.1.1.1 }) p.1.1.1.1.0) (opt_map (λ q. q.1.1) p.1.1.1.1.1))
    ∣ one sym.While ~ part Part.Expr ~ one sym.Colon ~ part Part.Block ⇒ (λ p. stmt.While p.0.place p.1.0 p.1.1.1)
    ∣ one sym.For ~ one sym.Name ~ one sym.In ~ part Part.Expr ~ one sym.Colon ~ part Part.Block ⇒ (λ p. stmt.For p.0.place (word p.1.0) p.1.1.1.0 p.1.1.1.1.1)
-- simple : 'pass' | 'break' | 'continue' | 'return' [exprs] | 'assert' expr [',' expr] | 'del' post
--        | exprs ['=' exprs | AUG expr | ':' type ['=' exprs]]
rule Part.Simple =
    one sym.Pass ⇒ (λ t. simple.Pass t.place)
    ∣ one sym.Break ⇒ (λ t. simple.Break t.place)
    ∣ one sym.Continue ⇒ (λ t. simple.Continue t.place)
    ∣ one sym.Return ~ maybe (part Part.Exprs) ⇒ (λ p. simple.Return p.0.place p.1)
    ∣ one sym.Assert ~ part Part.Expr ~ maybe (one sym.Comma ~ part Part.Expr) ⇒ (λ p. simple.Assert p.0.place p.1.0 (opt_map (λ q. q.1) p.1.1))
    ∣ one sym.Del ~ part Part.Post ⇒ (λ p. simple.Del p.0.place p.1)
    ∣ part Part.Exprs ~ maybe assignment ⇒ (λ p. valued p.0 p.1)
-- exprs : expr (',' expr)* [',']
rule Part.Exprs = listed (part Part.Expr) ⇒ exprs_of
-- expr : or ['if' or 'else' expr]
rule Part.Expr = part Part.Or ~ maybe (one sym.If ~ part Part.Or ~ one sym.Else ~ part Part.Expr) ⇒ (λ p. chosen p.0 p.1)
-- or : and ('or' and)*
rule Part.Or = with_operators (part Part.And) (is sym.Or op.Or)
-- and : not ('and' not)*
rule Part.And = with_operators (part Part.Not) (is sym.And op.And)
-- not : 'not' not | cmp
rule Part.Not =
    one sym.Not ~ part Part.Not ⇒ (λ p. tree.Unary p.0.place unary.Not p.1)
    ∣ part Part.Cmp
-- cmp : bor [('<' | '>' | '<=' | '>=' | '==' | '!=' | 'in' | 'not' 'in') bor]
rule Part.Cmp = part Part.BitOr ~ maybe (comparison ~ part Part.BitOr) ⇒ (λ p. compared p.0 p.1)
-- bor : xor ('|' xor)*
rule Part.BitOr = with_operators (part Part.BitXor) (is sym.Bar op.BitOr)
-- xor : band ('^' band)*
rule Part.BitXor = with_operators (part Part.BitAnd) (is sym.Caret op.BitXor)
-- band : shift ('&' shift)*
rule Part.BitAnd = with_operators (part Part.Shift) (is sym.Amp op.BitAnd)
-- shift : sum (('<<' | '>>') sum)*
rule Part.Shift = with_operators (part Part.Sum) (is sym.Left op.ShiftLeft ∣ is sym.Right op.ShiftRight)
-- sum : term (('+' | '-') term)*
rule Part.Sum = with_operators (part Part.Term) (is sym.Plus op.Add ∣ is sym.Minus op.Sub)
-- term : unary (('*' | '/' | '//' | '%') unary)*
rule Part.Term = with_operators (part Part.Unary) (is sym.Star op.Mul ∣ is sym.Slash op.Div ∣ is sym.Floor op.FloorDiv ∣ is sym.Percent op.Mod)
-- unary : ('+' | '-' | '~') unary | power
rule Part.Unary =
    one sym.Plus ~ part Part.Unary ⇒ (λ p. tree.Unary p.0.place unary.Plus p.1)
    ∣ one sym.Minus ~ part Part.Unary ⇒ (λ p. tree.Unary p.0.place unary.Minus p.1)
    ∣ one sym.Tilde ~ part Part.Unary ⇒ (λ p. tree.Unary p.0.place unary.Invert p.1)
    ∣ part Part.Power
-- power : post ['**' unary]
rule Part.Power = part Part.Post ~ maybe (one sym.Power ~ part Part.Unary) ⇒ (λ p. raised p.0 p.1)
-- post : atom ('.' NAME | '(' [arg (',' arg)* [',']] ')' | '[' sub ']')*
rule Part.Post = part Part.Atom ~ many suffix ⇒ (λ p. applied p.0 p.1)
-- atom : NAME | NUMBER | STR+ | BYTES+ | 'True' | 'False' | '(' [exprs] ')' | '[' [exprs] ']'
rule Part.Atom =
    one sym.Name ⇒ (λ t. tree.Name (word t))
    ∣ one sym.Number ⇒ (λ t. tree.Number (literal t))
    ∣ strings ⇒ (λ p. tree.Text p.0.place (literals p))
    ∣ bytes ⇒ (λ p. tree.Bytes p.0.place (literals p))
    ∣ one sym.True ⇒ (λ t. tree.Flag t.place true)
    ∣ one sym.False ⇒ (λ t. tree.Flag t.place false)
    ∣ one sym.LParen ~ maybe (part Part.Exprs) ~ one sym.RParen ⇒ (λ p. tree.Paren p.0.place (items_of p.1.0) (has_comma p.1.0))
    ∣ one sym.LBracket ~ maybe (part Part.Exprs) ~ one sym.RBracket ⇒ (λ p. tree.Display p.0.place (items_of p.1.0) (has_comma p.1.0))
-- arg : NAME '=' expr | expr
rule Part.Argument =
    one sym.Name ~ one sym.Assign ~ part Part.Expr ⇒ (λ p. arg.Keyed (word p.0) p.1.1)
    ∣ part Part.Expr ⇒ (λ x. arg.Plain x)
-- sub : exprs | [expr] ':' [expr]
rule Part.Subscript =
    part Part.Exprs ⇒ (λ e x. tree.Index (place_of x) x e.items e.comma)
    ∣ maybe (part Part.Expr) ~ one sym.Colon ~ maybe (part Part.Expr) ⇒ (λ p x. tree.Slice (place_of x) x p.0 p.1.1)
