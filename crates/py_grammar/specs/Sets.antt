-- With which kinds of symbols a rule begins, and with which ones what it derived may go on.
use Rattle.std.specs.Prelude.{Bool, true, false, ◌||◌, ◌&&◌, not, cond, List, [], ◌∷◌, ◌++◌}
use Rattle.py_grammar.specs.declared.symbol.Sym.{Sym}
use Rattle.py_grammar.specs.declared.symbol.Sym.TheVariants as sym
use Rattle.py_grammar.specs.Codes.{Code}
use Rattle.py_grammar.specs.Parts.{Part}
use Rattle.py_grammar.specs.Rules.{Rule, one, part, ◌~◌, ◌∣◌, maybe, many, listed, before, ◌⇒◌, has, apart}

-- ---- of the parts

abbrev pub atoms : List Sym
atoms = sym.Name ∷ sym.Number ∷ sym.Str ∷ sym.Bytes ∷ sym.True ∷ sym.False ∷ sym.LParen ∷ sym.LBracket ∷ []

abbrev pub operands : List Sym
operands = sym.Plus ∷ sym.Minus ∷ sym.Tilde ∷ atoms

abbrev pub starters : List Sym
starters = sym.Not ∷ operands

abbrev pub simple_starters : List Sym
simple_starters = sym.Pass ∷ sym.Break ∷ sym.Continue ∷ sym.Return ∷ sym.Assert ∷ sym.Del ∷ starters

abbrev pub item_starters : List Sym
item_starters = sym.Str ∷ sym.Import ∷ sym.From ∷ sym.Name ∷ sym.At ∷ sym.Def ∷ sym.Class ∷ []

abbrev pub begins : Part → List Sym
begins Part.Module = sym.End ∷ item_starters
begins Part.Item = item_starters
begins Part.Import = sym.Import ∷ sym.From ∷ []
begins Part.Const = sym.Name ∷ []
begins Part.Class = sym.Class ∷ []
begins Part.Member = sym.Str ∷ sym.Pass ∷ sym.Name ∷ sym.At ∷ sym.Def ∷ []
begins Part.Func = sym.At ∷ sym.Def ∷ []
begins Part.Param = sym.Name ∷ []
begins Part.Annotation = sym.None ∷ sym.Name ∷ []
begins Part.TypeArgument = sym.None ∷ sym.Name ∷ sym.Number ∷ []
begins Part.Block = sym.Newline ∷ simple_starters
begins Part.Stmt = sym.If ∷ sym.While ∷ sym.For ∷ simple_starters
begins Part.Simple = simple_starters
begins Part.Exprs = starters
begins Part.Expr = starters
begins Part.Or = starters
begins Part.And = starters
begins Part.Not = starters
begins Part.Cmp = operands
begins Part.BitOr = operands
begins Part.BitXor = operands
begins Part.BitAnd = operands
begins Part.Shift = operands
begins Part.Sum = operands
begins Part.Term = operands
begins Part.Unary = operands
begins Part.Power = atoms
begins Part.Post = atoms
begins Part.Atom = atoms
begins Part.Argument = starters
begins Part.Subscript = sym.Colon ∷ starters

abbrev pub behind_post : List Sym
behind_post = sym.Dot ∷ sym.LParen ∷ sym.LBracket ∷ sym.Str ∷ sym.Bytes ∷ []

abbrev pub behind_unary : List Sym
behind_unary = sym.Power ∷ behind_post

abbrev pub behind_term : List Sym
behind_term = sym.Star ∷ sym.Slash ∷ sym.Floor ∷ sym.Percent ∷ behind_unary

abbrev pub behind_sum : List Sym
behind_sum = sym.Plus ∷ sym.Minus ∷ behind_term

abbrev pub behind_shift : List Sym
behind_shift = sym.Left ∷ sym.Right ∷ behind_sum

abbrev pub behind_cmp : List Sym
behind_cmp = sym.Less ∷ sym.Greater ∷ sym.AtMost ∷ sym.AtLeast ∷ sym.Equal ∷ sym.NotEqual ∷ sym.In ∷ sym.Not ∷ sym.Bar ∷ sym.Caret ∷ sym.Amp ∷ behind_shift

abbrev pub behind_expr : List Sym
behind_expr = sym.If ∷ sym.Or ∷ sym.And ∷ behind_cmp

abbrev pub behind_exprs : List Sym
behind_exprs = sym.Comma ∷ starters ++ behind_expr

abbrev pub augmented : List Sym
augmented = sym.PlusEqual ∷ sym.MinusEqual ∷ sym.StarEqual ∷ sym.FloorEqual ∷ sym.PercentEqual ∷ sym.PowerEqual ∷ sym.AmpEqual ∷ sym.BarEqual ∷ sym.CaretEqual ∷ sym.LeftEqual ∷ sym.RightEqual ∷ []

abbrev pub goes_on : Part → List Sym
goes_on Part.Param = sym.Colon ∷ sym.Dot ∷ sym.LBracket ∷ []
goes_on Part.Annotation = sym.Dot ∷ sym.LBracket ∷ []
goes_on Part.TypeArgument = sym.Dot ∷ sym.LBracket ∷ []
goes_on Part.Stmt = sym.Elif ∷ sym.Else ∷ []
goes_on Part.Simple = sym.Assign ∷ sym.Colon ∷ augmented ++ behind_exprs
goes_on Part.Exprs = behind_exprs
goes_on Part.Argument = sym.Assign ∷ behind_expr
goes_on Part.Subscript = sym.Colon ∷ behind_exprs
goes_on Part.Expr = behind_expr
goes_on Part.Or = sym.Or ∷ sym.And ∷ behind_cmp
goes_on Part.And = sym.And ∷ behind_cmp
goes_on Part.Not = behind_cmp
goes_on Part.Cmp = behind_cmp
goes_on Part.BitOr = sym.Bar ∷ sym.Caret ∷ sym.Amp ∷ behind_shift
goes_on Part.BitXor = sym.Caret ∷ sym.Amp ∷ behind_shift
goes_on Part.BitAnd = sym.Amp ∷ behind_shift
goes_on Part.Shift = behind_shift
goes_on Part.Sum = behind_sum
goes_on Part.Term = behind_term
goes_on Part.Unary = behind_unary
goes_on Part.Power = behind_unary
goes_on Part.Post = behind_post
goes_on Part.Atom = sym.Str ∷ sym.Bytes ∷ []
goes_on _ = []

-- ---- of the rules

-- the rule derives no symbols at all
abbrev pub null : {A : Code} → Rule A → Bool
null (one k) = false
null (part n) = false
null (r ~ s) = null r && null s
null (r ∣ s) = null r || null s
null (maybe r) = true
null (many r) = true
null (listed r) = null r
null (before fit r k s) = null r
null (r ⇒ f) = null r

abbrev pub first : {A : Code} → Rule A → List Sym
first (one k) = k ∷ []
first (part n) = begins n
first (r ~ s) = first r ++ cond (null r) (first s) []
first (r ∣ s) = first r ++ first s
first (maybe r) = first r
first (many r) = first r
first (listed r) = first r
first (before fit r k s) = first r
first (r ⇒ f) = first r

-- the kinds with which what a rule derived may go on
abbrev pub on : {A : Code} → Rule A → List Sym
on (one k) = []
on (part n) = goes_on n
on (r ~ s) = on s ++ cond (null s) (on r) []
on (r ∣ s) = on r ++ on s
on (maybe r) = first r ++ on r
on (many r) = first r ++ on r
on (listed r) = sym.Comma ∷ first r ++ on r
on (before fit r k s) = k ∷ on r ++ on s
on (r ⇒ f) = on r

-- one symbol of look-ahead shows how to go on
abbrev pub is_plain : {A : Code} → Rule A → Bool
is_plain (one k) = true
is_plain (part n) = true
is_plain (r ~ s) = apart (on r) (first s) && (is_plain r && is_plain s)
is_plain (r ∣ s) = apart (first r) (first s) && (not (null r) && (not (null s) && (is_plain r && is_plain s)))
is_plain (maybe r) = not (null r) && is_plain r
is_plain (many r) = apart (on r) (first r) && (not (null r) && is_plain r)
is_plain (listed r) = not (has sym.Comma (on r)) && (not (null r) && is_plain r)
is_plain (before fit r k s) = not (has k (on r)) && (not (null r) && (is_plain r && is_plain s))
is_plain (r ⇒ f) = is_plain r
