-- The symbols that a source and its tokens give.
use Rattle.std.specs.Prelude.{ℕ, ◌-◌, cond, codes, map, List, [], ◌∷◌, take, drop}
use Rattle.std.specs.Str.{bytes_eq}
use Rattle.py_lexer.specs.declared.token.TokenKind.{TokenKind}
use Rattle.py_lexer.specs.declared.token.TokenKind.TheVariants as kind
use Rattle.py_lexer.specs.declared.token.Token.{Token}
use Rattle.py_grammar.specs.declared.symbol.Sym.{Sym}
use Rattle.py_grammar.specs.declared.symbol.Sym.TheVariants as sym
use Rattle.py_grammar.specs.declared.symbol.Symbol.{Symbol}

-- the kind that a table gives to a text, or another
abbrev pub listed_as : Sym → List (List ℕ × Sym) → List ℕ → Sym
listed_as other [] text = other
listed_as other (r ∷ rs) text = cond (bytes_eq r.0 text) r.1 (listed_as other rs text)

-- the keywords that a rule names (Python reference 2.3.1)
unfoldable pub keywords : List (List ℕ × Sym)
keywords =
    (codes "False", sym.False) ∷ (codes "None", sym.None) ∷ (codes "True", sym.True) ∷ (codes "and", sym.And) ∷ (codes "as", sym.As)
    ∷ (codes "assert", sym.Assert) ∷ (codes "break", sym.Break) ∷ (codes "class", sym.Class) ∷ (codes "continue", sym.Continue) ∷ (codes "def", sym.Def)
    ∷ (codes "del", sym.Del) ∷ (codes "elif", sym.Elif) ∷ (codes "else", sym.Else) ∷ (codes "for", sym.For) ∷ (codes "from", sym.From)
    ∷ (codes "if", sym.If) ∷ (codes "import", sym.Import) ∷ (codes "in", sym.In) ∷ (codes "not", sym.Not) ∷ (codes "or", sym.Or)
    ∷ (codes "pass", sym.Pass) ∷ (codes "return", sym.Return) ∷ (codes "while", sym.While) ∷ []

-- the marks (Python reference 2.5, 2.6)
unfoldable pub marks : List (List ℕ × Sym)
marks =
    (codes "**=", sym.PowerEqual) ∷ (codes "//=", sym.FloorEqual) ∷ (codes "<<=", sym.LeftEqual) ∷ (codes ">>=", sym.RightEqual) ∷ (codes "**", sym.Power)
    ∷ (codes "//", sym.Floor) ∷ (codes "<<", sym.Left) ∷ (codes ">>", sym.Right) ∷ (codes "<=", sym.AtMost) ∷ (codes ">=", sym.AtLeast)
    ∷ (codes "==", sym.Equal) ∷ (codes "!=", sym.NotEqual) ∷ (codes "+=", sym.PlusEqual) ∷ (codes "-=", sym.MinusEqual) ∷ (codes "*=", sym.StarEqual)
    ∷ (codes "%=", sym.PercentEqual) ∷ (codes "&=", sym.AmpEqual) ∷ (codes "|=", sym.BarEqual) ∷ (codes "^=", sym.CaretEqual) ∷ (codes "->", sym.Arrow)
    ∷ (codes "+", sym.Plus) ∷ (codes "-", sym.Minus) ∷ (codes "*", sym.Star) ∷ (codes "/", sym.Slash) ∷ (codes "%", sym.Percent)
    ∷ (codes "&", sym.Amp) ∷ (codes "|", sym.Bar) ∷ (codes "^", sym.Caret) ∷ (codes "~", sym.Tilde) ∷ (codes "<", sym.Less)
    ∷ (codes ">", sym.Greater) ∷ (codes "=", sym.Assign) ∷ (codes "(", sym.LParen) ∷ (codes ")", sym.RParen) ∷ (codes "[", sym.LBracket)
    ∷ (codes "]", sym.RBracket) ∷ (codes ",", sym.Comma) ∷ (codes ":", sym.Colon) ∷ (codes ".", sym.Dot) ∷ (codes "@", sym.At) ∷ []

-- what a token of a kind with this text is; every keyword and mark is in the tables, or a keyword that no rule names
abbrev pub sym_of_token : TokenKind → List ℕ → Sym
sym_of_token kind.Name text = sym.Name
sym_of_token kind.Keyword text = listed_as sym.Reserved keywords text
sym_of_token kind.Number text = sym.Number
sym_of_token kind.Str text = sym.Str
sym_of_token kind.BytesLit text = sym.Bytes
sym_of_token kind.Mark text = listed_as sym.Reserved marks text
sym_of_token kind.Newline text = sym.Newline
sym_of_token kind.Indent text = sym.Indent
sym_of_token kind.Dedent text = sym.Dedent
sym_of_token kind.End text = sym.End

-- the text of a token
abbrev pub text_of : List ℕ → Token → List ℕ
text_of source t = take (t.end - t.start) (drop t.start source)

abbrev pub symbol_of : List ℕ → Token → Symbol
symbol_of source t = record { sym = sym_of_token t.kind (text_of source t); place = t.place; text = text_of source t }

abbrev pub symbols : List ℕ → List Token → List Symbol
symbols source tokens = map (λ t. symbol_of source t) tokens
