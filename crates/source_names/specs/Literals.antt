-- What the literals of a tree stand for (Python reference 2.4).
use Rattle.std.specs.Prelude.{ℕ, Bool, nat_le, List, [], ◌∷◌, ◌++◌, length, unwrap_or}
use Rattle.py_lexer.specs.Numbers.{number_value}
use Rattle.py_lexer.specs.Literals.{literal_value}
use Rattle.py_grammar.specs.declared.word.Literal.{Literal}

-- the number of a token that is one; of any other text 0
abbrev pub number_of : Literal → ℕ
number_of l = unwrap_or (number_value l.text) 0

-- the bytes of literals side by side, joined
abbrev pub joined : List Literal → List ℕ
joined [] = []
joined (l ∷ ls) = (literal_value l.text).0 ++ joined ls

-- a joined literal has at most 4096 bytes
abbrev pub is_short : List ℕ → Bool
is_short b = nat_le (length b) 4096
