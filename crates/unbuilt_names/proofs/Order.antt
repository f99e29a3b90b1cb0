-- Tokens that stand in order end within the source.
use Rattle.std.proofs.Common.{ℕ, ◌≤◌, List, [], ◌∷◌, length, get_or, arith}
use Rattle.py_lexer.specs.declared.token.Token.{Token}
use Rattle.py_lexer.specs.Spans.{InOrder}

in_order : (from end : ℕ) (ts : List Token) → InOrder from end ts → from ≤ end
in_order from end [] h = h
in_order from end (t ∷ ts) h = let rest : t.end ≤ end = in_order t.end end ts h.2 in omega (arith, h.0, h.1, rest)

pub first_within : (from end : ℕ) (ts : List Token) (d : Token) → 1 ≤ length ts → InOrder from end ts → (get_or ts 0 d).end ≤ end
first_within from end [] d some h = absurd (omega (arith, some))
first_within from end (t ∷ ts) d some h = in_order t.end end ts h.2
