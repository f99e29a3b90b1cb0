-- Steps over a comment, and what begins a piece.
use Rattle.std.proofs.Common.{◌≡◌, ℕ, zero, suc, ◌≤◌, cond, List, [], ◌∷◌, length, drop, ap, arith}
use Rattle.std.specs.Prelude.{◌==◌, nat_lt}
use Rattle.std.specs.List.{prefix_len}
use Rattle.py_lexer.specs.Bytes.{line_end_len}
use Rattle.py_lexer.specs.Words.{is_name_byte}
use Rattle.py_lexer.specs.Literals.{quotes_len}
use Rattle.py_lexer.specs.Pieces.{comment_len, line_piece, other_piece}
use Rattle.py_lexer.specs.declared.pieces.Piece.{Piece}

-- where no line end stands, the comment goes on
pub comment_on : (z : List ℕ) → 1 ≤ length z → line_end_len z ≡ 0 → comment_len z ≡ suc (comment_len (drop 1 z))
comment_on [] h e = absurd (omega arith)
comment_on (b ∷ z) h e = ap (λ n. cond (n == 0) (suc (comment_len z)) 0) e

by_run : (a b d : Piece) (run quotes : ℕ) → run ≤ 0 → quotes ≡ 0 → cond (nat_lt 0 run) a (cond (quotes == 0) b d) ≡ b
by_run a b d zero quotes h e = ap (λ n. cond (n == 0) b d) e
by_run a b d (suc run) quotes h e = absurd (omega arith)

-- a piece that begins with neither a name byte nor a quote
pub other_line : (z : List ℕ) → 1 ≤ length z → prefix_len is_name_byte z ≤ 0 → quotes_len z ≡ 0 → line_piece z ≡ other_piece z
other_line [] h r q = absurd (omega arith)
other_line (b ∷ z) h r q = by_run _ _ _ (prefix_len is_name_byte (b ∷ z)) (quotes_len (b ∷ z)) r q
