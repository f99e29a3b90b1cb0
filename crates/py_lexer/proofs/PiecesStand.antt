-- The pieces of a source stand one behind the other, and what is wrong in one breaks P04 or P05.
use Rattle.std.proofs.Common.{◌≡◌, ℕ, zero, suc, ◌+◌, ◌-◌, ◌≤◌, Bool, true, false, cond, List, [], ◌∷◌, length, take, drop, refl, arith, Option, Some, None}
use Rattle.std.specs.Prelude.{◌==◌, ◌&&◌, ◌||◌, nat_lt}
use Rattle.std.specs.Char.{is_ascii_digit}
use Rattle.std.specs.List.{prefix_len}
use Rattle.std.proofs.lemmas.List.Sums.{prefix_len-le-length}
use Rattle.std.proofs.lemmas.Bool.Decides.{nat_tests}
use Rattle.puya_base.specs.declared.source.Rule.TheVariants.{P04, P05}
use Rattle.py_lexer.specs.declared.token.TokenKind.{TokenKind}
use Rattle.py_lexer.specs.declared.token.TokenKind.TheVariants.{Name, Keyword, Number, Str, BytesLit, End}
use Rattle.py_lexer.specs.declared.pieces.What.TheVariants.{Blanks, LineEnd, Open, Close, Flawed}
use Rattle.py_lexer.specs.declared.pieces.Piece.{Piece}
use Rattle.py_lexer.specs.declared.layout.Spot.{Spot}
use Rattle.py_lexer.specs.Bytes.{Text, line_end_len}
use Rattle.py_lexer.specs.Words.{is_name_byte, is_blank, is_space, marks, keywords, front_len, is_one_of}
use Rattle.py_lexer.specs.Numbers.{number_value, is_decimal}
use Rattle.py_lexer.specs.Literals.{quotes_len, closing_len, flaw_at, has_prefix}
use Rattle.py_lexer.specs.Pieces.{word, wrong, skip, comment_len, join_piece, is_bytes, closed_literal, literal_by, literal_piece, name_piece, begins_point, is_none, number_piece, mark_by, begins_digit, mark_piece, other_piece, line_piece, piece_at}
use Rattle.py_lexer.specs.Scan.{Placed, behind_text, pieces_from}
use Rattle.py_lexer.proofs.FirstFault.{IsFair, Ascending}

either : (q : Bool) (a b : Piece) → IsFair a.what → IsFair b.what → IsFair (cond q a b).what
either true a b h k = h
either false a b h k = k

fair_closed : (kind : TokenKind) (opening : ℕ) (z : Text) (n : ℕ) → 1 ≤ opening → (kind ≡ End → ⊥) → IsFair (closed_literal kind opening z n).what
fair_closed kind opening z n h k = either (nat_lt (flaw_at (is_bytes kind) z) (length z)) (record { what = Flawed kind (opening + flaw_at (is_bytes kind) z); len = n }) (word kind n) (omega arith, k) k

fair_by : (kind : TokenKind) (opening : ℕ) (quotes rest : Text) (o : Option ℕ) → 1 ≤ opening → (kind ≡ End → ⊥) → IsFair (literal_by kind opening quotes rest o).what
fair_by kind opening quotes rest None h k = (omega arith, omega arith)
fair_by kind opening quotes rest (Some closed) h k = fair_closed kind opening (take (closed - length quotes) rest) (opening + closed) h k

fair_literal : (kind : TokenKind) (prefix : ℕ) (z : Text) → 1 ≤ prefix + quotes_len (drop prefix z) → (kind ≡ End → ⊥) → IsFair (literal_piece kind prefix z).what
fair_literal kind prefix z h k =
    let quotes = take (quotes_len (drop prefix z)) (drop prefix z) in
    let opening = prefix + quotes_len (drop prefix z) in
    fair_by kind opening quotes (drop opening z) (closing_len quotes (drop opening z)) h k

fair_name : (n : ℕ) (z : Text) → IsFair (name_piece n z).what
fair_name n z =
    either (is_one_of keywords (take n z)) (word Keyword n) _ (λ e. cc)
    (either (quotes_len (drop n z) == 0) (word Name n) _ (λ e. cc)
    (either (n == 1 && has_prefix z) (literal_piece BytesLit 1 z) (wrong P04) (fair_literal BytesLit 1 z (omega arith) (λ e. cc)) (omega arith, omega arith)))

fair_number : (n : ℕ) (z : Text) → IsFair (number_piece n z).what
fair_number n z = either (begins_point (drop n z) && is_decimal (take n z) || is_none (number_value (take n z))) (wrong P05) (word Number n) (omega arith, omega arith) (λ e. cc)

fair_mark_by : (n : ℕ) → IsFair (mark_by n).what
fair_mark_by zero = (omega arith, omega arith)
fair_mark_by (suc n) = λ e. cc

fair_mark : (z : Text) → IsFair (mark_piece z).what
fair_mark [] = (omega arith, omega arith)
fair_mark (b ∷ z) =
    either (b == 46 && begins_digit z) (wrong P05) _ (omega arith, omega arith)
    (either (b == 40 || b == 91) (record { what = Open; len = 1 }) _ tt
    (either (b == 41 || b == 93) (record { what = Close; len = 1 }) (mark_by (front_len marks (b ∷ z))) tt (fair_mark_by (front_len marks (b ∷ z)))))

fair_other : (z : Text) → IsFair (other_piece z).what
fair_other [] = (omega arith, omega arith)
fair_other (b ∷ z) =
    either (b == 35) (skip (comment_len (b ∷ z))) _ tt
    (either (b == 92) (join_piece (b ∷ z)) (mark_piece (b ∷ z))
    (either (line_end_len (drop 1 (b ∷ z)) == 0) (wrong P04) (skip (1 + line_end_len (drop 1 (b ∷ z)))) (omega arith, omega arith) tt) (fair_mark (b ∷ z)))

some_quotes : (n : ℕ) → (n == 0) ≡ false → 1 ≤ n
some_quotes n h = grind (arith, nat_tests)

fair_quoted : (z : Text) → IsFair (cond (quotes_len z == 0) (other_piece z) (literal_piece Str 0 z)).what
fair_quoted z = by (quotes_len z == 0) refl
  where
    by : (q : Bool) → (quotes_len z == 0) ≡ q → IsFair (cond q (other_piece z) (literal_piece Str 0 z)).what
    by true e = fair_other z
    by false e = fair_literal Str 0 z (omega (arith, some_quotes (quotes_len z) e)) (λ k. cc)

fair_line : (z : Text) → IsFair (line_piece z).what
fair_line [] = (omega arith, omega arith)
fair_line (b ∷ z) =
    let run = prefix_len is_name_byte (b ∷ z) in
    either (nat_lt 0 run) (cond (is_ascii_digit b) (number_piece run (b ∷ z)) (name_piece run (b ∷ z))) _
    (either (is_ascii_digit b) (number_piece run (b ∷ z)) (name_piece run (b ∷ z)) (fair_number run (b ∷ z)) (fair_name run (b ∷ z)))
    (fair_quoted (b ∷ z))

-- what is wrong in a longest piece breaks P04 or P05, and a literal's flaw stands behind its first byte
pub fair : (z : Text) → IsFair (piece_at z).what
fair z =
    either (nat_lt 0 (prefix_len is_blank z)) (record { what = Blanks; len = prefix_len is_blank z }) _ tt
    (either (nat_lt 0 (line_end_len z)) (record { what = LineEnd; len = line_end_len z }) (line_piece z) tt (fair_line z))

lower : (n m : ℕ) (ps : List Placed) → m ≤ n → Ascending n ps → Ascending m ps
lower n m [] h k = tt
lower n m (p ∷ ps) h k = (omega (arith, k.0), k.1, k.2)

-- the pieces of a text stand one behind the other
pub stand : (left : ℕ) (s : Spot) (z : Text) → Ascending s.at (pieces_from left s z)
stand left s [] = tt
stand (suc left) s (b ∷ z) = stand left s z
stand zero s (b ∷ z) =
    let text = take (piece_at (b ∷ z)).len (b ∷ z) in
    (omega arith, fair (b ∷ z), lower (s.at + length text) (s.at + prefix_len is_space text) _ (omega (arith, prefix_len-le-length is_space text)) (stand ((piece_at (b ∷ z)).len - 1) (behind_text s text) z))
