-- A longest piece has no more bytes than the text.
use Rattle.std.proofs.Common.{◌≡◌, ℕ, zero, suc, ◌+◌, ◌-◌, ◌≤◌, Bool, true, false, cond, eqb, List, [], ◌∷◌, length, take, drop, refl, ap, arith, Option, Some, None, length-append, length-drop}
use Rattle.std.specs.Prelude.{◌==◌, ◌&&◌, ◌||◌, not, nat_lt}
use Rattle.std.specs.Char.{is_ascii_digit}
use Rattle.std.specs.List.{prefix_len, starts_with}
use Rattle.std.proofs.lemmas.List.Sums.{prefix_len-le-length}
use Rattle.std.proofs.lemmas.Bool.Decides.{Decides-eqb}
use Rattle.std.proofs.lemmas.Slice.Eq.{starts_is}
use Rattle.puya_base.specs.declared.source.Rule.TheVariants.{P04, P05}
use Rattle.py_lexer.specs.declared.token.TokenKind.{TokenKind}
use Rattle.py_lexer.specs.declared.token.TokenKind.TheVariants.{Name, Keyword, Number, Str, BytesLit}
use Rattle.py_lexer.specs.declared.pieces.What.TheVariants.{Blanks, LineEnd, Open, Close, Flawed}
use Rattle.py_lexer.specs.declared.pieces.Piece.{Piece}
use Rattle.py_lexer.specs.Bytes.{Text, line_end_len}
use Rattle.py_lexer.specs.Words.{is_name_byte, is_blank, marks, keywords, front_len, is_one_of}
use Rattle.py_lexer.specs.Numbers.{number_value, is_decimal}
use Rattle.py_lexer.specs.Literals.{is_quote, quotes_len, one_more, closing_from, closing_len, flaw_at, has_prefix}
use Rattle.py_lexer.specs.Pieces.{word, wrong, skip, comment_len, join_piece, is_bytes, closed_literal, literal_by, literal_piece, name_piece, begins_point, is_none, number_piece, mark_by, begins_digit, mark_piece, other_piece, line_piece, piece_at}

either : (q : Bool) (m : ℕ) (a b : Piece) → a.len ≤ m → b.len ≤ m → (cond q a b).len ≤ m
either true m a b h k = h
either false m a b h k = k

by_three : (q r : Bool) (n : ℕ) → cond q 1 (cond r 2 0) ≤ suc (suc n)
by_three true r n = omega arith
by_three false true n = omega arith
by_three false false n = omega arith

by_two : (q : Bool) (n : ℕ) → cond q 1 0 ≤ suc n
by_two true n = omega arith
by_two false n = omega arith

line_end_within : (z : Text) → line_end_len z ≤ length z
line_end_within [] = omega arith
line_end_within (b ∷ []) = by_two (b == 10) 0
line_end_within (b ∷ c ∷ z) = by_three (b == 10) (b == 13 && c == 10) (length z)

by_quotes : (q r : Bool) (n : ℕ) → cond q (cond r 3 1) 0 ≤ suc (suc (suc n))
by_quotes true true n = omega arith
by_quotes true false n = omega arith
by_quotes false r n = omega arith

quotes_within : (z : Text) → quotes_len z ≤ length z
quotes_within [] = omega arith
quotes_within (a ∷ []) = by_two (is_quote a) 0
quotes_within (a ∷ b ∷ []) = by_two (is_quote a) 1
quotes_within (a ∷ b ∷ c ∷ z) = by_quotes (is_quote a) (a == b && a == c) (length z)

starts_within : (z m : Text) → starts_with eqb z m ≡ true → length m ≤ length z
starts_within z m e =
    let whole = (starts_is Decides-eqb z m (starts_with eqb z m) refl).0 e in
    omega (arith, ap length whole, length-append m (drop (length m) z))

front_by : (q : Bool) (z m : Text) (n : ℕ) → starts_with eqb z m ≡ q → n ≤ length z → cond q (length m) n ≤ length z
front_by true z m n e h = starts_within z m e
front_by false z m n e h = h

pub front_within : (ms : List Text) (z : Text) → front_len ms z ≤ length z
front_within [] z = omega arith
front_within (m ∷ ms) z = front_by (starts_with eqb z m) z m (front_len ms z) refl (front_within ms z)

comment_by : (q : Bool) (n m : ℕ) → n ≤ m → cond q (suc n) 0 ≤ suc m
comment_by true n m h = omega arith
comment_by false n m h = omega arith

comment_within : (z : Text) → comment_len z ≤ length z
comment_within [] = omega arith
comment_within (b ∷ z) = comment_by (line_end_len (b ∷ z) == 0) (comment_len z) (length z) (comment_within z)

-- a length that is there is at most a number
abbrev Below : Option ℕ → ℕ → Type 0
Below None m = Unit {0}
Below (Some n) m = n ≤ m

below_more : (o : Option ℕ) (m : ℕ) → Below o m → Below (one_more o) (suc m)
below_more None m h = tt
below_more (Some n) m h = omega arith

closing_by : (q r s : Bool) (quotes z : Text) (o : Option ℕ) (m : ℕ) → (s ≡ true → length quotes ≤ suc m) → Below o m → Below (cond q None (cond (r && s) (Some (length quotes)) (one_more o))) (suc m)
closing_by true r s quotes z o m h k = tt
closing_by false true true quotes z o m h k = h refl
closing_by false true false quotes z o m h k = below_more o m k
closing_by false false s quotes z o m h k = below_more o m k

closing_within : (quotes : Text) (escaped : Bool) (z : Text) → Below (closing_from quotes escaped z) (length z)
closing_within quotes escaped [] = tt
closing_within quotes escaped (b ∷ z) =
    closing_by (b == 10 && length quotes == 1) (not escaped) (starts_with eqb (b ∷ z) quotes) quotes z (closing_from quotes (not escaped && b == 92) z) (length z)
    (λ e. starts_within (b ∷ z) quotes e) (closing_within quotes (not escaped && b == 92) z)

closed_within : (kind : TokenKind) (opening : ℕ) (z : Text) (n m : ℕ) → n ≤ m → (closed_literal kind opening z n).len ≤ m
closed_within kind opening z n m h = either (nat_lt (flaw_at (is_bytes kind) z) (length z)) m (record { what = Flawed kind (opening + flaw_at (is_bytes kind) z); len = n }) (word kind n) h h

literal_by_within : (kind : TokenKind) (opening : ℕ) (quotes rest : Text) (o : Option ℕ) (m : ℕ) → 1 ≤ m → opening + length rest ≤ m → Below o (length rest) → (literal_by kind opening quotes rest o).len ≤ m
literal_by_within kind opening quotes rest None m one h k = one
literal_by_within kind opening quotes rest (Some closed) m one h k = closed_within kind opening (take (closed - length quotes) rest) (opening + closed) m (omega arith)

literal_within : (kind : TokenKind) (prefix : ℕ) (z : Text) → 1 ≤ length z → prefix ≤ length z → (literal_piece kind prefix z).len ≤ length z
literal_within kind prefix z one h =
    let quotes = take (quotes_len (drop prefix z)) (drop prefix z) in
    let opening = prefix + quotes_len (drop prefix z) in
    let room : opening + length (drop opening z) ≤ length z = omega (arith, quotes_within (drop prefix z), length-drop prefix z, length-drop opening z) in
    literal_by_within kind opening quotes (drop opening z) (closing_len quotes (drop opening z)) (length z) one room (closing_within quotes false (drop opening z))

name_within : (n : ℕ) (z : Text) → 1 ≤ length z → n ≤ length z → (name_piece n z).len ≤ length z
name_within n z one h =
    either (is_one_of keywords (take n z)) (length z) (word Keyword n) _ h
    (either (quotes_len (drop n z) == 0) (length z) (word Name n) _ h
    (either (n == 1 && has_prefix z) (length z) (literal_piece BytesLit 1 z) (wrong P04) (literal_within BytesLit 1 z one one) one))

number_within : (n : ℕ) (z : Text) → 1 ≤ length z → n ≤ length z → (number_piece n z).len ≤ length z
number_within n z one h = either (begins_point (drop n z) && is_decimal (take n z) || is_none (number_value (take n z))) (length z) (wrong P05) (word Number n) one h

mark_by_within : (n m : ℕ) → 1 ≤ m → n ≤ m → (mark_by n).len ≤ m
mark_by_within zero m one h = one
mark_by_within (suc n) m one h = h

mark_within : (z : Text) → 1 ≤ length z → (mark_piece z).len ≤ length z
mark_within [] one = one
mark_within (b ∷ z) one =
    either (b == 46 && begins_digit z) (length (b ∷ z)) (wrong P05) _ one
    (either (b == 40 || b == 91) (length (b ∷ z)) (record { what = Open; len = 1 }) _ one
    (either (b == 41 || b == 93) (length (b ∷ z)) (record { what = Close; len = 1 }) (mark_by (front_len marks (b ∷ z))) one (mark_by_within (front_len marks (b ∷ z)) (length (b ∷ z)) one (front_within marks (b ∷ z)))))

join_within : (b : ℕ) (z : Text) → (join_piece (b ∷ z)).len ≤ suc (length z)
join_within b z = either (line_end_len (drop 1 (b ∷ z)) == 0) (suc (length z)) (wrong P04) (skip (1 + line_end_len (drop 1 (b ∷ z)))) (omega arith) (omega (arith, line_end_within z))

other_within : (z : Text) → 1 ≤ length z → (other_piece z).len ≤ length z
other_within [] one = one
other_within (b ∷ z) one =
    either (b == 35) (length (b ∷ z)) (skip (comment_len (b ∷ z))) _ (comment_within (b ∷ z)) (either (b == 92) (length (b ∷ z)) (join_piece (b ∷ z)) (mark_piece (b ∷ z)) (join_within b z) (mark_within (b ∷ z) one))

line_within : (z : Text) → 1 ≤ length z → (line_piece z).len ≤ length z
line_within [] one = one
line_within (b ∷ z) one =
    let run = prefix_len is_name_byte (b ∷ z) in
    let short : run ≤ length (b ∷ z) = prefix_len-le-length is_name_byte (b ∷ z) in
    either (nat_lt 0 run) (length (b ∷ z)) (cond (is_ascii_digit b) (number_piece run (b ∷ z)) (name_piece run (b ∷ z))) _
    (either (is_ascii_digit b) (length (b ∷ z)) (number_piece run (b ∷ z)) (name_piece run (b ∷ z)) (number_within run (b ∷ z) one short) (name_within run (b ∷ z) one short))
    (either (quotes_len (b ∷ z) == 0) (length (b ∷ z)) (other_piece (b ∷ z)) (literal_piece Str 0 (b ∷ z)) (other_within (b ∷ z) one) (literal_within Str 0 (b ∷ z) one (omega arith)))

-- a longest piece has no more bytes than its text
pub within : (z : Text) → 1 ≤ length z → (piece_at z).len ≤ length z
within z one =
    either (nat_lt 0 (prefix_len is_blank z)) (length z) (record { what = Blanks; len = prefix_len is_blank z }) _ (prefix_len-le-length is_blank z)
    (either (nat_lt 0 (line_end_len z)) (length z) (record { what = LineEnd; len = line_end_len z }) (line_piece z) (line_end_within z) (line_within z one))
