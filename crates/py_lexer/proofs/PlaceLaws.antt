-- Each token of a source stands at the place of its first byte.
use Rattle.std.proofs.Common.{◌≡◌, ℕ, zero, suc, ◌+◌, ◌-◌, ◌≤◌, Bool, true, false, cond, List, [], ◌∷◌, ◌++◌, length, take, drop, refl, sym, ◌∙◌, ap, subst, arith, Option, Some, None}
use Rattle.std.specs.Prelude.{Result, Ok, Err, ◌==◌, ◌&&◌, ◌||◌, nat_lt, replicate}
use Rattle.std.specs.Char.{is_ascii_digit}
use Rattle.std.specs.List.{prefix_len}
use Rattle.std.proofs.lemmas.List.{drop-drop}
use Rattle.std.proofs.lemmas.Bool.{ltb-true}
use Rattle.std.proofs.lemmas.Bool.Decides.{nat_tests}
use Rattle.std.proofs.Math.Seq.{take-add, take-length}
use Rattle.puya_base.specs.declared.source.Rule.TheVariants.{P04, P05}
use Rattle.py_lexer.specs.declared.token.TokenKind.{TokenKind}
use Rattle.py_lexer.specs.declared.token.TokenKind.TheVariants.{Name, Keyword, Number, Str, BytesLit, Newline, Indent, Dedent, End}
use Rattle.py_lexer.specs.declared.token.Token.{Token}
use Rattle.py_lexer.specs.declared.pieces.What.TheVariants.{Blanks, LineEnd, Open, Close, Flawed}
use Rattle.py_lexer.specs.declared.pieces.Piece.{Piece}
use Rattle.py_lexer.specs.declared.layout.Change.{Change}
use Rattle.py_lexer.specs.declared.layout.Change.TheVariants.{Same, Opens, Closes, Astray}
use Rattle.py_lexer.specs.declared.layout.Spot.{Spot}
use Rattle.puya_base.specs.declared.source.Place.{Place}
use Rattle.py_lexer.specs.Bytes.{Text, line_end_len, place_after, first_bad, order_mark_len}
use Rattle.py_lexer.specs.Words.{is_name_byte, is_blank, marks, keywords, front_len, is_one_of}
use Rattle.py_lexer.specs.Numbers.{number_value, is_decimal}
use Rattle.py_lexer.specs.Literals.{quotes_len, closing_len, flaw_at, has_prefix}
use Rattle.py_lexer.specs.Pieces.{word, wrong, skip, comment_len, join_piece, is_bytes, literal_by, literal_piece, name_piece, begins_point, is_none, number_piece, mark_by, begins_digit, mark_piece, other_piece, line_piece, piece_at}
use Rattle.py_lexer.specs.Layout.{change_at, token_at}
use Rattle.py_lexer.specs.Scan.{Placed, behind_text, first_spot, pieces_from, place_of}
use Rattle.py_lexer.specs.Lines.{Fault, Before, nothing, extend, behind, Line, is_token, kind_of, ends, put, lines_from, broken_in, shift, tokens_at, tokens_in, newline, open_columns, with_front, unless, laid_from, laid}
use Rattle.py_lexer.specs.Tokens.{text_rule, with_text, read_from, read}
use Rattle.py_lexer.specs.Spans.{InPlace}
use Rattle.py_lexer.proofs.PieceLaws.{comment_on}
use Rattle.py_lexer.proofs.ScanLaws.{place_through, taken_len}
use Rattle.py_lexer.proofs.Lengths.{within}

-- ---- a piece has bytes

least : (q : Bool) (a b : Piece) → (q ≡ true → 1 ≤ a.len) → (q ≡ false → 1 ≤ b.len) → 1 ≤ (cond q a b).len
least true a b h k = h refl
least false a b h k = k refl

some : (n : ℕ) → (n == 0) ≡ false → 1 ≤ n
some n h = grind (arith, nat_tests)

zero_is : (n : ℕ) → nat_lt 0 n ≡ false → n ≡ 0
zero_is n h = grind (arith, nat_tests)

literal_by_len : (kind : TokenKind) (opening : ℕ) (quotes rest : Text) (o : Option ℕ) → 1 ≤ opening → 1 ≤ (literal_by kind opening quotes rest o).len
literal_by_len kind opening quotes rest None h = omega arith
literal_by_len kind opening quotes rest (Some closed) h =
    let z = take (closed - length quotes) rest in
    least (nat_lt (flaw_at (is_bytes kind) z) (length z)) (record { what = Flawed kind (opening + flaw_at (is_bytes kind) z); len = opening + closed }) (word kind (opening + closed)) (λ e. omega arith) (λ e. omega arith)

literal_len : (kind : TokenKind) (prefix : ℕ) (z : Text) → 1 ≤ prefix + quotes_len (drop prefix z) → 1 ≤ (literal_piece kind prefix z).len
literal_len kind prefix z h =
    let opening = prefix + quotes_len (drop prefix z) in
    let quotes = take (quotes_len (drop prefix z)) (drop prefix z) in
    literal_by_len kind opening quotes (drop opening z) (closing_len quotes (drop opening z)) h

name_len : (n : ℕ) (z : Text) → 1 ≤ n → 1 ≤ (name_piece n z).len
name_len n z h =
    least (is_one_of keywords (take n z)) (word Keyword n) _ (λ e. h)
    (λ e. least (quotes_len (drop n z) == 0) (word Name n) _ (λ k. h) (λ k. least (n == 1 && has_prefix z) (literal_piece BytesLit 1 z) (wrong P04) (λ l. literal_len BytesLit 1 z (omega arith)) (λ l. omega arith)))

number_len : (n : ℕ) (z : Text) → 1 ≤ n → 1 ≤ (number_piece n z).len
number_len n z h = least (begins_point (drop n z) && is_decimal (take n z) || is_none (number_value (take n z))) (wrong P05) (word Number n) (λ e. omega arith) (λ e. h)

mark_by_len : (n : ℕ) → 1 ≤ (mark_by n).len
mark_by_len zero = omega arith
mark_by_len (suc n) = omega arith

mark_len : (b : ℕ) (z : Text) → 1 ≤ (mark_piece (b ∷ z)).len
mark_len b z =
    least (b == 46 && begins_digit z) (wrong P05) _ (λ e. omega arith)
    (λ e. least (b == 40 || b == 91) (record { what = Open; len = 1 }) _ (λ k. omega arith)
    (λ k. least (b == 41 || b == 93) (record { what = Close; len = 1 }) (mark_by (front_len marks (b ∷ z))) (λ l. omega arith) (λ l. mark_by_len (front_len marks (b ∷ z)))))

other_len : (b : ℕ) (z : Text) → line_end_len (b ∷ z) ≡ 0 → 1 ≤ (other_piece (b ∷ z)).len
other_len b z h =
    least (b == 35) (skip (comment_len (b ∷ z))) _ (λ e. omega (arith, comment_on (b ∷ z) (omega arith) h))
    (λ e. least (b == 92) (join_piece (b ∷ z)) (mark_piece (b ∷ z))
    (λ k. least (line_end_len (drop 1 (b ∷ z)) == 0) (wrong P04) (skip (1 + line_end_len (drop 1 (b ∷ z)))) (λ l. omega arith) (λ l. omega arith)) (λ k. mark_len b z))

line_len : (z : Text) → line_end_len z ≡ 0 → 1 ≤ (line_piece z).len
line_len [] h = omega arith
line_len (b ∷ z) h =
    let run = prefix_len is_name_byte (b ∷ z) in
    least (nat_lt 0 run) (cond (is_ascii_digit b) (number_piece run (b ∷ z)) (name_piece run (b ∷ z))) _
    (λ e. least (is_ascii_digit b) (number_piece run (b ∷ z)) (name_piece run (b ∷ z)) (λ k. number_len run (b ∷ z) (ltb-true 0 run e)) (λ k. name_len run (b ∷ z) (ltb-true 0 run e)))
    (λ e. least (quotes_len (b ∷ z) == 0) (other_piece (b ∷ z)) (literal_piece Str 0 (b ∷ z)) (λ k. other_len b z h) (λ k. literal_len Str 0 (b ∷ z) (omega (arith, some (quotes_len (b ∷ z)) k))))

-- a longest piece has bytes
some_len : (z : Text) → 1 ≤ (piece_at z).len
some_len z =
    least (nat_lt 0 (prefix_len is_blank z)) (record { what = Blanks; len = prefix_len is_blank z }) _ (λ e. ltb-true 0 (prefix_len is_blank z) e)
    (λ e. least (nat_lt 0 (line_end_len z)) (record { what = LineEnd; len = line_end_len z }) (line_piece z) (λ k. ltb-true 0 (line_end_len z) k) (λ k. line_len z (zero_is (line_end_len z) k)))

-- ---- pieces and lines

-- a spot has the place of its byte
abbrev Sits : ℕ → Text → Spot → Type 0
Sits begin source s = s.place ≡ place_of begin source s.at

abbrev AllSit : ℕ → Text → List Placed → Type 0
AllSit begin source [] = Unit {0}
AllSit begin source (p ∷ ps) = Sits begin source p.spot × AllSit begin source ps

abbrev LinesSit : ℕ → Text → List Line → Type 0
LinesSit begin source [] = Unit {0}
LinesSit begin source (l ∷ ls) = AllSit begin source l.pieces × Sits begin source l.end × LinesSit begin source ls

-- the spot behind the first bytes of what is left of a source
sits_on : (begin k n : ℕ) (source z : Text) (s : Spot) → drop k (drop begin source) ≡ z → n ≤ length z → s.at ≡ begin + k → Sits begin source s → Sits begin source (behind_text s (take n z))
sits_on begin k n source z s whole fits at sits =
    let first : Place = record { line = 1; col = 1 } in
    let body = drop begin source in
    let text = take n z in
    let here : s.at - begin ≡ k = omega arith in
    let there : k + n ≡ s.at + length text - begin = omega (arith, taken_len n z fits) in
    ap (λ p. place_after p text) sits
    ∙ sym (place_through first (take (s.at - begin) body) text)
    ∙ ap (λ q. place_after first (take q body ++ text)) here
    ∙ ap (λ y. place_after first (take k body ++ take n y)) (sym whole)
    ∙ ap (place_after first) (sym (take-add k n body))
    ∙ ap (λ q. place_after first (take q body)) there

pieces_sit : (begin k left : ℕ) (source z : Text) (s : Spot) → drop k (drop begin source) ≡ z → left ≤ length z → s.at ≡ begin + (k + left) → Sits begin source s → AllSit begin source (pieces_from left s z)
pieces_sit begin k left source [] s whole fits at sits = tt
pieces_sit begin k (suc left) source (b ∷ z) s whole fits at sits =
    pieces_sit begin (k + 1) left source z s (sym (drop-drop 1 k (drop begin source)) ∙ ap (drop 1) whole) (omega arith) (omega arith) sits
pieces_sit begin k zero source (b ∷ z) s whole fits at sits =
    let n = (piece_at (b ∷ z)).len in
    let short : n ≤ length (b ∷ z) = within (b ∷ z) (omega arith) in
    let text = take n (b ∷ z) in
    let has : 1 ≤ n = some_len (b ∷ z) in
    let next = sits_on begin k n source (b ∷ z) s whole short (omega arith) sits in
    (sits, pieces_sit begin (k + 1) (n - 1) source z (behind_text s text) (sym (drop-drop 1 k (drop begin source)) ∙ ap (drop 1) whole) (omega (arith, short)) (omega (arith, has, taken_len n (b ∷ z) short)) next)

put_sits : (begin : ℕ) (source : Text) (p : Placed) (ls : List Line) → Sits begin source p.spot → LinesSit begin source ls → LinesSit begin source (put p ls)
put_sits begin source p [] h k = tt
put_sits begin source p (l ∷ ls) h k = ((h, k.0), k.1, k.2)

lines_sit : (begin : ℕ) (source : Text) (b : Before) (ps : List Placed) (end : Spot) → AllSit begin source ps → Sits begin source end → LinesSit begin source (lines_from b ps end)
lines_sit begin source b [] end h k = (tt, k, tt)
lines_sit begin source b (p ∷ ps) end h k = by (ends b p) (lines_sit begin source nothing ps end h.1 k) (lines_sit begin source (extend b p) ps end h.1 k)
  where
    by : (q : Bool) → LinesSit begin source (lines_from nothing ps end) → LinesSit begin source (lines_from (extend b p) ps end)
        → LinesSit begin source (cond q (record { pieces = []; end = p.spot; ending = p.piece.len } ∷ lines_from nothing ps end) (put p (lines_from (extend b p) ps end)))
    by true new same = (tt, h.0, new)
    by false new same = put_sits begin source p (lines_from (extend b p) ps end) h.0 same

-- ---- tokens

both : (begin : ℕ) (source : Text) (ts us : List Token) → InPlace begin source ts → InPlace begin source us → InPlace begin source (ts ++ us)
both begin source [] us h k = k
both begin source (t ∷ ts) us h k = (h.0, both begin source ts us h.1 k)

either : (begin : ℕ) (source : Text) (q : Bool) (ts us : List Token) → InPlace begin source ts → InPlace begin source us → InPlace begin source (cond q ts us)
either begin source true ts us h k = h
either begin source false ts us h k = k

one : (begin : ℕ) (source : Text) (kind : TokenKind) (s : Spot) (n : ℕ) → Sits begin source s → InPlace begin source (token_at kind s n ∷ [])
one begin source kind s n h = (h, tt)

dedents : (begin : ℕ) (source : Text) (n : ℕ) (s : Spot) → Sits begin source s → InPlace begin source (replicate n (token_at Dedent s 0))
dedents begin source zero s h = tt
dedents begin source (suc n) s h = (h, dedents begin source n s h)

shifts : (begin : ℕ) (source : Text) (v : Change) (s : Spot) → Sits begin source s → InPlace begin source (shift v s)
shifts begin source Same s h = tt
shifts begin source Opens s h = one begin source Indent s 0 h
shifts begin source (Closes n) s h = dedents begin source n s h
shifts begin source Astray s h = tt

line_places : (begin : ℕ) (source : Text) (c : List ℕ) (b : Before) (ps : List Placed) → AllSit begin source ps → InPlace begin source (tokens_in c b ps)
line_places begin source c b [] h = tt
line_places begin source c b (p ∷ ps) h =
    let front = cond (b.words == 0) (shift (change_at c b.column) p.spot) [] in
    let token = token_at (kind_of p.piece.what) p.spot p.piece.len ∷ [] in
    both begin source (tokens_at c b p) (tokens_in c (extend b p) ps)
    (either begin source (is_token p.piece.what) (front ++ token) []
    (both begin source front token (either begin source (b.words == 0) (shift (change_at c b.column) p.spot) [] (shifts begin source (change_at c b.column) p.spot h.0) tt) (one begin source (kind_of p.piece.what) p.spot p.piece.len h.0)) tt)
    (line_places begin source c (extend b p) ps h.1)

-- ---- the whole

abbrev Placing : ℕ → Text → Result (List Token) (List Fault) → Type 0
Placing begin source (Ok ts) = InPlace begin source ts
Placing begin source (Err fs) = Unit {0}

front_places : (begin : ℕ) (source : Text) (ts : List Token) (r : Result (List Token) (List Fault)) → InPlace begin source ts → Placing begin source r → Placing begin source (with_front ts r)
front_places begin source ts (Ok us) h k = both begin source ts us h k
front_places begin source ts (Err fs) h k = tt

unless_places : (begin : ℕ) (source : Text) (fs : List Fault) (r : Result (List Token) (List Fault)) → Placing begin source r → Placing begin source (unless fs r)
unless_places begin source [] r h = h
unless_places begin source (f ∷ fs) r h = tt

laid_places : (begin : ℕ) (source : Text) (c : List ℕ) (f : Bool) (ls : List Line) (end : Spot) → LinesSit begin source ls → Sits begin source end → Placing begin source (laid_from c f nothing ls end)
laid_places begin source c f [] end h k = both begin source (replicate (length c - 1) (token_at Dedent end 0)) (token_at End end 0 ∷ []) (dedents begin source (length c - 1) end k) (one begin source End end 0 k)
laid_places begin source c f (l ∷ ls) end h k =
    let w = behind nothing l.pieces in
    unless_places begin source (broken_in c f nothing l.pieces) _
    (front_places begin source (tokens_in c nothing l.pieces ++ newline w l.end l.ending) _
    (both begin source (tokens_in c nothing l.pieces) (newline w l.end l.ending) (line_places begin source c nothing l.pieces h.0) (either begin source (w.words == 0) [] (token_at Newline l.end l.ending ∷ []) tt (one begin source Newline l.end l.ending h.1)))
    (laid_places begin source (open_columns c w) (f && w.words == 0) ls end h.2 k))

text_places : (begin : ℕ) (source : Text) (fs : List Fault) (r : Result (List Token) (List Fault)) → Placing begin source r → Placing begin source (with_text fs r)
text_places begin source [] r h = h
text_places begin source (f ∷ fs) (Ok ts) h = tt
text_places begin source (f ∷ fs) (Err gs) h = tt

first_sits : (begin : ℕ) (source : Text) → Sits begin source (first_spot begin)
first_sits begin source = let none : begin - begin ≡ 0 = omega arith in sym (ap (λ q. place_after (record { line = 1; col = 1 }) (take q (drop begin source))) none)

end_sits : (begin : ℕ) (source : Text) → Sits begin source (behind_text (first_spot begin) (drop begin source))
end_sits begin source =
    let body = drop begin source in
    let first : Place = record { line = 1; col = 1 } in
    let all : begin + length body - begin ≡ length body = omega arith in
    sym (ap (λ q. place_after first (take q body)) all ∙ ap (place_after first) (take-length body))

read_places : (begin : ℕ) (source : Text) → Placing begin source (read_from begin source)
unfolding read_from
read_places begin source =
    let body = drop begin source in
    let s = first_spot begin in
    let end = behind_text s body in
    let pieces = pieces_from 0 s body in
    let sit = pieces_sit begin 0 0 source body s refl (omega arith) (omega arith) (first_sits begin source) in
    text_places begin source (text_rule (begin + first_bad body) (length source)) (laid pieces end)
    (laid_places begin source (0 ∷ []) true (lines_from nothing pieces end) end (lines_sit begin source nothing pieces end sit (end_sits begin source)) (end_sits begin source))

-- the tokens of a source stand at their places
pub places : (source : Text) (ts : List Token) → read source ≡ Ok ts → InPlace (order_mark_len source) source ts
places source ts e = subst (Placing (order_mark_len source) source) e (read_places (order_mark_len source) source)
