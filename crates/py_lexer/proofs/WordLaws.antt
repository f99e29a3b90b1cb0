-- A word that stands at the front of a text is the longest there.
use Rattle.std.proofs.Common.{◌≡◌, ℕ, zero, suc, ◌+◌, ◌-◌, ◌≤◌, ◌<◌, ◌⊎◌, inl, inr, Bool, true, false, cond, eqb, List, [], ◌∷◌, ◌++◌, length, take, drop, refl, sym, ◌∙◌, ap, subst, arith, Option, Some, None, length-take}
use Rattle.std.specs.Prelude.{◌==◌, ◌&&◌, ◌||◌, not, nat_lt, nat_le}
use Rattle.std.specs.Char.{is_ascii_digit}
use Rattle.std.specs.List.{prefix_len, list_all, starts_with}
use Rattle.std.specs.Str.{bytes_eq}
use Rattle.std.proofs.lemmas.List.{take-append-drop}
use Rattle.std.proofs.lemmas.List.Sums.{prefix_len-le-length}
use Rattle.std.proofs.lemmas.Bool.{leb-true, ltb-true, eqb-true}
use Rattle.std.proofs.lemmas.Bool.Decides.{Decides-eqb, nat_tests}
use Rattle.std.proofs.lemmas.Slice.Eq.{starts_is, bytes_eq-Decides}
use Rattle.std.proofs.Math.Seq.{take-append_seam}
use Rattle.std.proofs.Math.Numerals.{one-add}
use Rattle.puya_base.specs.declared.source.Rule.{Rule}
use Rattle.puya_base.specs.declared.source.Rule.TheVariants.{P04, P05}
use Rattle.py_lexer.specs.declared.token.TokenKind.{TokenKind}
use Rattle.py_lexer.specs.declared.token.TokenKind.TheVariants.{Name, Keyword, Number, Str, BytesLit, Mark, Newline, Indent, Dedent, End}
use Rattle.py_lexer.specs.declared.pieces.What.TheVariants.{Blanks, LineEnd, Open, Close, Flawed}
use Rattle.py_lexer.specs.declared.pieces.Piece.{Piece}
use Rattle.py_lexer.specs.Bytes.{Text, line_end_len}
use Rattle.py_lexer.specs.Words.{is_name_byte, is_blank, marks, keywords, front_len, is_one_of}
use Rattle.py_lexer.specs.Numbers.{number_value, is_decimal}
use Rattle.py_lexer.specs.Literals.{quotes_len, closing_len, flaw_at, has_prefix}
use Rattle.py_lexer.specs.Pieces.{word, wrong, skip, comment_len, join_piece, is_bytes, closed_literal, literal_by, literal_piece, name_piece, begins_point, is_none, number_piece, mark_by, begins_digit, mark_piece, other_piece, line_piece}
use Rattle.py_lexer.specs.Lines.{is_token, kind_of}
use Rattle.py_lexer.specs.Longest.{IsRun, IsWord, IsLongest, is_word, WordsAreLongest}
use Rattle.py_lexer.proofs.Lengths.{front_within}

fst_true : (a b : Bool) → (a && b) ≡ true → a ≡ true
fst_true true b e = refl
fst_true false b e = e

snd_true : (a b : Bool) → (a && b) ≡ true → b ≡ true
snd_true true b e = e
snd_true false b e = absurd cc

-- ---- runs

run_all : (p : ℕ → Bool) (z : Text) → list_all p (take (prefix_len p z) z) ≡ true
run_all p [] = refl
run_all p (b ∷ z) = by (run_all p z) (p b) refl
  where
    by : list_all p (take (prefix_len p z) z) ≡ true → (q : Bool) → p b ≡ q → list_all p (take (cond q (1 + prefix_len p z) 0) (b ∷ z)) ≡ true
    by ih true is = ap (λ n. list_all p (take n (b ∷ z))) (one-add (prefix_len p z)) ∙ ap (λ q. q && list_all p (take (prefix_len p z) z)) is ∙ ih
    by ih false is = refl

-- a front all of whose bytes pass is no longer than the run
all_within : (p : ℕ → Bool) (z : Text) (m : ℕ) → m ≤ length z → list_all p (take m z) ≡ true → m ≤ prefix_len p z
all_within p [] m h e = h
all_within p (b ∷ z) zero h e = omega arith
all_within p (b ∷ z) (suc m) h e = by (p b) (all_within p z m (omega arith)) e
  where
    by : (q : Bool) → (list_all p (take m z) ≡ true → m ≤ prefix_len p z) → (q && list_all p (take m z)) ≡ true → suc m ≤ cond q (1 + prefix_len p z) 0
    by true ih k = omega (arith, ih k)
    by false ih k = absurd cc

taken : (n : ℕ) (z : Text) → n ≤ length z → length (take n z) ≡ n
taken n z h = omega (arith, length-take n z)

first_kept : (n b : ℕ) (z : Text) → 1 ≤ n → begins_digit (take n (b ∷ z)) ≡ is_ascii_digit b
first_kept zero b z h = absurd (omega arith)
first_kept (suc n) b z h = refl

-- ---- tables

one_of : (f : Text → Bool) (ms : List Text) (t : Text) → list_all f ms ≡ true → is_one_of ms t ≡ true → f t ≡ true
one_of f [] t all i = absurd cc
one_of f (m ∷ ms) t all i = by (one_of f ms t (snd_true (f m) (list_all f ms) all)) (bytes_eq m t) refl i
  where
    by : (is_one_of ms t ≡ true → f t ≡ true) → (q : Bool) → bytes_eq m t ≡ q → cond q true (is_one_of ms t) ≡ true → f t ≡ true
    by later true is h = subst (λ q. f q ≡ true) ((bytes_eq-Decides m t).0 is) (fst_true (f m) (list_all f ms) all)
    by later false is h = later h

-- no longer one comes after a shorter
abbrev none_longer : ℕ → List Text → Bool
none_longer n ms = list_all (λ m. nat_le (length m) n) ms

abbrev in_order : List Text → Bool
in_order [] = true
in_order (m ∷ ms) = none_longer (length m) ms && in_order ms

abbrev begins_run : Text → Bool
begins_run [] = false
begins_run (b ∷ z) = is_name_byte b

marks_in_order : in_order marks ≡ true
unfolding marks
marks_in_order = refl

no_mark_is_empty : list_all (λ m. nat_le 1 (length m)) marks ≡ true
unfolding marks
no_mark_is_empty = refl

no_mark_is_run : list_all (λ m. not (begins_run m)) marks ≡ true
unfolding marks
no_mark_is_run = refl

keywords_are_runs : list_all (λ m. list_all is_name_byte m) keywords ≡ true
unfolding keywords
keywords_are_runs = refl

starts : (z m : Text) → starts_with eqb z m ≡ true → z ≡ m ++ drop (length m) z
starts z m = (starts_is Decides-eqb z m (starts_with eqb z m) refl).0

starts_yes : (z m rest : Text) → z ≡ m ++ rest → starts_with eqb z m ≡ true
starts_yes z m = (starts_is Decides-eqb z m (starts_with eqb z m) refl).1

-- a text of a table at the front is at most as long as the first of the table that stands there
front_longest : (ms : List Text) → in_order ms ≡ true → (z : Text) (n : ℕ) → n ≤ length z → is_one_of ms (take n z) ≡ true → n ≤ front_len ms z
front_longest [] o z n h i = absurd cc
front_longest (m ∷ ms) o z n h i = by (front_longest ms (snd_true (none_longer (length m) ms) (in_order ms) o) z n h) (starts_with eqb z m) refl (bytes_eq m (take n z)) refl i
  where
    by : (is_one_of ms (take n z) ≡ true → n ≤ front_len ms z) → (q : Bool) → starts_with eqb z m ≡ q → (r : Bool) → bytes_eq m (take n z) ≡ r → cond r true (is_one_of ms (take n z)) ≡ true → n ≤ cond q (length m) (front_len ms z)
    by ih true is true same k = omega (arith, taken n z h, ap length ((bytes_eq-Decides m (take n z)).0 same))
    by ih true is false same k = omega (arith, taken n z h, leb-true (length (take n z)) (length m) (one_of (λ t. nat_le (length t) (length m)) ms (take n z) (fst_true (none_longer (length m) ms) (in_order ms) o) k))
    by ih false is true same k =
        let whole : z ≡ m ++ drop n z = sym (take-append-drop n z) ∙ ap (λ t. t ++ drop n z) (sym ((bytes_eq-Decides m (take n z)).0 same)) in
        let yes : starts_with eqb z m ≡ true = starts_yes z m (drop n z) whole in
        absurd cc
    by ih false is false same k = ih k

-- what stands at the front is of the table
front_listed : (ms : List Text) (z : Text) → 1 ≤ front_len ms z → is_one_of ms (take (front_len ms z) z) ≡ true
front_listed [] z h = absurd (omega arith)
front_listed (m ∷ ms) z h = by (front_listed ms z) (starts_with eqb z m) refl h
  where
    or_later : (q r : Bool) → r ≡ true → cond q true r ≡ true
    or_later true r e = refl
    or_later false r e = e

    by : (1 ≤ front_len ms z → is_one_of ms (take (front_len ms z) z) ≡ true) → (q : Bool) → starts_with eqb z m ≡ q → 1 ≤ cond q (length m) (front_len ms z) → is_one_of (m ∷ ms) (take (cond q (length m) (front_len ms z)) z) ≡ true
    by ih true is k =
        let same : m ≡ take (length m) z = sym (ap (take (length m)) (starts z m is) ∙ take-append_seam m (drop (length m) z)) in
        ap (λ q. cond q true (is_one_of ms (take (length m) z))) ((bytes_eq-Decides m (take (length m) z)).1 same)
    by ih false is k = or_later (bytes_eq m (take (front_len ms z) z)) (is_one_of ms (take (front_len ms z) z)) (ih k)

-- ---- longer fronts

-- a front that is a mark, where the text begins with a run
run_no_mark : (z : Text) (m : ℕ) → begins_run z ≡ true → is_one_of marks (take m z) ≡ true → ⊥
run_no_mark [] m b i = cc
run_no_mark (x ∷ z) zero b i = let h : nat_le 1 0 ≡ true = one_of (λ t. nat_le 1 (length t)) marks [] no_mark_is_empty i in cc
run_no_mark (x ∷ z) (suc m) b i =
    let none : not (is_name_byte x) ≡ true = one_of (λ t. not (begins_run t)) marks (x ∷ take m z) no_mark_is_run i in
    let bad : not true ≡ true = ap not (sym b) ∙ none in
    cc

-- no front longer than the run and than the mark at the front is a word
none_longer_is : (z : Text) (n : ℕ) → prefix_len is_name_byte z ≤ n → ((m : ℕ) → n < m → m ≤ length z → is_one_of marks (take m z) ≡ true → ⊥) → (other : TokenKind) (m : ℕ) → n < m → m ≤ length z → IsWord other (take m z) → ⊥
none_longer_is z n r none Name m h k w = absurd (omega (arith, all_within is_name_byte z m k w.0.1))
none_longer_is z n r none Keyword m h k w = absurd (omega (arith, all_within is_name_byte z m k (one_of (λ t. list_all is_name_byte t) keywords (take m z) keywords_are_runs w)))
none_longer_is z n r none Number m h k w = absurd (omega (arith, all_within is_name_byte z m k w.0.1))
none_longer_is z n r none Mark m h k w = none m h k w
none_longer_is z n r none Str m h k w = w
none_longer_is z n r none BytesLit m h k w = w
none_longer_is z n r none Newline m h k w = w
none_longer_is z n r none Indent m h k w = w
none_longer_is z n r none Dedent m h k w = w
none_longer_is z n r none End m h k w = w

-- ---- pieces

-- a piece that is a word is the longest at the front of the text
abbrev Good : Text → Piece → Type 0
Good z p = is_token p.what ≡ true → is_word (kind_of p.what) ≡ true → IsLongest (kind_of p.what) p.len z

either : (z : Text) (q : Bool) (a b : Piece) → (q ≡ true → Good z a) → (q ≡ false → Good z b) → Good z (cond q a b)
either z true a b h k = h refl
either z false a b h k = k refl

good_closed : (y : Text) (kind : TokenKind) (opening : ℕ) (z : Text) (n : ℕ) → is_word kind ≡ false → Good y (closed_literal kind opening z n)
good_closed y kind opening z n other =
    either y (nat_lt (flaw_at (is_bytes kind) z) (length z)) (record { what = Flawed kind (opening + flaw_at (is_bytes kind) z); len = n }) (word kind n)
    (λ e t w. absurd (differ w)) (λ e t w. absurd (differ w))
  where
    differ : is_word kind ≡ true → ⊥
    differ w = cc

good_by : (y : Text) (kind : TokenKind) (opening : ℕ) (quotes rest : Text) (o : Option ℕ) → is_word kind ≡ false → Good y (literal_by kind opening quotes rest o)
good_by y kind opening quotes rest None other = λ t w. absurd cc
good_by y kind opening quotes rest (Some closed) other = good_closed y kind opening (take (closed - length quotes) rest) (opening + closed) other

good_literal : (y : Text) (kind : TokenKind) (prefix : ℕ) (z : Text) → is_word kind ≡ false → Good y (literal_piece kind prefix z)
good_literal y kind prefix z other =
    let quotes = take (quotes_len (drop prefix z)) (drop prefix z) in
    let opening = prefix + quotes_len (drop prefix z) in
    good_by y kind opening quotes (drop opening z) (closing_len quotes (drop opening z)) other

wrong_good : (y : Text) (rule : Rule) → Good y (wrong rule)
wrong_good y rule t w = absurd cc

-- the run at the front of a text
module _ (b : ℕ) (z : Text) where
  run_begins : 1 ≤ prefix_len is_name_byte (b ∷ z) → is_name_byte b ≡ true
  run_begins h = by (is_name_byte b) h
    where
      by : (q : Bool) → 1 ≤ cond q (1 + prefix_len is_name_byte z) 0 → q ≡ true
      by true k = refl
      by false k = absurd (omega arith)

  run_ends : 1 ≤ prefix_len is_name_byte (b ∷ z) → (other : TokenKind) (m : ℕ) → prefix_len is_name_byte (b ∷ z) < m → m ≤ length (b ∷ z) → IsWord other (take m (b ∷ z)) → ⊥
  run_ends h = none_longer_is (b ∷ z) (prefix_len is_name_byte (b ∷ z)) (omega arith) (λ m k l i. run_no_mark (b ∷ z) m (run_begins h) i)

  run_is : 1 ≤ prefix_len is_name_byte (b ∷ z) → IsRun (take (prefix_len is_name_byte (b ∷ z)) (b ∷ z))
  run_is h = (omega (arith, taken (prefix_len is_name_byte (b ∷ z)) (b ∷ z) (prefix_len-le-length is_name_byte (b ∷ z))), run_all is_name_byte (b ∷ z))

  good_name : 1 ≤ prefix_len is_name_byte (b ∷ z) → is_ascii_digit b ≡ false → Good (b ∷ z) (name_piece (prefix_len is_name_byte (b ∷ z)) (b ∷ z))
  good_name h d =
      let n = prefix_len is_name_byte (b ∷ z) in
      either (b ∷ z) (is_one_of keywords (take n (b ∷ z))) (word Keyword n) _
      (λ e t w. record { within = prefix_len-le-length is_name_byte (b ∷ z); word = e; longest = run_ends h; integer = λ k. absurd cc })
      (λ e. either (b ∷ z) (quotes_len (drop n (b ∷ z)) == 0) (word Name n) _
      (λ k t w. record { within = prefix_len-le-length is_name_byte (b ∷ z); word = (run_is h, first_kept n b z h ∙ d, e); longest = run_ends h; integer = λ k. absurd cc })
      (λ k. either (b ∷ z) (n == 1 && has_prefix (b ∷ z)) (literal_piece BytesLit 1 (b ∷ z)) (wrong P04) (λ l. good_literal (b ∷ z) BytesLit 1 (b ∷ z) refl) (λ l. wrong_good (b ∷ z) P04)))

  neither : (p q : Bool) → (p || q) ≡ false → (p ≡ false) × (q ≡ false)
  neither true q e = absurd cc
  neither false q e = (refl, e)

  good_number : 1 ≤ prefix_len is_name_byte (b ∷ z) → is_ascii_digit b ≡ true → Good (b ∷ z) (number_piece (prefix_len is_name_byte (b ∷ z)) (b ∷ z))
  good_number h d =
      let n = prefix_len is_name_byte (b ∷ z) in
      let float = begins_point (drop n (b ∷ z)) && is_decimal (take n (b ∷ z)) in
      let bare = is_none (number_value (take n (b ∷ z))) in
      either (b ∷ z) (float || bare) (wrong P05) (word Number n)
      (λ e. wrong_good (b ∷ z) P05)
      (λ e t w. record { within = prefix_len-le-length is_name_byte (b ∷ z); word = (run_is h, first_kept n b z h ∙ d); longest = run_ends h; integer = λ k. ((neither float bare e).1, (neither float bare e).0) })

mark_longest : (z : Text) (n : ℕ) → front_len marks z ≡ n → prefix_len is_name_byte z ≤ 0 → 1 ≤ n → IsLongest Mark n z
mark_longest z n e r h = record {
  within = omega (arith, e, front_within marks z);
  word = subst (λ q. is_one_of marks (take q z) ≡ true) e (front_listed marks z (omega (arith, e)));
  longest = none_longer_is z n (omega arith) (λ m k l i. absurd (omega (arith, e, front_longest marks marks_in_order z m l i)));
  integer = λ k. absurd cc;
}

good_mark_by : (z : Text) (n : ℕ) → front_len marks z ≡ n → prefix_len is_name_byte z ≤ 0 → Good z (mark_by n)
good_mark_by z zero e r = wrong_good z P04
good_mark_by z (suc n) e r = λ t w. mark_longest z (suc n) e r (omega arith)

or_split : (a b : Bool) → (a || b) ≡ true → (a ≡ true) ⊎ (b ≡ true)
or_split true b e = inl refl
or_split false b e = inr e

round_opens : (z : Text) → front_len marks (40 ∷ z) ≡ 1
unfolding marks
round_opens z = refl

square_opens : (z : Text) → front_len marks (91 ∷ z) ≡ 1
unfolding marks
square_opens z = refl

round_closes : (z : Text) → front_len marks (41 ∷ z) ≡ 1
unfolding marks
round_closes z = refl

square_closes : (z : Text) → front_len marks (93 ∷ z) ≡ 1
unfolding marks
square_closes z = refl

-- one of two bytes, each a mark of one byte
bracket : (b x y : ℕ) (z : Text) → front_len marks (x ∷ z) ≡ 1 → front_len marks (y ∷ z) ≡ 1 → (b == x || b == y) ≡ true → front_len marks (b ∷ z) ≡ 1
bracket b x y z h k e = elim (or_split (b == x) (b == y) e) [
  | inl i ↦ ap (λ q. front_len marks (q ∷ z)) (eqb-true b x i) ∙ h
  | inr i ↦ ap (λ q. front_len marks (q ∷ z)) (eqb-true b y i) ∙ k
]

good_mark : (b : ℕ) (z : Text) → prefix_len is_name_byte (b ∷ z) ≤ 0 → Good (b ∷ z) (mark_piece (b ∷ z))
good_mark b z r =
    either (b ∷ z) (b == 46 && begins_digit z) (wrong P05) _ (λ e. wrong_good (b ∷ z) P05)
    (λ e. either (b ∷ z) (b == 40 || b == 91) (record { what = Open; len = 1 }) _ (λ k t w. mark_longest (b ∷ z) 1 (bracket b 40 91 z (round_opens z) (square_opens z) k) r (omega arith))
    (λ k. either (b ∷ z) (b == 41 || b == 93) (record { what = Close; len = 1 }) (mark_by (front_len marks (b ∷ z))) (λ l t w. mark_longest (b ∷ z) 1 (bracket b 41 93 z (round_closes z) (square_closes z) l) r (omega arith))
    (λ l. good_mark_by (b ∷ z) (front_len marks (b ∷ z)) refl r)))

good_other : (b : ℕ) (z : Text) → prefix_len is_name_byte (b ∷ z) ≤ 0 → Good (b ∷ z) (other_piece (b ∷ z))
good_other b z r =
    either (b ∷ z) (b == 35) (skip (comment_len (b ∷ z))) _ (λ e t w. absurd cc)
    (λ e. either (b ∷ z) (b == 92) (join_piece (b ∷ z)) (mark_piece (b ∷ z))
    (λ k. either (b ∷ z) (line_end_len (drop 1 (b ∷ z)) == 0) (wrong P04) (skip (1 + line_end_len (drop 1 (b ∷ z)))) (λ l. wrong_good (b ∷ z) P04) (λ l t w. absurd cc))
    (λ k. good_mark b z r))

no_run : (n : ℕ) → nat_lt 0 n ≡ false → n ≤ 0
no_run n h = grind (arith, nat_tests)

good_line : (z : Text) → Good z (line_piece z)
good_line [] = wrong_good [] P04
good_line (b ∷ z) =
    let run = prefix_len is_name_byte (b ∷ z) in
    either (b ∷ z) (nat_lt 0 run) (cond (is_ascii_digit b) (number_piece run (b ∷ z)) (name_piece run (b ∷ z))) _
    (λ e. let some : 1 ≤ run = ltb-true 0 run e in either (b ∷ z) (is_ascii_digit b) (number_piece run (b ∷ z)) (name_piece run (b ∷ z)) (λ d. good_number b z some d) (λ d. good_name b z some d))
    (λ e. either (b ∷ z) (quotes_len (b ∷ z) == 0) (other_piece (b ∷ z)) (literal_piece Str 0 (b ∷ z)) (λ k. good_other b z (no_run run e)) (λ k. good_literal (b ∷ z) Str 0 (b ∷ z) refl))

pub longest : WordsAreLongest
longest z =
    either z (nat_lt 0 (prefix_len is_blank z)) (record { what = Blanks; len = prefix_len is_blank z }) _ (λ e t w. absurd cc)
    (λ e. either z (nat_lt 0 (line_end_len z)) (record { what = LineEnd; len = line_end_len z }) (line_piece z) (λ k t w. absurd cc) (λ k. good_line z))
