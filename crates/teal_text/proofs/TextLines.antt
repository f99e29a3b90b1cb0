-- The lines of a printed text are the version line and the lines of its statements, and they say these statements.
use Rattle.std.proofs.Common.{◌≡◌, ◌≢◌, ℕ, suc, ◌-◌, ◌≤◌, List, [], ◌∷◌, ◌++◌, length, Bool, true, false, Ok, refl, sym, ap, ◌∙◌, arith, append_assoc, codes}
use Rattle.std.specs.Prelude.{◌==◌, bytes_eq, nat_le, Some, None}
use Rattle.std.specs.List.{All, list_any, slice_split}
use Rattle.std.proofs.lemmas.Bool.Decides.{nat_tests}
use Rattle.std.proofs.lemmas.Slice.Eq.{bytes_eq-Decides}
use Rattle.std.proofs.lemmas.List.Elements.{All-nil, All-cons}
use Rattle.std.proofs.lemmas.List.Folds.{list_any_none}
use Rattle.std.proofs.lemmas.List.Splits.{slice_split_at, length-slice_split}
use Rattle.teal_line.specs.declared.statement.Statement.{Statement}
use Rattle.teal_line.specs.Words.{words_of}
use Rattle.teal_line.specs.Printing.{statement_text}
use Rattle.teal_line.specs.ReadsBack.{ReadsBack, IsPrintable}
use Rattle.teal_text.specs.Printing.{line_of, version_line}
use Rattle.teal_text.specs.Pieces.{lines_text}
use Rattle.teal_text.specs.Reading.{ended, is_ascii, line_says, lines_of, statements_in, versioned_by, without_return}
use Rattle.teal_text.proofs.TextSteps.{no_return}
use Rattle.teal_text.proofs.LawChain.{Each}

abbrev is_feed : ℕ → Bool
is_feed b = b == 10

-- a line that can stand before a line feed
record IsLine (line : List ℕ) : Type 0 where
  plain : All (λ b. is_feed b ≡ false) line
  ends : line ≡ without_return line

no_feed : (t : List ℕ) → list_any is_feed t ≡ false → All (λ b. is_feed b ≡ false) t
no_feed [] h = All-nil (λ b. is_feed b ≡ false)
no_feed (b ∷ bs) h = by (is_feed b) refl (no_feed bs)
  where
    by : (v : Bool) → is_feed b ≡ v → (list_any is_feed bs ≡ false → All (λ b. is_feed b ≡ false) bs) → All (λ b. is_feed b ≡ false) (b ∷ bs)
    by true e more = let h' : true ≡ false = rw e at h in cc
    by false e more = let h' : list_any is_feed bs ≡ false = rw e at h in All-cons (λ b. is_feed b ≡ false) b bs e (more h')

printable_is_line : (t : List ℕ) → All IsPrintable t → IsLine t
printable_is_line t h = record {
  plain = λ k d l. let low = (h k d l).0 in grind (arith, nat_tests);
  ends = no_return t (λ l e. let low = (h (length t - 1) 0 (omega arith)).0 in omega (arith, low, e));
}

printable_is_ascii : (t : List ℕ) → All IsPrintable t → is_ascii t ≡ true
printable_is_ascii t h = rw (list_any_none (λ b. nat_le 128 b) t (λ k d l. let high = (h k d l).1 in grind (arith, nat_tests))) refl

split_more : (ls : List (List ℕ)) (l : List ℕ) → 1 ≤ length ls → ended (l ∷ ls) ≡ without_return l ∷ ended ls
split_more [] l h = absurd (omega arith)
split_more (m ∷ ls) l h = refl

line_first : (line rest : List ℕ) → IsLine line → lines_of (line_of line ++ rest) ≡ line ∷ lines_of rest
unfolding lines_of
line_first line rest is =
    let some : 1 ≤ length (slice_split is_feed rest) = omega (arith, length-slice_split is_feed rest) in
    ap (λ t. ended (slice_split is_feed t)) (append_assoc line (10 ∷ []) rest)
    ∙ ap ended (slice_split_at is_feed line 10 rest is.plain refl)
    ∙ split_more (slice_split is_feed rest) line some
    ∙ ap (λ t. t ∷ ended (slice_split is_feed rest)) (sym is.ends)

not_same : (v w : List ℕ) → v ≢ w → bytes_eq v w ≡ false
not_same v w h = by (bytes_eq v w) refl
  where
    by : (b : Bool) → bytes_eq v w ≡ b → bytes_eq v w ≡ false
    by true e = absurd (h ((bytes_eq-Decides v w).0 e))
    by false e = e

versioned_stays : (ws : List (List ℕ)) → versioned_by true ws ≡ true
versioned_stays [] = refl
versioned_stays (w ∷ ws) = refl

statement_line : (n : ℕ) (s : Statement) → ReadsBack s → line_says n true (statement_text s) ≡ Ok (Some s)
unfolding line_says
statement_line n s r =
    let a : is_ascii (statement_text s) ≡ true = printable_is_ascii (statement_text s) r.printable in
    let p : bytes_eq r.first (codes "#pragma") ≡ false = not_same r.first (codes "#pragma") r.no_pragma in
    rw (a, r.words, p, r.value) refl

empty_line : (n : ℕ) → line_says n true [] ≡ Ok None
unfolding line_says words_of
empty_line n = refl

no_words : words_of [] ≡ []
unfolding words_of
no_words = refl

nothing_left : (n : ℕ) → statements_in n true (lines_of []) ≡ Ok []
unfolding statements_in lines_of
nothing_left n = rw (empty_line n, no_words) refl

pub statements_back : (n : ℕ) (ss : List Statement) → Each ReadsBack ss → statements_in n true (lines_of (lines_text ss)) ≡ Ok ss
unfolding statements_in
statements_back n [] h = nothing_left n
statements_back n (s ∷ ss) h =
    ap (statements_in n true) (line_first (statement_text s) (lines_text ss) (printable_is_line (statement_text s) h.0.printable))
    ∙ rw (statement_line n s h.0, versioned_stays (words_of (statement_text s)), statements_back (suc n) ss h.1) refl

version_said : line_says 1 false version_line ≡ Ok None
unfolding line_says words_of
version_said = refl

version_words_stand : versioned_by false (words_of version_line) ≡ true
unfolding words_of
version_words_stand = refl

version_is_line : IsLine version_line
version_is_line = record { plain = no_feed version_line refl; ends = refl }

-- what is printed for statements says these statements
pub text_back : (ss : List Statement) → Each ReadsBack ss → statements_in 1 false (lines_of (line_of version_line ++ lines_text ss)) ≡ Ok ss
unfolding statements_in
text_back ss h =
    ap (statements_in 1 false) (line_first version_line (lines_text ss) version_is_line)
    ∙ rw (version_said, version_words_stand, statements_back 2 ss h) refl
