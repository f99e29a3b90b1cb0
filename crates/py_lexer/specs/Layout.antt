-- Open columns, and what each piece of a logical line adds to the tokens (Python reference 2.1.5, 2.1.8).
use Rattle.std.specs.Prelude.{◌≡◌, ℕ, zero, suc, ◌+◌, ◌-◌, Bool, true, false, if◌then◌else◌, ◌==◌, nat_le, nat_lt, List, [], ◌∷◌, ◌++◌, length, take, replicate, count_by, Option, Some, None, Result, Ok, Err}
use Rattle.std.specs.List.{list_any}
use Rattle.puya_base.specs.declared.source.Rule.{Rule}
use Rattle.puya_base.specs.declared.source.Rule.TheVariants.{P02, P03, P04, P06}
use Rattle.py_lexer.specs.declared.token.TokenKind.{TokenKind}
use Rattle.py_lexer.specs.declared.token.TokenKind.TheVariants.{Mark, Newline, Indent, Dedent, End}
use Rattle.py_lexer.specs.declared.token.Token.{Token}
use Rattle.py_lexer.specs.declared.pieces.What.{What}
use Rattle.py_lexer.specs.declared.pieces.What.TheVariants.{Blanks, Skip, LineEnd, Open, Close, Word, Flawed, Wrong}
use Rattle.py_lexer.specs.declared.pieces.Piece.{Piece}
use Rattle.py_lexer.specs.declared.layout.Change.{Change}
use Rattle.py_lexer.specs.declared.layout.Change.TheVariants.{Same, Opens, Closes, Astray}
use Rattle.py_lexer.specs.declared.layout.Stop.{Stop}
use Rattle.py_lexer.specs.declared.layout.Stop.TheVariants.{Memory, Broken}
use Rattle.py_lexer.specs.declared.layout.Spot.{Spot}
use Rattle.py_lexer.specs.declared.layout.Layout.{Layout}

abbrev pub change_by : Bool → ℕ → Change
change_by true zero = Same
change_by true (suc n) = Closes (suc n)
change_by false zero = Opens
change_by false (suc n) = Astray

-- what a line's column does to the open columns: by whether it is one of them, and by how many lie above it
abbrev pub change_at : List ℕ → ℕ → Change
change_at columns column = change_by (list_any (λ c. c == column) columns) (count_by (λ c. nat_lt column c) columns)

-- a token of so many bytes
abbrev pub token_at : TokenKind → Spot → ℕ → Token
token_at kind spot n = record { kind = kind; start = spot.at; end = spot.at + n; place = spot.place }

abbrev pub and_then : {A B : Type 0} → Result A Stop → (A → Result B Stop) → Result B Stop
and_then (Ok a) f = f a
and_then (Err e) f = Err e

-- what a call that changes the layout answers: what is due, unless memory fails
abbrev pub Gives : {A : Type 0} → Result A Stop → Layout → Result Layout Stop → Type 0
Gives (Ok a) new due = due ≡ Ok new
Gives (Err Memory) new due = Unit {0}
Gives (Err (Broken rule at)) new due = due ≡ Err (Broken rule at)

-- what a call that gives a value answers
abbrev pub Answers : {A : Type 0} → Result A Stop → Result A Stop → Type 0
Answers (Ok a) due = due ≡ Ok a
Answers (Err Memory) due = Unit {0}
Answers (Err (Broken rule at)) due = due ≡ Err (Broken rule at)

-- nothing is read: a logical line begins
abbrev pub at_first : Layout
at_first = record { tokens = []; columns = 0 ∷ []; depth = 0; words = 0; fresh = true; column = 0; tab = None }

abbrev pub with_token : Token → Layout → Layout
with_token t l = record l { tokens = l.tokens ++ t ∷ [] }

abbrev pub first_tab : ℕ → ℕ → ℕ → Option ℕ
first_tab at spaces n = if nat_lt spaces n then Some (at + spaces) else None

-- the blanks at a logical line's begin
abbrev pub after_indentation : ℕ → ℕ → ℕ → Layout → Layout
after_indentation at spaces n l = record l { column = spaces; tab = first_tab at spaces n }

abbrev pub judge_change : ℕ → Bool → Change → Result Change Stop
judge_change at first Same = Ok Same
judge_change at first Opens = if first then Err (Broken P03 at) else Ok Opens
judge_change at first (Closes n) = Ok (Closes n)
judge_change at first Astray = Err (Broken P03 at)

abbrev pub judge_by : ℕ → Bool → Option ℕ → Change → Result Change Stop
judge_by at first None change = judge_change at first change
judge_by at first (Some tab) change = Err (Broken P02 tab)

-- the indentation, judged at the line's first character that is no blank
abbrev pub judged : ℕ → Layout → Result Change Stop
judged at l = judge_by at (length l.tokens == 0) l.tab (change_at l.columns l.column)

abbrev pub with_column : Layout → Layout
with_column l = record l { columns = l.columns ++ l.column ∷ [] }

abbrev pub after_indent : Spot → Layout → Result Layout Stop
after_indent spot l = if nat_lt 20 (length l.columns) then Err (Broken P06 spot.at) else Ok (with_token (token_at Indent spot 0) (with_column l))

abbrev pub after_dedents : Spot → ℕ → Layout → Layout
after_dedents spot n l = record l { tokens = l.tokens ++ replicate n (token_at Dedent spot 0) }

abbrev pub after_close : Spot → ℕ → Layout → Layout
after_close spot n l = after_dedents spot n (record l { columns = take (length l.columns - n) l.columns })

abbrev pub change_to : Spot → Layout → Change → Result Layout Stop
change_to spot l Same = Ok l
change_to spot l Opens = after_indent spot l
change_to spot l (Closes n) = Ok (after_close spot n l)
change_to spot l Astray = Ok l

abbrev pub after_change : Spot → Layout → Result Layout Stop
after_change spot l = and_then (judged spot.at l) (change_to spot l)

abbrev pub begun : Spot → Layout → Result Layout Stop
begun spot l = if l.words == 0 then after_change spot l else Ok l

abbrev pub with_word : TokenKind → Spot → ℕ → Layout → Result Layout Stop
with_word kind spot n l = if nat_le 512 l.words then Err (Broken P06 spot.at) else Ok (with_token (token_at kind spot n) (record l { words = l.words + 1 }))

-- a token of the line
abbrev pub after_word : TokenKind → Spot → ℕ → Layout → Result Layout Stop
after_word kind spot n l = and_then (begun spot l) (with_word kind spot n)

abbrev pub with_bracket : Spot → Layout → Result Layout Stop
with_bracket spot l = if nat_le 64 l.depth then Err (Broken P06 spot.at) else Ok (record l { depth = l.depth + 1 })

abbrev pub without_bracket : Layout → Result Layout Stop
without_bracket l = Ok (record l { depth = l.depth - 1 })

abbrev pub after_open : Spot → ℕ → Layout → Result Layout Stop
after_open spot n l = and_then (after_word Mark spot n l) (with_bracket spot)

abbrev pub after_shut : Spot → ℕ → Layout → Result Layout Stop
after_shut spot n l = and_then (after_word Mark spot n l) without_bracket

abbrev pub at_line : Layout → Layout
at_line l = record l { words = 0; fresh = true; column = 0; tab = None }

abbrev pub ended : Spot → ℕ → Layout → Layout
ended spot n l = if l.words == 0 then l else with_token (token_at Newline spot n) l

-- a line end outside brackets ends the logical line
abbrev pub after_line_end : Spot → ℕ → Layout → Layout
after_line_end spot n l = if l.depth == 0 then at_line (ended spot n l) else l

abbrev pub stopped : Rule → ℕ → Layout → Result Layout Stop
stopped rule at l = if l.words == 0 then and_then (judged at l) (λ c. Err (Broken rule at)) else Err (Broken rule at)

abbrev pub after_what : Spot → ℕ → ℕ → Bool → Layout → What → Result Layout Stop
after_what spot n spaces fresh l Blanks = Ok (if fresh then after_indentation spot.at spaces n l else l)
after_what spot n spaces fresh l Skip = Ok l
after_what spot n spaces fresh l LineEnd = Ok (after_line_end spot n l)
after_what spot n spaces fresh l Open = after_open spot n l
after_what spot n spaces fresh l Close = after_shut spot n l
after_what spot n spaces fresh l (Word kind) = after_word kind spot n l
after_what spot n spaces fresh l (Flawed kind flaw) = and_then (after_word kind spot n l) (λ m. Err (Broken P04 (spot.at + flaw)))
after_what spot n spaces fresh l (Wrong rule) = stopped rule spot.at l

-- the layout behind a piece that so many spaces lead
unfoldable pub after_piece : Spot → Piece → ℕ → Layout → Result Layout Stop
after_piece spot piece spaces l = after_what spot piece.len spaces l.fresh (record l { fresh = false }) piece.what

-- all tokens, where the source ends
unfoldable pub finished : Spot → Layout → List Token
finished spot l = (ended spot 0 l).tokens ++ (replicate (length l.columns - 1) (token_at Dedent spot 0) ++ token_at End spot 0 ∷ [])
