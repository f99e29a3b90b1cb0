-- Logical lines: how pieces are cut into them, which rules a line breaks against the open columns, and the tokens that it gives
-- (Python reference 2.1.1, 2.1.5 to 2.1.8).
use Rattle.std.specs.Prelude.{ℕ, ◌+◌, ◌-◌, Bool, true, false, ◌&&◌, ◌||◌, if◌then◌else◌, ◌==◌, nat_le, nat_lt, List, [], ◌∷◌, ◌++◌, length, take, replicate, Option, Some, None, Result, Ok, Err}
use Rattle.puya_base.specs.declared.source.Rule.{Rule}
use Rattle.puya_base.specs.declared.source.Rule.TheVariants.{P02, P03, P04, P06}
use Rattle.py_lexer.specs.declared.token.TokenKind.{TokenKind}
use Rattle.py_lexer.specs.declared.token.TokenKind.TheVariants.{Mark, Newline, Indent, Dedent, End}
use Rattle.py_lexer.specs.declared.token.Token.{Token}
use Rattle.py_lexer.specs.declared.pieces.What.{What}
use Rattle.py_lexer.specs.declared.pieces.What.TheVariants.{Blanks, Skip, LineEnd, Open, Close, Word, Flawed, Wrong}
use Rattle.py_lexer.specs.declared.layout.Change.{Change}
use Rattle.py_lexer.specs.declared.layout.Change.TheVariants.{Same, Opens, Closes, Astray}
use Rattle.py_lexer.specs.declared.layout.Spot.{Spot}
use Rattle.py_lexer.specs.Layout.{change_at, token_at, first_tab}
use Rattle.py_lexer.specs.Scan.{Placed}

-- a broken rule and the byte where it is broken
pub record Fault : Type 0 where
  pub rule : Rule
  pub at : ℕ

-- What stands in a line before a piece: how many tokens, how many open brackets, the spaces and the first tab of the
-- indentation, and whether anything.
pub record Before : Type 0 where
  pub words : ℕ
  pub depth : ℕ
  pub column : ℕ
  pub tab : Option ℕ
  pub fresh : Bool

-- before a line's first piece
abbrev pub nothing : Before
nothing = record { words = 0; depth = 0; column = 0; tab = None; fresh = true }

abbrev pub is_token : What → Bool
is_token Blanks = false
is_token Skip = false
is_token LineEnd = false
is_token Open = true
is_token Close = true
is_token (Word kind) = true
is_token (Flawed kind flaw) = true
is_token (Wrong rule) = false

abbrev pub kind_of : What → TokenKind
kind_of Blanks = Mark
kind_of Skip = Mark
kind_of LineEnd = Mark
kind_of Open = Mark
kind_of Close = Mark
kind_of (Word kind) = kind
kind_of (Flawed kind flaw) = kind
kind_of (Wrong rule) = Mark

abbrev pub is_blanks : What → Bool
is_blanks Blanks = true
is_blanks Skip = false
is_blanks LineEnd = false
is_blanks Open = false
is_blanks Close = false
is_blanks (Word kind) = false
is_blanks (Flawed kind flaw) = false
is_blanks (Wrong rule) = false

abbrev pub is_line_end : What → Bool
is_line_end Blanks = false
is_line_end Skip = false
is_line_end LineEnd = true
is_line_end Open = false
is_line_end Close = false
is_line_end (Word kind) = false
is_line_end (Flawed kind flaw) = false
is_line_end (Wrong rule) = false

abbrev pub is_open : What → Bool
is_open Blanks = false
is_open Skip = false
is_open LineEnd = false
is_open Open = true
is_open Close = false
is_open (Word kind) = false
is_open (Flawed kind flaw) = false
is_open (Wrong rule) = false

-- a closing bracket without an open one closes none
abbrev pub depth_by : ℕ → What → ℕ
depth_by depth Blanks = depth
depth_by depth Skip = depth
depth_by depth LineEnd = depth
depth_by depth Open = depth + 1
depth_by depth Close = depth - 1
depth_by depth (Word kind) = depth
depth_by depth (Flawed kind flaw) = depth
depth_by depth (Wrong rule) = depth

-- blanks at the line's begin are its indentation
abbrev pub indents : Before → Placed → Bool
indents b p = is_blanks p.piece.what && b.fresh

-- what stands before the piece behind this one
abbrev pub extend : Before → Placed → Before
extend b p = record {
  words = if is_token p.piece.what then b.words + 1 else b.words;
  depth = depth_by b.depth p.piece.what;
  column = if indents b p then p.spaces else b.column;
  tab = if indents b p then first_tab p.spot.at p.spaces p.piece.len else b.tab;
  fresh = false;
}

abbrev pub behind : Before → List Placed → Before
behind b [] = b
behind b (p ∷ ps) = behind (extend b p) ps

-- ---- logical lines

-- a logical line: its pieces, and where and with how many bytes its line end stands; none at the end of the source
pub record Line : Type 0 where
  pub pieces : List Placed
  pub end : Spot
  pub ending : ℕ

-- a line end outside brackets ends the line
abbrev pub ends : Before → Placed → Bool
ends b p = is_line_end p.piece.what && b.depth == 0

abbrev pub put : Placed → List Line → List Line
put p [] = []
put p (l ∷ ls) = record l { pieces = p ∷ l.pieces } ∷ ls

-- the lines of pieces up to the end of the source, of which the first has something before it
abbrev pub lines_from : Before → List Placed → Spot → List Line
lines_from b [] end = record { pieces = []; end = end; ending = 0 } ∷ []
lines_from b (p ∷ ps) end =
    if ends b p then record { pieces = []; end = p.spot; ending = p.piece.len } ∷ lines_from nothing ps end else put p (lines_from (extend b p) ps end)

-- ---- rules, each on a piece, what stands before it in its line, and the open columns

abbrev pub wrong_rule : What → ℕ → List Fault
wrong_rule Blanks at = []
wrong_rule Skip at = []
wrong_rule LineEnd at = []
wrong_rule Open at = []
wrong_rule Close at = []
wrong_rule (Word kind) at = []
wrong_rule (Flawed kind flaw) at = []
wrong_rule (Wrong rule) at = record { rule = rule; at = at } ∷ []

abbrev pub flaw_rule : What → ℕ → List Fault
flaw_rule Blanks at = []
flaw_rule Skip at = []
flaw_rule LineEnd at = []
flaw_rule Open at = []
flaw_rule Close at = []
flaw_rule (Word kind) at = []
flaw_rule (Flawed kind flaw) at = record { rule = P04; at = at + flaw } ∷ []
flaw_rule (Wrong rule) at = []

abbrev pub is_wrong : What → Bool
is_wrong Blanks = false
is_wrong Skip = false
is_wrong LineEnd = false
is_wrong Open = false
is_wrong Close = false
is_wrong (Word kind) = false
is_wrong (Flawed kind flaw) = false
is_wrong (Wrong rule) = true

-- the piece is the line's first that is neither blank nor skipped
abbrev pub is_first : Before → What → Bool
is_first b what = (is_token what || is_wrong what) && b.words == 0

abbrev pub at_tab : Option ℕ → List Fault
at_tab None = []
at_tab (Some tab) = record { rule = P02; at = tab } ∷ []

-- P02: a tab in the indentation
abbrev pub tab_rule : Before → Placed → List Fault
tab_rule b p = if is_first b p.piece.what then at_tab b.tab else []

abbrev pub goes_astray : Bool → Change → Bool
goes_astray first Same = false
goes_astray first Opens = first
goes_astray first (Closes n) = false
goes_astray first Astray = true

-- P03: a column that closes to none open, or a first line with a column above 0
abbrev pub indentation_rule : List ℕ → Bool → Before → Placed → List Fault
indentation_rule columns first b p =
    if is_first b p.piece.what && goes_astray first (change_at columns b.column) then record { rule = P03; at = p.spot.at } ∷ [] else []

abbrev pub opens : Change → Bool
opens Same = false
opens Opens = true
opens (Closes n) = false
opens Astray = false

-- a 21st open column beside 0
abbrev pub too_far_in : List ℕ → Before → Bool
too_far_in columns b = b.words == 0 && (opens (change_at columns b.column) && nat_lt 20 (length columns))

-- P06: a 65th open bracket, a 21st open column beside 0, a 513th token of the line
abbrev pub nesting_rule : List ℕ → Before → Placed → List Fault
nesting_rule columns b p =
    if is_token p.piece.what && (too_far_in columns b || (nat_le 512 b.words || (is_open p.piece.what && nat_le 64 b.depth))) then record { rule = P06; at = p.spot.at } ∷ [] else []

-- the rules that are broken at a piece: P04 and P05 where it is no token, P04 inside a literal
abbrev pub broken_at : List ℕ → Bool → Before → Placed → List Fault
broken_at columns first b p =
    tab_rule b p ++ (indentation_rule columns first b p ++ (wrong_rule p.piece.what p.spot.at ++ (nesting_rule columns b p ++ flaw_rule p.piece.what p.spot.at)))

abbrev pub or_else : List Fault → List Fault → List Fault
or_else [] later = later
or_else (f ∷ fs) later = f ∷ fs

-- The rules that are broken in a line: those at its first piece at which one is. A piece is judged only where all before it is
-- clean.
abbrev pub broken_in : List ℕ → Bool → Before → List Placed → List Fault
broken_in columns first b [] = []
broken_in columns first b (p ∷ ps) = or_else (broken_at columns first b p) (broken_in columns first (extend b p) ps)

-- ---- tokens

abbrev pub shift : Change → Spot → List Token
shift Same s = []
shift Opens s = token_at Indent s 0 ∷ []
shift (Closes n) s = replicate n (token_at Dedent s 0)
shift Astray s = []

-- the tokens that a piece gives: the line's first has Indent or Dedents before it
abbrev pub tokens_at : List ℕ → Before → Placed → List Token
tokens_at columns b p =
    if is_token p.piece.what then (if b.words == 0 then shift (change_at columns b.column) p.spot else []) ++ token_at (kind_of p.piece.what) p.spot p.piece.len ∷ [] else []

abbrev pub tokens_in : List ℕ → Before → List Placed → List Token
tokens_in columns b [] = []
tokens_in columns b (p ∷ ps) = tokens_at columns b p ++ tokens_in columns (extend b p) ps

abbrev pub newline : Before → Spot → ℕ → List Token
newline b end ending = if b.words == 0 then [] else token_at Newline end ending ∷ []

abbrev pub columns_by : Change → List ℕ → ℕ → List ℕ
columns_by Same columns column = columns
columns_by Opens columns column = columns ++ column ∷ []
columns_by (Closes n) columns column = take (length columns - n) columns
columns_by Astray columns column = columns

-- the open columns in a line, which its first token changes
abbrev pub open_columns : List ℕ → Before → List ℕ
open_columns columns b = if b.words == 0 then columns else columns_by (change_at columns b.column) columns b.column

abbrev pub with_front : List Token → Result (List Token) (List Fault) → Result (List Token) (List Fault)
with_front ts (Ok more) = Ok (ts ++ more)
with_front ts (Err faults) = Err faults

abbrev pub unless : List Fault → Result (List Token) (List Fault) → Result (List Token) (List Fault)
unless [] r = r
unless (f ∷ fs) r = Err (f ∷ fs)

-- The tokens of lines, or what the first line breaks that breaks a rule: by the columns that are open before them, whether no
-- line with tokens stands before them, and what stands before the rest of the first one.
abbrev pub laid_from : List ℕ → Bool → Before → List Line → Spot → Result (List Token) (List Fault)
laid_from columns first b [] end = Ok (replicate (length columns - 1) (token_at Dedent end 0) ++ token_at End end 0 ∷ [])
laid_from columns first b (l ∷ ls) end =
    unless (broken_in columns first b l.pieces)
    (with_front (tokens_in columns b l.pieces ++ newline (behind b l.pieces) l.end l.ending)
    (laid_from (open_columns columns (behind b l.pieces)) (first && (behind b l.pieces).words == 0) nothing ls end))

-- the tokens of a source's lines
abbrev pub laid : List Placed → Spot → Result (List Token) (List Fault)
laid pieces end = laid_from (0 ∷ []) true nothing (lines_from nothing pieces end) end
