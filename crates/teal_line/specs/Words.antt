-- The words of a line (TEAL text: words are parted by blanks, `//` starts a comment, a word that starts with `"` is a quoted text).
use Rattle.std.specs.Prelude.{ℕ, zero, suc, ◌+◌, ◌==◌, ◌||◌, ◌&&◌, Bool, false, not, if◌then◌else◌, List, [], ◌∷◌, length, take, drop}

abbrev pub is_blank : ℕ → Bool
is_blank b = (b == 32) || (b == 9)

abbrev pub is_comment : List ℕ → Bool
is_comment [] = false
is_comment (a ∷ []) = false
is_comment (a ∷ b ∷ bs) = (a == 47) && (b == 47)

-- up to a blank or a comment
abbrev pub plain_length : List ℕ → ℕ
plain_length [] = 0
plain_length (b ∷ bs) = if is_blank b || is_comment (b ∷ bs) then 0 else suc (plain_length bs)

-- from behind an opening quote to behind its closing one, or to the end; the flag says that a backslash stands right before
abbrev pub quoted_length : Bool → List ℕ → ℕ
quoted_length escaped [] = 0
quoted_length escaped (b ∷ bs) = if not escaped && (b == 34) then 1 else suc (quoted_length (not escaped && (b == 92)) bs)

-- a quoted text goes on to the next blank or comment
abbrev pub quoted_word_length : List ℕ → ℕ
quoted_word_length bs = 1 + (quoted_length false bs + plain_length (drop (quoted_length false bs) bs))

-- the length of the word that starts there
abbrev pub word_length : List ℕ → ℕ
word_length [] = 0
word_length (b ∷ bs) = if b == 34 then quoted_word_length bs else plain_length (b ∷ bs)

-- the words from a place of the line on; each takes at least a byte
abbrev pub words_in : ℕ → List ℕ → List (List ℕ)
words_in zero bs = []
words_in (suc n) [] = []
words_in (suc n) (b ∷ bs) =
    if is_blank b then words_in n bs
    else if is_comment (b ∷ bs) then []
    else take (word_length (b ∷ bs)) (b ∷ bs) ∷ words_in n (drop (word_length (b ∷ bs)) (b ∷ bs))

-- the words of a line
unfoldable pub words_of : List ℕ → List (List ℕ)
words_of line = words_in (length line) line
