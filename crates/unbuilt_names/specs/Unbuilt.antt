-- Forms of the language that are not built yet, and whether a source uses one.
use Rattle.std.specs.Prelude.{ℕ, Bool, true, false, ◌&&◌, ◌||◌, not, cond, bytes_eq, codes, map, List, [], ◌∷◌, Option, Some, None}
use Rattle.std.specs.Borrow.{Bor}
use Rattle.py_lexer.specs.declared.token.TokenKind.{TokenKind}
use Rattle.py_lexer.specs.declared.token.TokenKind.TheVariants as kind
use Rattle.py_lexer.specs.declared.token.Token.{Token}
use Rattle.py_grammar.specs.declared.word.Word.{Word}
use Rattle.py_grammar.specs.declared.module.Import.{Import}
use Rattle.py_grammar.specs.declared.module.Item.{Item}
use Rattle.py_grammar.specs.declared.module.Item.TheVariants as item
use Rattle.py_grammar.specs.declared.module.Module.{Module}
use Rattle.py_grammar.specs.Symbols.{text_of}

-- the names of these forms: contracts with ARC-4 methods, and storage
unfoldable pub names : List (List ℕ)
names =
    codes "ARC4Contract" ∷ codes "arc4" ∷ codes "GlobalState" ∷ codes "LocalState" ∷ codes "Box" ∷ codes "BoxMap" ∷ codes "BoxRef"
    ∷ codes "__init__" ∷ []

abbrev pub texts : List (Bor (List ℕ)) → List (List ℕ)
texts ts = map (λ t. t.now) ts

abbrev pub is_one_of : List (List ℕ) → List ℕ → Bool
is_one_of [] name = false
is_one_of (n ∷ ns) name = cond (bytes_eq n name) true (is_one_of ns name)

-- ---- names

-- the words that begin an import (Python reference 7.11)
unfoldable pub import_words : List (List ℕ)
import_words = codes "import" ∷ codes "from" ∷ []

-- an import goes on behind a token: it begins with one of its words, and ends with the line
abbrev pub goes_on : Bool → TokenKind → List ℕ → Bool
goes_on inside kind.Keyword text = is_one_of import_words text || inside
goes_on inside kind.Newline text = false
goes_on inside _ text = inside

-- a name of such a form, outside of imports
abbrev pub is_use : Bool → TokenKind → List ℕ → Bool
is_use inside kind.Name text = not inside && is_one_of names text
is_use inside _ text = false

-- one of the tokens is such a name; it is said whether the first one stands in an import
abbrev pub uses : List ℕ → Bool → List Token → Bool
uses source inside [] = false
uses source inside (t ∷ ts) =
    cond (is_use inside t.kind (text_of source t)) true (uses source (goes_on inside t.kind (text_of source t)) ts)

-- ---- imports

abbrev pub is_other : Option Word → List ℕ → Bool
is_other None name = false
is_other (Some w) name = not (bytes_eq w.name name)

-- the name is brought in under another one
abbrev pub is_renamed : Import → Bool
is_renamed i = is_other i.known_as i.name.name

-- a name of such a form is brought in under another one
abbrev pub renames : List Import → Bool
renames [] = false
renames (i ∷ is) = cond (is_renamed i && is_one_of names i.name.name) true (renames is)

-- `algopy.arc4`
abbrev pub is_arc4 : List Word → Bool
is_arc4 (p ∷ m ∷ []) = bytes_eq p.name (codes "algopy") && bytes_eq m.name (codes "arc4")
is_arc4 _ = false

abbrev pub is_unbuilt_import : Item → Bool
is_unbuilt_import (item.From p ws is) = is_arc4 ws || renames is
is_unbuilt_import (item.FromParen p ws is c) = is_arc4 ws || renames is
is_unbuilt_import _ = false

abbrev pub has_unbuilt_import : List Item → Bool
has_unbuilt_import [] = false
has_unbuilt_import (i ∷ is) = cond (is_unbuilt_import i) true (has_unbuilt_import is)

-- a source, its tokens and its tree use a form that is not built yet
abbrev pub is_unbuilt : List ℕ → List Token → Module → Bool
is_unbuilt source tokens m = uses source false tokens || has_unbuilt_import m.items
