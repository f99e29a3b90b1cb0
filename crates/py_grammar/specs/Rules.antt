-- What the rule of a part is made of. A rule says which symbols stand one behind the other, and which value they make.
use Rattle.std.specs.Prelude.{Bool, true, false, ◌||◌, ◌&&◌, not, List, [], ◌∷◌}
use denote.Enum.Bare.{sameb}
use Rattle.py_grammar.specs.contracts.symbol.Sym.{the_type}
use Rattle.py_grammar.specs.declared.symbol.Sym.{Sym}
use Rattle.py_grammar.specs.Codes.{Code, Value}
use Rattle.py_grammar.specs.Parts.{Part, Made}

infixr 7 ◌~◌
infixr 6 ◌⇒◌
infixr 5 ◌∣◌
-- One constructor for each form that the printed grammar has, and one more.
pub data Rule : Code → Type 0 where
  -- a symbol of a kind
  one : Sym → Rule Code.Symbol
  -- a part
  part : (n : Part) → Rule (Made n)
  -- r s
  ◌~◌ : {A B : Code} → Rule A → Rule B → Rule (Code.Pair A B)
  -- r | s
  ◌∣◌ : {A : Code} → Rule A → Rule A → Rule A
  -- [r]
  maybe : {A : Code} → Rule A → Rule (Code.OptionOf A)
  -- r*
  many : {A : Code} → Rule A → Rule (Code.ListOf A)
  -- r (',' r)* [',']: the values, and whether a comma stands behind the last
  listed : {A : Code} → Rule A → Rule (Code.Pair (Code.ListOf A) Code.Flag)
  -- r, and the value that is made of its own
  ◌⇒◌ : {A B : Code} → Rule A → (Value A → Value B) → Rule B
  -- r | r k s, the second only where what r makes is fit for it; the printed grammar has none
  before : {A B : Code} → (Value A → Bool) → Rule A → Sym → Rule B → Rule (Code.Pair A (Code.OptionOf B))

-- the rule of each part
abbrev pub Table : Type 0
Table = (n : Part) → Rule (Made n)

-- the rule has the forms of the printed grammar alone
abbrev pub is_printed : {A : Code} → Rule A → Bool
is_printed (one k) = true
is_printed (part n) = true
is_printed (r ~ s) = is_printed r && is_printed s
is_printed (r ∣ s) = is_printed r && is_printed s
is_printed (maybe r) = is_printed r
is_printed (many r) = is_printed r
is_printed (listed r) = is_printed r
is_printed (r ⇒ f) = is_printed r
is_printed (before fit r k s) = false

-- `==` on kinds
abbrev pub same : Sym → Sym → Bool
same = sameb the_type

abbrev pub has : Sym → List Sym → Bool
has s [] = false
has s (k ∷ ks) = same s k || has s ks

abbrev pub within : List Sym → List Sym → Bool
within [] ks = true
within (j ∷ js) ks = has j ks && within js ks

-- no kind stands in both
abbrev pub apart : List Sym → List Sym → Bool
apart [] ks = true
apart (j ∷ js) ks = not (has j ks) && apart js ks
