-- The parser of a rule with as many steps as suffice, and what it is over the parsers of its parts.
use Rattle.std.specs.Prelude.{ℕ, ◌+◌, ◌*◌, Bool, map, List, [], ◌++◌, Some, None, length}
use Rattle.py_grammar.specs.Codes.{Code, Value}
use Rattle.py_grammar.specs.Parts.{Part, Made}
use Rattle.py_grammar.specs.Rules.{Rule, one, part, ◌~◌, ◌∣◌, maybe, many, listed, before, ◌⇒◌}
use Rattle.py_grammar.specs.Sets.{first}
use Rattle.py_grammar.specs.Parser.{Parser, ◌>>=◌, ◌<$>◌, expect, either, fit_for, parse, parsers}

-- the number of steps that suffices for so many symbols: fewer than 32 parts begin one another before a symbol is taken
unfoldable pub enough : ℕ → ℕ
enough n = 32 * (n + 1)

-- the parser of a part
unfoldable pub full : (m : Part) → Parser (Value (Made m))
full m = λ ts. parsers (enough (length ts)) m ts

-- the parser of a rule
unfoldable pub run : {A : Code} → Rule A → Parser (Value A)
run r = λ ts. parse (parsers (enough (length ts))) (enough (length ts)) r ts

-- what was found, and what a repetition finds from here on
unfoldable pub again : {A : Code} → Rule A → List (Value A) → Parser (List (Value A))
again r xs = (λ ys. xs ++ ys) <$> run (many r)

-- what was made of what was found, and what is made of what a repetition finds from here on
unfoldable pub gather : {A : Code} {B : Type 0} → (Value A → B) → Rule A → List B → Parser (List B)
gather f r ys = (λ xs. ys ++ map f xs) <$> run (many r)

-- the values that were found, and those that a list has from here on
unfoldable pub listing : {A : Code} → Rule A → List (Value A) → Parser (List (Value A) × Bool)
listing r xs = (λ p. (xs ++ p.0, p.1)) <$> run (listed r)

-- a rule, and what follows its value
abbrev pub follow : {A : Code} {B : Type 0} → Rule A → (Value A → Parser B) → Parser B
follow (one k) f = expect k >>= f
follow (part m) f = full m >>= f
follow (r ~ s) f = follow r (λ x. follow s (λ y. f (x, y)))
follow (r ∣ s) f = either (first r) (follow r f) (follow s f)
follow (maybe r) f = either (first r) (follow r (λ x. f (Some x))) (f None)
follow (many r) f = again r [] >>= f
follow (listed r) f = listing r [] >>= f
follow (before fit r k s) f = follow r (λ x. either (fit_for (fit x) k) (expect k >>= (λ t. follow s (λ y. f (x, Some y)))) (f (x, None)))
follow (r ⇒ g) f = follow r (λ x. f (g x))
