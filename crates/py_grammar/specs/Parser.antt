-- A parser of one symbol of look-ahead for each rule.
use Rattle.std.specs.Prelude.{ℕ, zero, suc, Bool, true, false, cond, List, [], ◌∷◌, Option, Some, None}
use Rattle.py_grammar.specs.declared.symbol.Sym.{Sym}
use Rattle.py_grammar.specs.declared.symbol.Sym.TheVariants as sym
use Rattle.py_grammar.specs.declared.symbol.Symbol.{Symbol}
use Rattle.py_grammar.specs.Codes.{Code, Value}
use Rattle.py_grammar.specs.Parts.{Part, Made}
use Rattle.py_grammar.specs.Rules.{Rule, one, part, ◌~◌, ◌∣◌, maybe, many, listed, before, ◌⇒◌, same, has}
use Rattle.py_grammar.specs.Sets.{first}
use Rattle.py_grammar.specs.Ahead.{ahead}

-- a value and the symbols behind it, the symbols from the one on at which nothing goes on, or too small a bound
pub data Outcome (A : Type 0) : Type 0 where
  took : A → List Symbol → Outcome A
  stuck : List Symbol → Outcome A
  spent : Outcome A

abbrev pub Parser : Type 0 → Type 0
Parser A = List Symbol → Outcome A

abbrev pub and_then : {A B : Type 0} → Outcome A → (A → Parser B) → Outcome B
and_then (took x i) f = f x i
and_then (stuck i) f = stuck i
and_then spent f = spent

infixl 10 ◌>>=◌
abbrev pub ◌>>=◌ : {A B : Type 0} → Parser A → (A → Parser B) → Parser B
p >>= f = λ i. and_then (p i) f

abbrev pub pure : {A : Type 0} → A → Parser A
pure x = λ i. took x i

infixr 11 ◌<$>◌
abbrev pub ◌<$>◌ : {A B : Type 0} → (A → B) → Parser A → Parser B
f <$> p = p >>= (λ x. pure (f x))

abbrev pub first_of : List Symbol → Option Symbol
first_of [] = None
first_of (t ∷ ts) = Some t

abbrev pub sym_of : Option Symbol → Sym
sym_of None = sym.End
sym_of (Some t) = t.sym

-- the kind of the next symbol
abbrev pub peek : List Symbol → Sym
peek ts = sym_of (first_of ts)

abbrev pub take_symbol : Parser Symbol
take_symbol [] = stuck []
take_symbol (t ∷ ts) = took t ts

abbrev pub refuse : {A : Type 0} → Parser A
refuse = λ i. stuck i

-- takes a symbol of a kind
abbrev pub expect : Sym → Parser Symbol
expect k = λ i. cond (same (peek i) k) (take_symbol i) (stuck i)

-- the first parser where the next symbol is one of these, else the second
abbrev pub either : {A : Type 0} → List Sym → Parser A → Parser A → Parser A
either ks p q = λ i. cond (has (peek i) ks) (p i) (q i)

-- again while the next symbol is one of these; the number bounds the turns
unfoldable pub turns : {A : Type 0} → List Sym → Parser A → ℕ → Parser (List A)
turns ks p zero = λ i. spent
turns ks p (suc n) = either ks (p >>= (λ x. (λ xs. x ∷ xs) <$> turns ks p n)) (pure [])

abbrev pub commas : List Sym
commas = sym.Comma ∷ []

-- values with commas between, and maybe one behind
unfoldable pub items : {A : Type 0} → List Sym → Parser A → ℕ → Parser (List A × Bool)
items ks p zero = λ i. spent
items ks p (suc n) = p >>= (λ x. either commas (expect sym.Comma >>= (λ t. either ks ((λ r. (x ∷ r.0, r.1)) <$> items ks p n) (pure (x ∷ [], true)))) (pure (x ∷ [], false)))

abbrev pub fit_for : Bool → Sym → List Sym
fit_for true k = k ∷ []
fit_for false k = []

abbrev pub Parsers : Type 0
Parsers = (n : Part) → Parser (Value (Made n))

-- the parser of a rule over those of the parts
unfoldable pub parse : Parsers → ℕ → {A : Code} → Rule A → Parser (Value A)
parse e n (one k) = expect k
parse e n (part m) = e m
parse e n (r ~ s) = parse e n r >>= (λ x. (λ y. (x, y)) <$> parse e n s)
parse e n (r ∣ s) = either (first r) (parse e n r) (parse e n s)
parse e n (maybe r) = either (first r) ((λ x. Some x) <$> parse e n r) (pure None)
parse e n (many r) = turns (first r) (parse e n r) n
parse e n (listed r) = items (first r) (parse e n r) n
parse e n (before fit r k s) = parse e n r >>= (λ x. either (fit_for (fit x) k) (expect k >>= (λ t. (λ y. (x, Some y)) <$> parse e n s)) (pure (x, None)))
parse e n (r ⇒ f) = f <$> parse e n r

-- the parsers of all parts; the number bounds how deep they nest
unfoldable pub parsers : ℕ → Parsers
parsers zero m = λ i. spent
parsers (suc n) m = parse (parsers n) n (ahead m)
