-- Which symbols a rule derives with which value, by the table of the rules of parts; one case for each alternative of a form.
use Rattle.std.specs.Prelude.{◌≡◌, Bool, true, false, List, [], ◌∷◌, ◌++◌, Some, None}
use Rattle.py_grammar.specs.declared.symbol.Sym.{Sym}
use Rattle.py_grammar.specs.declared.symbol.Sym.TheVariants as sym
use Rattle.py_grammar.specs.declared.symbol.Symbol.{Symbol}
use Rattle.py_grammar.specs.Codes.{Code, Value}
use Rattle.py_grammar.specs.Parts.{Part, Made}
use Rattle.py_grammar.specs.Rules.{Rule, Table, one, part, ◌~◌, ◌∣◌, maybe, many, listed, before, ◌⇒◌}

mutual
  pub data Derives (g : Table) : (A : Code) → Rule A → Value A → List Symbol → Type 0 where
    a_symbol : (t : Symbol) (k : Sym) → t.sym ≡ k → Derives g Code.Symbol (one k) t (t ∷ [])
    a_part : (n : Part) (x : Value (Made n)) (u : List Symbol) → Derives g (Made n) (g n) x u → Derives g (Made n) (part n) x u
    -- r s
    in_turn : {A B : Code} (r : Rule A) (s : Rule B) (x : Value A) (y : Value B) (u v : List Symbol) → Derives g A r x u → Derives g B s y v → Derives g (Code.Pair A B) (r ~ s) (x, y) (u ++ v)
    -- r | s
    the_first : {A : Code} (r s : Rule A) (x : Value A) (u : List Symbol) → Derives g A r x u → Derives g A (r ∣ s) x u
    the_second : {A : Code} (r s : Rule A) (x : Value A) (u : List Symbol) → Derives g A s x u → Derives g A (r ∣ s) x u
    -- [r]
    absent : {A : Code} (r : Rule A) → Derives g (Code.OptionOf A) (maybe r) None []
    present : {A : Code} (r : Rule A) (x : Value A) (u : List Symbol) → Derives g A r x u → Derives g (Code.OptionOf A) (maybe r) (Some x) u
    repeated : {A : Code} (r : Rule A) (xs : List (Value A)) (u : List Symbol) → DerivesMany g A r xs u → Derives g (Code.ListOf A) (many r) xs u
    in_a_list : {A : Code} (r : Rule A) (xs : List (Value A)) (c : Bool) (u : List Symbol) → DerivesListed g A r xs c u → Derives g (Code.Pair (Code.ListOf A) Code.Flag) (listed r) (xs, c) u
    made_of : {A B : Code} (r : Rule A) (f : Value A → Value B) (x : Value A) (u : List Symbol) → Derives g A r x u → Derives g B (r ⇒ f) (f x) u
    -- r | r k s
    alone : {A B : Code} (fit : Value A → Bool) (r : Rule A) (k : Sym) (s : Rule B) (x : Value A) (u : List Symbol) → Derives g A r x u → Derives g (Code.Pair A (Code.OptionOf B)) (before fit r k s) (x, None) u
    with_more : {A B : Code} (fit : Value A → Bool) (r : Rule A) (k : Sym) (s : Rule B) (x : Value A) (y : Value B) (t : Symbol) (u v : List Symbol) → Derives g A r x u → fit x ≡ true → t.sym ≡ k → Derives g B s y v → Derives g (Code.Pair A (Code.OptionOf B)) (before fit r k s) (x, Some y) (u ++ (t ∷ v))

  -- r*
  pub data DerivesMany (g : Table) : (A : Code) → Rule A → List (Value A) → List Symbol → Type 0 where
    none_left : {A : Code} (r : Rule A) → DerivesMany g A r [] []
    one_more : {A : Code} (r : Rule A) (x : Value A) (xs : List (Value A)) (u v : List Symbol) → Derives g A r x u → DerivesMany g A r xs v → DerivesMany g A r (x ∷ xs) (u ++ v)

  -- r (',' r)* [',']
  pub data DerivesListed (g : Table) : (A : Code) → Rule A → List (Value A) → Bool → List Symbol → Type 0 where
    the_last : {A : Code} (r : Rule A) (x : Value A) (u : List Symbol) → Derives g A r x u → DerivesListed g A r (x ∷ []) false u
    last_comma : {A : Code} (r : Rule A) (x : Value A) (u : List Symbol) (t : Symbol) → Derives g A r x u → t.sym ≡ sym.Comma → DerivesListed g A r (x ∷ []) true (u ++ (t ∷ []))
    more_listed : {A : Code} (r : Rule A) (x : Value A) (xs : List (Value A)) (c : Bool) (u v : List Symbol) (t : Symbol) → Derives g A r x u → t.sym ≡ sym.Comma → DerivesListed g A r xs c v → DerivesListed g A r (x ∷ xs) c (u ++ (t ∷ v))
