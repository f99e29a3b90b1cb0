-- What is said of the parser of modules: it takes exactly the symbols that a tree derives, and else stands at the first symbol
-- with which no tree goes on.
use Rattle.std.specs.Prelude.{◌≡◌, List, [], ◌∷◌, ◌++◌}
use Rattle.py_grammar.specs.declared.symbol.Sym.TheVariants as sym
use Rattle.py_grammar.specs.declared.symbol.Symbol.{Symbol}
use Rattle.py_grammar.specs.declared.module.Module.{Module}
use Rattle.py_grammar.specs.Codes.{Code}
use Rattle.py_grammar.specs.Parts.{Part}
use Rattle.py_grammar.specs.Rules.{part}
use Rattle.py_grammar.specs.Grammar.{rule}
use Rattle.py_grammar.specs.Derives.{Derives}
use Rattle.py_grammar.specs.Parser.{first_of}

-- the tree derives the symbols, by the printed grammar
abbrev pub IsModule : Module → List Symbol → Type 0
IsModule m ts = Derives rule Code.Module (part Part.Module) m ts

-- The symbols up to and with the first of rest begin no module, and those before it begin one.
pub record IsFirstHopeless (ts rest : List Symbol) : Type 0 where
  pub seen : List Symbol
  pub before : ts ≡ seen ++ rest
  pub tree : Module
  pub more : List Symbol
  pub goes_on : IsModule tree (seen ++ more)
  pub hopeless : (m : Module) (other : List Symbol) → first_of rest ≡ first_of other → IsModule m (seen ++ other) → ⊥

-- End stands last, and only there
abbrev pub EndsOnce : List Symbol → Type 0
EndsOnce [] = ⊥
EndsOnce (t ∷ []) = t.sym ≡ sym.End
EndsOnce (t ∷ u ∷ ts) = (t.sym ≡ sym.End → ⊥) × EndsOnce (u ∷ ts)
