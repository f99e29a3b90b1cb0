-- Worked rows of the grammar: symbols without text, one a column, and the trees that they make.
use Rattle.std.specs.Prelude.{ℕ, ◌+◌, List, [], ◌∷◌}
use Rattle.puya_base.specs.declared.source.Place.{Place}
use Rattle.py_grammar.specs.declared.symbol.Sym.{Sym}
use Rattle.py_grammar.specs.declared.symbol.Symbol.{Symbol}
use Rattle.py_grammar.specs.declared.word.Word.{Word}
use Rattle.py_grammar.specs.declared.expression.Tree.{Tree}
use Rattle.py_grammar.specs.declared.expression.Tree.TheVariants as tree
use Rattle.py_grammar.specs.declared.statement.Simple.TheVariants as simple
use Rattle.py_grammar.specs.declared.statement.Block.{Block}
use Rattle.py_grammar.specs.declared.statement.Block.TheVariants as block

abbrev pub place : ℕ → Place
place n = record { line = 1; col = n }

-- symbols of these kinds from a column on
abbrev pub from : ℕ → List Sym → List Symbol
from n [] = []
from n (k ∷ ks) = record { sym = k; place = place n; text = [] } ∷ from (n + 1) ks

-- the name, and the number, that stands in a column
abbrev pub word : ℕ → Word
word n = record { name = []; place = place n }

abbrev pub name : ℕ → Tree
name n = tree.Name (word n)

abbrev pub number : ℕ → Tree
number n = tree.Number (record { text = []; place = place n })

-- `pass` on the line of the clause
abbrev pub pass : ℕ → Block
pass n = block.Line (simple.Pass (place n))
