-- The grammar in a form in which the next symbol shows how to go on: behind an expression stands maybe a mark that shows what
-- the expression is. Two parts differ from the printed form, and derive the same.
use Rattle.std.specs.Prelude.{None}
use Rattle.py_grammar.specs.declared.symbol.Sym.TheVariants as sym
use Rattle.py_grammar.specs.declared.expression.Tree.TheVariants as tree
use Rattle.py_grammar.specs.Parts.{Part}
use Rattle.py_grammar.specs.Rules.{Table, one, part, ◌~◌, ◌∣◌, maybe, before, ◌⇒◌}
use Rattle.py_grammar.specs.Trees.{place_of, is_name, argument, is_single, subscript}
use Rattle.py_grammar.specs.Grammar.{rule}

unfoldable pub ahead : Table
-- arg : expr ['=' expr], the second only behind a name alone
ahead Part.Argument = before is_name (part Part.Expr) sym.Assign (part Part.Expr) ⇒ argument
-- sub : ':' [expr] | exprs [':' [expr]], the second only behind one expression with no comma
ahead Part.Subscript =
    one sym.Colon ~ maybe (part Part.Expr) ⇒ (λ p x. tree.Slice (place_of x) x None p.1)
    ∣ before is_single (part Part.Exprs) sym.Colon (maybe (part Part.Expr)) ⇒ (λ p x. subscript p.0 p.1 x)
ahead n = rule n
