-- What is answered to the symbols of a source: the one tree that derives them, or the place of the first symbol with which no tree
-- goes on.
use Rattle.std.specs.Prelude.{◌≡◌, List, Option, Some, Result, Ok, Err}
use Rattle.puya_base.specs.declared.source.Rule.TheVariants.{P07}
use Rattle.puya_base.specs.declared.source.Refusal.{Refusal}
use Rattle.puya_base.specs.declared.source.SourceFault.{SourceFault}
use Rattle.puya_base.specs.declared.source.SourceFault.TheVariants.{Refused, Memory}
use Rattle.py_grammar.specs.declared.symbol.Symbol.{Symbol}
use Rattle.py_grammar.specs.declared.module.Module.{Module}
use Rattle.py_grammar.specs.Parser.{first_of}
use Rattle.py_grammar.specs.Whole.{IsModule, IsFirstHopeless}

-- the tree derives the symbols, and no other tree does
pub record IsOnlyTree (m : Module) (ts : List Symbol) : Type 0 where
  pub derives : IsModule m ts
  pub only : (other : Module) → IsModule other ts → other ≡ m

-- no tree derives the symbols, and a refusal stands at the first one such that the symbols up to and with it begin no module
pub record IsNoModule (ts : List Symbol) (refusal : Refusal) : Type 0 where
  pub none : (m : Module) → IsModule m ts → ⊥
  pub rest : List Symbol
  pub hopeless : IsFirstHopeless ts rest
  pub symbol : Symbol
  pub first : first_of rest ≡ Some symbol
  pub rule : refusal.rule ≡ P07
  pub place : refusal.place ≡ symbol.place

abbrev pub IsTreeOf : List Symbol → Result Module SourceFault → Type 0
IsTreeOf ts (Ok m) = IsOnlyTree m ts
IsTreeOf ts (Err (Refused refusal)) = IsNoModule ts refusal
IsTreeOf ts (Err Memory) = Unit {0}
