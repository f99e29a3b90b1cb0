-- What a source is read as: the one tree that derives its tokens, or the first rule that it breaks, P01 to P06 before P07; and whether
-- it uses a form of the language that is not built yet, which is told behind P07 and before every other rule.
use Rattle.std.specs.Prelude.{◌≡◌, ℕ, ◌⊎◌, true, false, List, Option, None, Some, Result, Ok, Err}
use Rattle.puya_base.specs.declared.source.Refusal.{Refusal}
use Rattle.puya_base.specs.declared.source.SourceFault.{SourceFault}
use Rattle.puya_base.specs.declared.source.SourceFault.TheVariants as stops
use Rattle.py_lexer.specs.declared.token.Token.{Token}
use Rattle.py_lexer.specs.Tokens.{Refuses, read}
use Rattle.py_grammar.specs.declared.module.Module.{Module}
use Rattle.py_grammar.specs.Symbols.{symbols}
use Rattle.py_parser.specs.Answer.{IsOnlyTree, IsNoModule}
use Rattle.unbuilt_names.specs.Unbuilt.{is_unbuilt}
use Rattle.compiler.specs.declared.build.CompileFault.{CompileFault}
use Rattle.compiler.specs.declared.build.CompileFault.TheVariants as fault

abbrev pub fault_of : SourceFault → CompileFault
fault_of (stops.Refused refusal) = fault.Refused refusal
fault_of stops.Memory = fault.Memory

-- the tree derives the tokens of the source, and no other tree does; each form that it uses is built
pub record HasTree (source : List ℕ) (m : Module) : Type 0 where
  pub tokens : List Token
  pub cut : read source ≡ Ok tokens
  pub tree : IsOnlyTree m (symbols source tokens)
  pub known : is_unbuilt source tokens m ≡ false

-- the source has one tree, and uses a form that is not built yet
pub record IsUnbuilt (source : List ℕ) : Type 0 where
  pub tokens : List Token
  pub m : Module
  pub cut : read source ≡ Ok tokens
  pub tree : IsOnlyTree m (symbols source tokens)
  pub unknown : is_unbuilt source tokens m ≡ true

-- P07: no tree derives the tokens of the source, and the refusal stands at the first token with which none goes on
pub record IsUnparsed (source : List ℕ) (refusal : Refusal) : Type 0 where
  pub tokens : List Token
  pub cut : read source ≡ Ok tokens
  pub none : IsNoModule (symbols source tokens) refusal

-- the first rule that the source breaks, of P01 to P07
abbrev pub IsUnread : List ℕ → Refusal → Type 0
IsUnread source refusal = Refuses source refusal ⊎ IsUnparsed source refusal

-- what a source is read as
abbrev pub IsRead : List ℕ → Result Module CompileFault → Type 0
IsRead source (Ok m) = HasTree source m
IsRead source (Err (fault.Refused refusal)) = IsUnread source refusal
IsRead source (Err fault.NotBuilt) = IsUnbuilt source
IsRead source (Err fault.Memory) = Unit {0}
