-- Typed statements of the source are sound.
use Rattle.std.proofs.Common.{◌≡◌, ℕ, List, map, Some}
use Rattle.py_grammar.specs.declared.statement.Block.{Block}
use Rattle.awst.specs.declared.statement.Stmt.{Stmt}
use Rattle.awst.specs.Plain.{all_plain, statement_of}
use Rattle.awst.specs.Sound.{Names, Within, AreSoundStatements}
use Rattle.source_names.specs.declared.types.SourceType.{SourceType}
use Rattle.meaning_rules.specs.declared.scope.Scope.{Scope}
use Rattle.meaning_rules.specs.declared.scope.Local.{Local}
use Rattle.statement_check.specs.Lines.{block_of}
use Rattle.statement_check.specs.Statements.{checks}
use Rattle.typing_laws.proofs.Good.{GoodNames, Settled, KeptLocals, Quiet, value_type, IsResultType}
use Rattle.typing_laws.proofs.Checked.{checked_sound}
use Rattle.typing_laws.proofs.Sources.{block_updates}

pub block_sound : (names : Names) (s : Scope) (within : Within) (t : SourceType) → GoodNames names s → within.result ≡ value_type t → IsResultType t
    → (ls : List Local) (b : Block) (ss : List Stmt) → KeptLocals ls → Settled names (checks s (Some t) ls (block_of b)).locals → Quiet within.in_loop (checks s (Some t) ls (block_of b)).notes → (checks s (Some t) ls (block_of b)).typed ≡ Some ss
    → (a : ℕ) → AreSoundStatements names within (all_plain names.variables a (map statement_of ss))
block_sound names s within t g e k ls b ss h m q d a = checked_sound names s within t g e ls (block_of b) ss (block_updates b) h m q d a
