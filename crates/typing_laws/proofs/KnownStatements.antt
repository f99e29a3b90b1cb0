-- Statements that tell of no broken rule are typed, and the variables that they assign have types.
use Rattle.std.proofs.Common.{◌≡◌, ℕ, true, Bool, List, Some}
use Rattle.py_grammar.specs.declared.statement.Block.{Block}
use Rattle.py_grammar.specs.declared.word.Word.{Word}
use Rattle.std.specs.List.{Contains}
use Rattle.source_names.specs.declared.types.SourceType.{SourceType}
use Rattle.meaning_rules.specs.declared.scope.Scope.{Scope}
use Rattle.meaning_rules.specs.declared.scope.Local.{Local}
use Rattle.meaning_rules.specs.declared.scope.Status.TheVariants as status
use Rattle.meaning_rules.specs.Operations.{local_from}
use Rattle.expression_check.specs.Variables.{status_at}
use Rattle.statement_check.specs.Lines.{Sts, block_of}
use Rattle.statement_check.specs.Statements.{checks}
use Rattle.statement_check.specs.Targets.{all_targets}
use Rattle.typing_laws.proofs.Good.{Quiet}
use Rattle.typing_laws.specs.Naming.{are_named}
use Rattle.typing_laws.proofs.Known.{KnownNames, KnownLocals, KnownTyped}
use Rattle.typing_laws.proofs.KnownVariables.{seen_in}
use Rattle.typing_laws.proofs.KnownUnpacking.{KnownBy}
use Rattle.typing_laws.proofs.KnownChecked.{checks_known}

-- each variable that is a target has a type
abbrev pub TargetsFixed : List Local → List Local → List Word → Type 0
TargetsFixed before after ws = (w : Word) (i : ℕ) → Contains ws w → local_from 0 w.name before ≡ Some i → (status_at after i ≡ status.Unseen) → ⊥

pub record KnownDone (s : Scope) (t : SourceType) (ls : List Local) (b : Sts) : Type 0 where
  pub typed : KnownTyped (checks s (Some t) ls b).typed
  pub locals : KnownLocals (checks s (Some t) ls b).locals
  pub targets : TargetsFixed ls (checks s (Some t) ls b).locals (all_targets b)

pub block_known : (s : Scope) (t : SourceType) (ls : List Local) (b : Block) (inside : Bool) → KnownNames s → KnownLocals ls → are_named (block_of b) ≡ true
    → Quiet inside (checks s (Some t) ls (block_of b)).notes → KnownDone s t ls (block_of b)
block_known s t ls b inside k l n q =
    let r : KnownBy ls (all_targets (block_of b)) (checks s (Some t) ls (block_of b)) = checks_known s t k inside ls (block_of b) n l q in
    record {
      typed = r.typed;
      locals = r.locals;
      targets = λ w i c e. seen_in ls (checks s (Some t) ls (block_of b)).locals (all_targets (block_of b)) w r.targets c i e;
    }
