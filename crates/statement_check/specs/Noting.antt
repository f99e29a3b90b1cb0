-- Which names are seen once targets are, the variable that a target is, and the targets of a part of an `if`.
use Rattle.std.specs.Prelude.{ℕ, Bool, ◌&&◌, if◌then◌else◌, List, [], ◌∷◌, ◌++◌, Option, Some, None}
use Rattle.py_grammar.specs.declared.word.Word.{Word}
use Rattle.py_grammar.specs.declared.statement.Block.{Block}
use Rattle.source_names.specs.Things.{is_myself}
use Rattle.source_names.specs.Lookups.{with_name}
use Rattle.meaning_rules.specs.declared.scope.Local.{Local}
use Rattle.meaning_rules.specs.declared.scope.Status.TheVariants as status
use Rattle.statement_check.specs.Lines.{OneBranch, Sts, no_stmts, block_of}
use Rattle.statement_check.specs.Targets.{all_targets}

-- the names seen, in the order of their first sight; `self` is no variable in a member
abbrev pub noted : Bool → List (List ℕ) → List Word → List (List ℕ)
noted inside seen [] = seen
noted inside seen (w ∷ ws) = if inside && is_myself w.name then noted inside seen ws else noted inside (with_name seen w.name) ws

abbrev pub optional_block : Option Block → Sts
optional_block None = no_stmts
optional_block (Some b) = block_of b

abbrev pub arm_targets : List OneBranch → List Word
arm_targets [] = []
arm_targets (a ∷ as_) = all_targets a.block ++ arm_targets as_

abbrev pub with_names : List (List ℕ) → List (List ℕ) → List (List ℕ)
with_names seen [] = seen
with_names seen (n ∷ ns) = with_names (with_name seen n) ns

abbrev pub target_local : Word → Local
target_local w = record { name = w.name; status = status.Unseen }
