use Rattle.std.proofs.Common.{◌≡◌, ℕ, List, take}
use Rattle.std.specs.HashMap.{get_by_text}
use Rattle.source_names.specs.Things.{entry_named}
use Rattle.source_names.proofs.module_names.ModuleNames.new.Given as goal

abbrev pub invariant-loop-entry : goal.invariant-loop-entry
invariant-loop-entry l = (n : List ℕ) → get_by_text l.things n ≡ entry_named (take l.entry-index l.fn.entries) n
