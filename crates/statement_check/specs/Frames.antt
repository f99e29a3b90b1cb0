-- A function whose statements are checked, as the scope of the rules.
use Rattle.std.specs.Prelude.{[]}
use Rattle.meaning_rules.specs.declared.scope.Scope.{Scope}
use Rattle.expression_check.specs.Sights.{seen}
use Rattle.statement_check.specs.declared.frame.Frame.{Frame}

-- what it sees, its variables aside
abbrev pub seen_in : Frame → Scope
seen_in f = seen f.sight.now []
