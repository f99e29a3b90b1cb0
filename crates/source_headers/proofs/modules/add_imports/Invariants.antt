use Rattle.std.proofs.Common.{◌≡◌, ◌++◌, length}
use Rattle.source_headers.specs.Modules as spec
use Rattle.source_headers.specs.Packages.{meant}
use Rattle.source_headers.proofs.modules.add_imports.Given as goal

abbrev pub invariant-loop-rest : goal.invariant-loop-rest
invariant-loop-rest l = l.into ++ spec.all_imported (meant l.origin) l.rest ≡ l.fn.into ++ spec.all_imported (meant l.origin) l.fn.imports

abbrev pub decreases-loop-rest : goal.decreases-loop-rest
decreases-loop-rest l = length l.rest
