use Rattle.std.proofs.Common.{refl}
use Rattle.algopy_library.specs.Packages.{package_named}
use Rattle.source_headers.specs.Modules.{name_faults, algopy_faults}
use Rattle.source_headers.proofs.Behind.{told_behind}
use Rattle.source_headers.proofs.modules.algopy_faults.Goals as goal

pub loop-rest-preserved : goal.loop-rest-preserved
loop-rest-preserved c =
    told_behind algopy_faults (name_faults c.import-item.result.name.place (package_named c.import-item.result.name.name)) c.loop-rest.rest.now c.import-item.result
    c.loop-rest.into c.import_name.new.into _ c.import-item.is c.in-len1-up.len_at_least (λ ys. refl) c.in_ok-import_name.ensures c.loop-rest.invariant
