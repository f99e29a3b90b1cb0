use Rattle.std.proofs.Common.{refl, ◌∷◌, []}
use Rattle.source_headers.specs.Modules.{imported, all_imported}
use Rattle.source_headers.specs.Packages.{meant}
use Rattle.source_headers.proofs.Behind.{told_behind}
use Rattle.source_headers.proofs.modules.add_imports.Goals as goal

pub loop-rest-preserved : goal.loop-rest-preserved
loop-rest-preserved c =
    told_behind (all_imported (meant c.args.origin)) (imported (meant c.args.origin) c.import-item.result ∷ []) c.loop-rest.rest.now c.import-item.result
    c.loop-rest.into c.add_import.new.into _ c.import-item.is c.in-len1-up.len_at_least (λ ys. refl) c.in_ok-add_import.ensures c.loop-rest.invariant
