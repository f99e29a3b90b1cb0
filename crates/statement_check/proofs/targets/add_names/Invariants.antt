use Rattle.std.proofs.Common.{◌≡◌, ◌++◌, map, length}
use Rattle.source_headers.specs.Headers.{all_clashes}
use Rattle.source_names.specs.Source.{tree_of, exs_of}
use Rattle.statement_check.specs.Noting.{noted, target_local}
use Rattle.statement_check.specs.Targets.{first_ones, names_in}
use Rattle.statement_check.proofs.targets.add_names.Given as goal

abbrev pub invariant-loop-rest : goal.invariant-loop-rest
invariant-loop-rest l =
    let rest = names_in (exs_of (map tree_of l.rest)) in
    let whole = names_in (exs_of (map tree_of l.fn.targets)) in
    record {
      told : l.told ++ all_clashes l.names (first_ones l.inside l.seen rest) ≡ l.fn.told ++ all_clashes l.names (first_ones l.inside l.fn.seen whole);
      seen : noted l.inside l.seen rest ≡ noted l.inside l.fn.seen whole;
      locals : l.locals.items ++ map target_local (first_ones l.inside l.seen rest) ≡ l.fn.locals.items ++ map target_local (first_ones l.inside l.fn.seen whole);
    }

abbrev pub decreases-loop-rest : goal.decreases-loop-rest
decreases-loop-rest l = length l.rest
