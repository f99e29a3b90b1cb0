use Rattle.std.proofs.Common.{◌≡◌, ◌++◌, map, drop}
use Rattle.source_headers.specs.Headers.{all_clashes}
use Rattle.statement_check.specs.Lines.{branch_of, stmts_of}
use Rattle.statement_check.specs.Noting.{arm_targets, noted, target_local}
use Rattle.statement_check.specs.Targets.{all_targets, first_ones}
use Rattle.statement_check.proofs.targets.+targets.Given as goal

abbrev pub invariant-add_all-loop-stmt : goal.invariant-add_all-loop-stmt
invariant-add_all-loop-stmt l =
    let rest = all_targets (stmts_of (drop l.stmt-index l.stmts)) in
    let whole = all_targets (stmts_of l.stmts) in
    record {
      told : l.told ++ all_clashes l.names (first_ones l.inside l.seen rest) ≡ l.fn.told ++ all_clashes l.names (first_ones l.inside l.fn.seen whole);
      seen : noted l.inside l.seen rest ≡ noted l.inside l.fn.seen whole;
      locals : l.locals.items ++ map target_local (first_ones l.inside l.seen rest) ≡ l.fn.locals.items ++ map target_local (first_ones l.inside l.fn.seen whole);
    }

abbrev pub invariant-add_branches-loop-branch : goal.invariant-add_branches-loop-branch
invariant-add_branches-loop-branch l =
    let rest = arm_targets (map branch_of (drop l.branch-index l.branches)) in
    let whole = arm_targets (map branch_of l.branches) in
    record {
      told : l.told ++ all_clashes l.names (first_ones l.inside l.seen rest) ≡ l.fn.told ++ all_clashes l.names (first_ones l.inside l.fn.seen whole);
      seen : noted l.inside l.seen rest ≡ noted l.inside l.fn.seen whole;
      locals : l.locals.items ++ map target_local (first_ones l.inside l.seen rest) ≡ l.fn.locals.items ++ map target_local (first_ones l.inside l.fn.seen whole);
    }
