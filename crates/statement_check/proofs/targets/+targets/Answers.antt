use Rattle.std.proofs.Common.{◌<◌, ◌∙◌, ◌++◌, [], ◌∷◌, map, length, ap, refl, arith}
use Rattle.std.proofs.lemmas.Result.{on_ok_weaker}
use Rattle.source_headers.specs.Headers.{all_clashes}
use Rattle.statement_check.specs.Lines.{block_of, branch_of, stmt_of}
use Rattle.statement_check.specs.Noting.{arm_targets, noted, optional_block, target_local}
use Rattle.statement_check.specs.Targets.{all_targets, first_ones, targets}
use Rattle.statement_check.proofs.Adding as adding
use Rattle.statement_check.proofs.targets.+targets.Goals as goal

pub add_all-loop-stmt-preserved : goal.add_all-loop-stmt-preserved
add_all-loop-stmt-preserved t c =
    let i = c.loop-stmt.stmt-index in
    let low : i < length c.args.stmts.now = omega (arith, c.loop-stmt-test.true, c.loop-stmt.auto.stmt-index-end) in
    let both = adding.stmts_split c.args.stmts.now i c.stmt-item.result low c.stmt-item.is in
    record {
      told = adding.next_told c.args.inside c.loop-stmt.seen c.add_stmt.new.seen _ _ _ both c.in_ok-add_stmt.ensures.seen c.args.names.now c.loop-stmt.told c.add_stmt.new.told _
          c.in_ok-add_stmt.ensures.told c.loop-stmt.invariant.told;
      seen = adding.next_seen c.args.inside c.loop-stmt.seen c.add_stmt.new.seen _ _ _ both c.in_ok-add_stmt.ensures.seen _ c.loop-stmt.invariant.seen;
      locals = adding.next_locals c.args.inside c.loop-stmt.seen c.add_stmt.new.seen _ _ _ both c.in_ok-add_stmt.ensures.seen c.loop-stmt.locals.items c.add_stmt.new.locals.items _
          c.in_ok-add_stmt.ensures.locals c.loop-stmt.invariant.locals;
    }

pub add_branches-loop-branch-preserved : goal.add_branches-loop-branch-preserved
add_branches-loop-branch-preserved t c =
    let i = c.loop-branch.branch-index in
    let low : i < length c.args.branches.now = omega (arith, c.loop-branch-test.true, c.loop-branch.auto.branch-index-end) in
    let both = adding.branches_split c.args.branches.now i c.branch-item.result (block_of c.branch-item.result.block) low c.branch-item.is (adding.branch_block c.branch-item.result) in
    record {
      told = adding.next_told c.args.inside c.loop-branch.seen c.add_block.new.seen _ _ _ both c.in_ok-add_block.ensures.seen c.args.names.now c.loop-branch.told c.add_block.new.told _
          c.in_ok-add_block.ensures.told c.loop-branch.invariant.told;
      seen = adding.next_seen c.args.inside c.loop-branch.seen c.add_block.new.seen _ _ _ both c.in_ok-add_block.ensures.seen _ c.loop-branch.invariant.seen;
      locals = adding.next_locals c.args.inside c.loop-branch.seen c.add_block.new.seen _ _ _ both c.in_ok-add_block.ensures.seen c.loop-branch.locals.items c.add_block.new.locals.items _
          c.in_ok-add_block.ensures.locals c.loop-branch.invariant.locals;
    }

pub add_stmt-returns-in_ok-add_branches-in-If-clause-told :
    goal.add_stmt-returns-in_ok-add_branches-in-If-clause-told
add_stmt-returns-in_ok-add_branches-in-If-clause-told t c =
    let xs = all_targets (block_of c.in-If.block) in
    let ys = arm_targets (map branch_of c.in-If.branches) in
    let whole = ap (λ z. targets (stmt_of z)) c.in-If.is ∙ adding.if_targets c.in-If.field-0 c.in-If.field-1 c.in-If.block c.in-If.branches c.in-If.otherwise in
    let told = c.in_ok-add_branches-in-If.ensures.told ∙ ap (λ bs. c.add_block.new.told ++ all_clashes c.args.names.now (first_ones c.args.inside c.add_block.new.seen (arm_targets (map branch_of bs)))) c.as_slice.ensures in
    let seen = c.in_ok-add_branches-in-If.ensures.seen ∙ ap (λ bs. noted c.args.inside c.add_block.new.seen (arm_targets (map branch_of bs))) c.as_slice.ensures in
    on_ok_weaker c.add_rest.result
    (adding.both_told c.args.inside c.args.seen.now c.add_branches.new.seen (xs ++ ys) (all_targets (optional_block c.in-If.otherwise)) (targets (stmt_of c.args.stmt.now)) whole
    (adding.both_seen c.args.inside c.args.seen.now c.add_block.new.seen xs ys (xs ++ ys) refl c.in_ok-add_block-in-If.ensures.seen c.add_branches.new.seen seen)
    c.args.names.now c.args.told.now c.add_branches.new.told c.add_rest.new.told
    (adding.both_told c.args.inside c.args.seen.now c.add_block.new.seen xs ys (xs ++ ys) refl c.in_ok-add_block-in-If.ensures.seen c.args.names.now c.args.told.now c.add_block.new.told c.add_branches.new.told
    c.in_ok-add_block-in-If.ensures.told told))
    c.add_rest.ensures.told

pub add_stmt-returns-in_ok-add_branches-in-If-clause-seen :
    goal.add_stmt-returns-in_ok-add_branches-in-If-clause-seen
add_stmt-returns-in_ok-add_branches-in-If-clause-seen t c =
    let xs = all_targets (block_of c.in-If.block) in
    let ys = arm_targets (map branch_of c.in-If.branches) in
    let whole = ap (λ z. targets (stmt_of z)) c.in-If.is ∙ adding.if_targets c.in-If.field-0 c.in-If.field-1 c.in-If.block c.in-If.branches c.in-If.otherwise in
    let seen = c.in_ok-add_branches-in-If.ensures.seen ∙ ap (λ bs. noted c.args.inside c.add_block.new.seen (arm_targets (map branch_of bs))) c.as_slice.ensures in
    on_ok_weaker c.add_rest.result
    (adding.both_seen c.args.inside c.args.seen.now c.add_branches.new.seen (xs ++ ys) (all_targets (optional_block c.in-If.otherwise)) (targets (stmt_of c.args.stmt.now)) whole
    (adding.both_seen c.args.inside c.args.seen.now c.add_block.new.seen xs ys (xs ++ ys) refl c.in_ok-add_block-in-If.ensures.seen c.add_branches.new.seen seen)
    c.add_rest.new.seen)
    c.add_rest.ensures.seen

pub add_stmt-returns-in_ok-add_branches-in-If-clause-locals :
    goal.add_stmt-returns-in_ok-add_branches-in-If-clause-locals
add_stmt-returns-in_ok-add_branches-in-If-clause-locals t c =
    let xs = all_targets (block_of c.in-If.block) in
    let ys = arm_targets (map branch_of c.in-If.branches) in
    let whole = ap (λ z. targets (stmt_of z)) c.in-If.is ∙ adding.if_targets c.in-If.field-0 c.in-If.field-1 c.in-If.block c.in-If.branches c.in-If.otherwise in
    let locals = c.in_ok-add_branches-in-If.ensures.locals ∙ ap (λ bs. c.add_block.new.locals.items ++ map target_local (first_ones c.args.inside c.add_block.new.seen (arm_targets (map branch_of bs)))) c.as_slice.ensures in
    let seen = c.in_ok-add_branches-in-If.ensures.seen ∙ ap (λ bs. noted c.args.inside c.add_block.new.seen (arm_targets (map branch_of bs))) c.as_slice.ensures in
    on_ok_weaker c.add_rest.result
    (adding.both_locals c.args.inside c.args.seen.now c.add_branches.new.seen (xs ++ ys) (all_targets (optional_block c.in-If.otherwise)) (targets (stmt_of c.args.stmt.now)) whole
    (adding.both_seen c.args.inside c.args.seen.now c.add_block.new.seen xs ys (xs ++ ys) refl c.in_ok-add_block-in-If.ensures.seen c.add_branches.new.seen seen)
    c.args.locals.now.items c.add_branches.new.locals.items c.add_rest.new.locals.items
    (adding.both_locals c.args.inside c.args.seen.now c.add_block.new.seen xs ys (xs ++ ys) refl c.in_ok-add_block-in-If.ensures.seen c.args.locals.now.items c.add_block.new.locals.items c.add_branches.new.locals.items
    c.in_ok-add_block-in-If.ensures.locals locals))
    c.add_rest.ensures.locals

pub add_stmt-returns-in_ok-add_target-in-For-clause-told :
    goal.add_stmt-returns-in_ok-add_target-in-For-clause-told
add_stmt-returns-in_ok-add_target-in-For-clause-told t c =
    let whole = ap (λ z. targets (stmt_of z)) c.in-For.is ∙ adding.for_targets c.in-For.field-0 c.in-For.word c.in-For.field-2 c.in-For.block in
    on_ok_weaker c.add_block-in-For.result
    (adding.both_told c.args.inside c.args.seen.now c.add_target.new.seen (c.in-For.word ∷ []) (all_targets (block_of c.in-For.block)) (targets (stmt_of c.args.stmt.now)) whole
    c.in_ok-add_target-in-For.ensures.seen c.args.names.now c.args.told.now c.add_target.new.told c.add_block-in-For.new.told c.in_ok-add_target-in-For.ensures.told)
    c.add_block-in-For.ensures.told

pub add_stmt-returns-in_ok-add_target-in-For-clause-locals :
    goal.add_stmt-returns-in_ok-add_target-in-For-clause-locals
add_stmt-returns-in_ok-add_target-in-For-clause-locals t c =
    let whole = ap (λ z. targets (stmt_of z)) c.in-For.is ∙ adding.for_targets c.in-For.field-0 c.in-For.word c.in-For.field-2 c.in-For.block in
    on_ok_weaker c.add_block-in-For.result
    (adding.both_locals c.args.inside c.args.seen.now c.add_target.new.seen (c.in-For.word ∷ []) (all_targets (block_of c.in-For.block)) (targets (stmt_of c.args.stmt.now)) whole
    c.in_ok-add_target-in-For.ensures.seen c.args.locals.now.items c.add_target.new.locals.items c.add_block-in-For.new.locals.items c.in_ok-add_target-in-For.ensures.locals)
    c.add_block-in-For.ensures.locals
