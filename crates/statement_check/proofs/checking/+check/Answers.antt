use Rattle.std.proofs.Common.{◌≡◌, ℕ, ◌<◌, ◌≤◌, ◌∙◌, ◌++◌, List, Option, IfOk, length, map, refl, ap, sym, subst, arith}
use Rattle.std.proofs.lemmas.Result.{on_ok_weaker}
use Rattle.awst.specs.declared.statement.Stmt.{Stmt}
use Rattle.py_grammar.specs.declared.statement.Branch.{Branch}
use Rattle.source_names.specs.Source.{place_of, tree_of}
use Rattle.meaning_rules.specs.declared.scope.Local.{Local}
use Rattle.meaning_rules.specs.Meanings.{freely}
use Rattle.meaning_rules.specs.Operations.{local_from}
use Rattle.expression_check.specs.Expressions.{judge}
use Rattle.statement_check.specs.Checking.{arms_behind, locals_behind, notes_behind}
use Rattle.statement_check.specs.Lines.{St, block_of, branch_of, stmt_of}
use Rattle.statement_check.specs.Frames.{seen_in}
use Rattle.statement_check.specs.Noting.{optional_block}
use Rattle.statement_check.specs.Statements.{check, checks, for_parts, if_typed, over, seeing}
use Rattle.statement_check.proofs.Arms as arms
use Rattle.statement_check.proofs.Blocks.{branch-is, stmt-While}
use Rattle.statement_check.proofs.Stepping.{next_locals, next_told, next_typed, all_locals, all_told, all_typed}
use Rattle.statement_check.proofs.Turns.{turns_typed}
use Rattle.statement_check.proofs.checking.+check.Goals as goal

pub check_all-loop-stmt-preserved : goal.check_all-loop-stmt-preserved
check_all-loop-stmt-preserved t c =
    let s = seen_in c.args.frame.now in
    let r = c.args.frame.now.gives.now in
    let low : c.loop-stmt.stmt-index < length c.args.stmts.now = omega (arith, c.loop-stmt-test.true, c.loop-stmt.auto.stmt-index-end) in
    record {
      locals = next_locals s r c.args.stmts.now c.loop-stmt.stmt-index c.stmt-item.result low c.stmt-item.is c.loop-stmt.locals
          c.check_stmt.new.locals _ c.in_ok-one.ensures.locals c.loop-stmt.invariant.locals;
      told = next_told s r c.args.stmts.now c.loop-stmt.stmt-index c.stmt-item.result low c.stmt-item.is c.loop-stmt.locals
          c.check_stmt.new.locals c.loop-stmt.into c.check_stmt.new.into _ c.in_ok-one.ensures.locals c.in_ok-one.ensures.told c.loop-stmt.invariant.told;
      typed = next_typed s r c.args.stmts.now c.loop-stmt.stmt-index c.stmt-item.result low c.stmt-item.is c.loop-stmt.locals
          c.check_stmt.new.locals c.loop-stmt.all c.in_ok-one.one c.in_ok-all.all _ c.in_ok-one.ensures.locals c.in_ok-one.ensures.typed c.in_ok-all.ensures c.loop-stmt.invariant.typed;
    }

pub check_all-returns : goal.check_all-returns
check_all-returns t c =
    let s = seen_in c.args.frame.now in
    let r = c.args.frame.now.gives.now in
    let high : length c.args.stmts.now ≤ c.loop-stmt.stmt-index = omega (arith, c.loop-stmt-test.false, c.loop-stmt.auto.stmt-index-end) in
    record {
      locals = all_locals s r c.args.stmts.now c.loop-stmt.stmt-index c.loop-stmt.locals _ high c.loop-stmt.invariant.locals;
      told = all_told s r c.args.stmts.now c.loop-stmt.stmt-index c.loop-stmt.locals c.loop-stmt.into _ high c.loop-stmt.invariant.told;
      typed = all_typed s r c.args.stmts.now c.loop-stmt.stmt-index c.loop-stmt.locals c.loop-stmt.all _ high c.loop-stmt.invariant.typed;
    }

pub check_branches-loop-branch-preserved : goal.check_branches-loop-branch-preserved
check_branches-loop-branch-preserved t c =
    let s = seen_in c.args.frame.now in
    let r = c.args.frame.now.gives.now in
    let x = c.branch-item.result in
    let low : c.loop-branch.branch-index < length c.args.branches.now = omega (arith, c.loop-branch-test.true, c.loop-branch.auto.branch-index-end) in
    record {
      locals = arms.next_arm_locals s r c.args.branches.now c.loop-branch.branch-index x low c.branch-item.is c.loop-branch.locals (tree_of x.test) (block_of x.block) (branch-is x)
          c.check_arm.new.locals _ c.in_ok-all.ensures.locals c.loop-branch.invariant.locals;
      notes = arms.next_arm_notes s r c.args.branches.now c.loop-branch.branch-index x low c.branch-item.is c.loop-branch.locals (tree_of x.test) (block_of x.block) (branch-is x)
          c.check_arm.new.locals c.loop-branch.all.notes c.in_ok-all.all.notes _ c.in_ok-all.ensures.locals c.in_ok-all.ensures.notes c.loop-branch.invariant.notes;
      typed = arms.next_arm_typed s r c.args.branches.now c.loop-branch.branch-index x low c.branch-item.is c.loop-branch.locals (tree_of x.test) (block_of x.block) (branch-is x)
          c.check_arm.new.locals c.loop-branch.all.typed c.in_ok-all.all.typed _ c.in_ok-all.ensures.locals c.in_ok-all.ensures.typed c.loop-branch.invariant.typed;
    }

pub check_stmt-returns-in-While-clause-typed : goal.check_stmt-returns-in-While-clause-typed
check_stmt-returns-in-While-clause-typed t c =
    let s = seen_in c.args.frame.now in
    let r = c.args.frame.now.gives.now in
    subst (λ (z : St). IfOk c.check_while.result (λ ss. ss ≡ (check s r c.args.locals.now z).typed)) (sym (ap stmt_of c.in-While.is ∙ stmt-While c.in-While.place c.in-While.test c.in-While.block))
    c.check_while.ensures.typed

pub check_stmt-returns-in_ok-armed-in-If-2-clause-locals : goal.check_stmt-returns-in_ok-armed-in-If-2-clause-locals
check_stmt-returns-in_ok-armed-in-If-2-clause-locals t c =
    let s = seen_in c.args.frame.now in
    let r = c.args.frame.now.gives.now in
    let locals = c.in_ok-armed-in-If-2.ensures.locals ∙ ap (λ (bs : List Branch). locals_behind s r c.check_arm.new.locals (map branch_of bs)) c.as_slice-branches.ensures in
    on_ok_weaker c.check_rest.result
    (arms.if_locals s r c.args.locals.now c.in-If.place c.in-If.test c.in-If.block c.in-If.branches c.in-If.otherwise c.args.stmt.now c.in-If.is
    c.check_arm.new.locals c.check_branches.new.locals c.check_rest.new.locals c.in_ok-armed-in-If.ensures.locals locals)
    c.check_rest.ensures.locals

pub check_stmt-returns-in_ok-armed-in-If-2-clause-told :
    goal.check_stmt-returns-in_ok-armed-in-If-2-clause-told
check_stmt-returns-in_ok-armed-in-If-2-clause-told t c =
    let s = seen_in c.args.frame.now in
    let r = c.args.frame.now.gives.now in
    let locals = c.in_ok-armed-in-If-2.ensures.locals ∙ ap (λ (bs : List Branch). locals_behind s r c.check_arm.new.locals (map branch_of bs)) c.as_slice-branches.ensures in
    let notes = c.in_ok-armed-in-If-2.ensures.notes ∙ ap (λ (bs : List Branch). c.in_ok-armed-in-If.armed.notes ++ notes_behind s r c.check_arm.new.locals (map branch_of bs)) c.as_slice-branches.ensures in
    on_ok_weaker c.check_rest.result
    (arms.if_told s r c.args.locals.now c.in-If.place c.in-If.test c.in-If.block c.in-If.branches c.in-If.otherwise c.args.stmt.now c.in-If.is
    c.check_arm.new.locals c.check_branches.new.locals c.args.into.now c.check_rest.new.into c.no_arms.result.notes c.in_ok-armed-in-If.armed.notes c.in_ok-armed-in-If-2.armed.notes
    c.in_ok-armed-in-If.ensures.locals locals c.no_arms.ensures.notes c.in_ok-armed-in-If.ensures.notes notes)
    c.check_rest.ensures.told

pub check_stmt-returns-in_ok-armed-in-If-2-clause-typed :
    goal.check_stmt-returns-in_ok-armed-in-If-2-clause-typed
check_stmt-returns-in_ok-armed-in-If-2-clause-typed t c =
    let s = seen_in c.args.frame.now in
    let r = c.args.frame.now.gives.now in
    let locals = c.in_ok-armed-in-If-2.ensures.locals ∙ ap (λ (bs : List Branch). locals_behind s r c.check_arm.new.locals (map branch_of bs)) c.as_slice-branches.ensures in
    let typed = c.in_ok-armed-in-If-2.ensures.typed ∙ ap (λ (bs : List Branch). arms_behind s r c.check_arm.new.locals c.in_ok-armed-in-If.armed.typed (map branch_of bs)) c.as_slice-branches.ensures in
    subst (λ (z : Option (List Stmt)). IfOk c.check_rest.result (λ ss. ss ≡ z))
    (arms.if_done s r c.args.locals.now c.in-If.place c.in-If.test c.in-If.block c.in-If.branches c.in-If.otherwise c.args.stmt.now c.in-If.is
    c.check_arm.new.locals c.check_branches.new.locals c.no_arms.result.typed c.in_ok-armed-in-If.armed.typed c.in_ok-armed-in-If-2.armed.typed
    (if_typed c.in-If.place c.in_ok-armed-in-If-2.armed.typed (checks s r c.check_branches.new.locals (optional_block c.in-If.otherwise)).typed)
    c.in_ok-armed-in-If.ensures.locals locals c.no_arms.ensures.typed c.in_ok-armed-in-If.ensures.typed typed refl)
    c.check_rest.ensures.typed

pub check_for-returns-in_ok-over-in-Some-clause-typed : goal.check_for-returns-in_ok-over-in-Some-clause-typed
check_for-returns-in_ok-over-in-Some-clause-typed t c =
    let s = seen_in c.args.frame.now in
    let r = c.args.frame.now.gives.now in
    let ls = c.args.locals.now in
    let e = tree_of c.args.tree.now in
    let b = block_of c.args.block.now in
    let o = over (place_of e) (judge (seeing s ls) freely e) in
    let number = ap (λ (n : List ℕ). local_from 0 n ls) (sym c.as_str.ensures) ∙ sym c.number_of.ensures ∙ c.in-Some.is in
    subst (λ (z : Option ℕ). IfOk c.check_turns.result (λ ss. ss ≡ (for_parts ls c.args.place c.args.word.now z o (λ (ms : List Local). checks s r ms b)).typed)) (sym number)
    (subst (λ (z : Option (List Stmt)). IfOk c.check_turns.result (λ ss. ss ≡ z))
    (turns_typed s r ls c.args.place c.args.word.now.place c.in-Some.number c.in_ok-over-in-Some.over o c.in_ok-over-in-Some.ensures.over b)
    c.check_turns.ensures.typed)
