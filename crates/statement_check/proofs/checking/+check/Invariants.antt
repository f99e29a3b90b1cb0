use Rattle.std.proofs.Common.{◌≡◌, ◌++◌, ◌+◌, ◌*◌, map, drop}
use Rattle.py_grammar.specs.declared.statement.Stmt.{size-Stmt}
use Rattle.py_grammar.specs.declared.statement.Block.{size-Block}
use Rattle.py_grammar.specs.declared.statement.Block.TheShapes
use Rattle.statement_check.specs.Checking.{arms_behind, locals_behind, notes_behind}
use Rattle.statement_check.specs.Lines.{branch_of, stmts_of}
use Rattle.statement_check.specs.Parting.{joined}
use Rattle.statement_check.specs.Frames.{seen_in}
use Rattle.statement_check.specs.Statements.{checks}
use Rattle.statement_check.proofs.checking.+check.Given as goal
use denote.Param.Weighed.{most}

abbrev pub decreases-check_block : goal.decreases-check_block
decreases-check_block l = 8 * size-Block l.block.now + 0

abbrev pub decreases-check_all : goal.decreases-check_all
decreases-check_all l = 8 * most size-Stmt l.stmts.now + 1

abbrev pub decreases-check_stmt : goal.decreases-check_stmt
decreases-check_stmt l = 8 * size-Stmt l.stmt.now + 0

abbrev pub decreases-check_arm : goal.decreases-check_arm
decreases-check_arm l = 8 * size-Block l.block.now + 1

abbrev pub decreases-check_branches : goal.decreases-check_branches
decreases-check_branches l = 8 * goal.size-check_branches l + 2

abbrev pub decreases-check_rest : goal.decreases-check_rest
decreases-check_rest l = 8 * (TheShapes.weighed-Stmt-If-4).weight _ size-Block l.otherwise.now + 1

abbrev pub decreases-check_while : goal.decreases-check_while
decreases-check_while l = 8 * size-Block l.block.now + 1

abbrev pub decreases-check_for : goal.decreases-check_for
decreases-check_for l = 8 * size-Block l.block.now + 2

abbrev pub decreases-check_turns : goal.decreases-check_turns
decreases-check_turns l = 8 * size-Block l.block.now + 1

abbrev pub decreases-check_bad_turns : goal.decreases-check_bad_turns
decreases-check_bad_turns l = 8 * size-Block l.block.now + 1

abbrev pub invariant-check_all-loop-stmt : goal.invariant-check_all-loop-stmt
invariant-check_all-loop-stmt l =
    let s = seen_in l.frame in
    let rest = checks s l.frame.gives.now l.locals (stmts_of (drop l.stmt-index l.stmts)) in
    let whole = checks s l.frame.gives.now l.fn.locals (stmts_of l.stmts) in
    record {
      locals : rest.locals ≡ whole.locals;
      told : l.into ++ rest.notes ≡ l.fn.into ++ whole.notes;
      typed : joined l.all rest.typed ≡ whole.typed;
    }

abbrev pub invariant-check_branches-loop-branch : goal.invariant-check_branches-loop-branch
invariant-check_branches-loop-branch l =
    let s = seen_in l.frame in
    let rest = map branch_of (drop l.branch-index l.branches) in
    let whole = map branch_of l.branches in
    record {
      locals : locals_behind s l.frame.gives.now l.locals rest ≡ locals_behind s l.frame.gives.now l.fn.locals whole;
      notes : l.all.notes ++ notes_behind s l.frame.gives.now l.locals rest ≡ l.fn.armed.notes ++ notes_behind s l.frame.gives.now l.fn.locals whole;
      typed : arms_behind s l.frame.gives.now l.locals l.all.typed rest ≡ arms_behind s l.frame.gives.now l.fn.locals l.fn.armed.typed whole;
    }
