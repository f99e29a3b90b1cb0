use Rattle.std.proofs.Common.{◌++◌, map, sym, ap, ◌∙◌}
use Rattle.puya_base.specs.declared.source.Place.{Place}
use Rattle.awst.specs.declared.statement.StmtKind.TheOpen.{StmtKind-F}
use Rattle.awst.specs.Arms.{arms_called}
use Rattle.awst.specs.Calls.{ex_called, optional_called, picks_called, st_called, sts_called}
use Rattle.awst.specs.Plain.{PlainArm, PlainPick, Statement, all_plain, arm_of, assigned_scalars, kind_of, optional_tree, pick_of, picks_plain, statement_of, stmt_layer, tree_of}
use Rattle.awst.proofs.Calling.{calls_alone, calls_then, if_called, two_calls}
use Rattle.awst.proofs.Equations.{arm-Arm, pick-MatchArm, kind-If, kind-While, kind-Range, kind-Each, kind-Match}
use Rattle.awst.proofs.calls.+calls.Goals as goal

pub push_arm_calls-returns : goal.push_arm_calls-returns
push_arm_calls-returns t c = λ scope a.
    calls_then c.push_body_calls.result c.args.calls.now.items c.push_calls.new.calls.items c.push_body_calls.new.calls.items _ _ _ _ c.in_ok-push_calls.ensures
    (ap (λ l. sts_called (all_plain scope a (map statement_of l))) c.as_slice.ensures)
    (ap (λ (q : PlainArm). ex_called q.condition ++ sts_called (all_plain scope a q.body)) (arm-Arm c.args.arm.now))
    (c.push_body_calls.ensures scope a)

pub push_pick_calls-returns : goal.push_pick_calls-returns
push_pick_calls-returns t c = λ scope a.
    calls_alone c.push_body_calls.result c.args.calls.now.items c.push_body_calls.new.calls.items (sts_called (all_plain scope a (map statement_of c.as_slice.result.now))) _
    (ap (λ (q : PlainPick). sts_called (all_plain scope a q.body)) (pick-MatchArm c.args.pick.now) ∙ ap (λ l. sts_called (all_plain scope a (map statement_of l))) (sym c.as_slice.ensures))
    (c.push_body_calls.ensures scope a)

pub push_kind_calls-returns-in_ok-push_arms_calls-in-If : goal.push_kind_calls-returns-in_ok-push_arms_calls-in-If
push_kind_calls-returns-in_ok-push_arms_calls-in-If t c = λ p scope a.
    calls_then c.push_body_calls.result c.args.calls.now.items c.push_arms_calls.new.calls.items c.push_body_calls.new.calls.items (arms_called scope a (map arm_of c.in-If.arms)) _ _ _
    (c.in_ok-push_arms_calls-in-If.ensures scope a ∙ ap (λ l. c.args.calls.now.items ++ arms_called scope a (map arm_of l)) c.as_slice.ensures)
    (ap (λ l. sts_called (all_plain scope a (map statement_of l))) c.as_slice-in-If.ensures)
    ((ap (λ (k : Place → Statement). st_called ((k p).plain scope a)) (ap kind_of c.in-If.is ∙ kind-If c.in-If.arms c.in-If.rest)) ∙ if_called p scope a (map arm_of c.in-If.arms) (map statement_of c.in-If.rest))
    (c.push_body_calls.ensures scope a)

pub push_kind_calls-returns-in_ok-push_calls-in-While : goal.push_kind_calls-returns-in_ok-push_calls-in-While
push_kind_calls-returns-in_ok-push_calls-in-While t c = λ p scope a.
    let n = assigned_scalars scope (stmt_layer (StmtKind-F.While c.in-While.c (map statement_of c.in-While.body)) p).assigns in
    calls_then c.push_body_calls-in-While.result c.args.calls.now.items c.push_calls-in-While.new.calls.items c.push_body_calls-in-While.new.calls.items _ _ _ _
    c.in_ok-push_calls-in-While.ensures
    (ap (λ l. sts_called (all_plain scope n (map statement_of l))) c.as_slice-in-While.ensures)
    (ap (λ (k : Place → Statement). st_called ((k p).plain scope a)) (ap kind_of c.in-While.is ∙ kind-While c.in-While.c c.in-While.body))
    (c.push_body_calls-in-While.ensures scope n)

pub push_kind_calls-returns-in_ok-push_calls-in-Each : goal.push_kind_calls-returns-in_ok-push_calls-in-Each
push_kind_calls-returns-in_ok-push_calls-in-Each t c = λ p scope a.
    let n = assigned_scalars scope (stmt_layer (StmtKind-F.Each c.in-Each._x c.in-Each.e (map statement_of c.in-Each.body)) p).assigns in
    calls_then c.push_body_calls-in-Each.result c.args.calls.now.items c.push_calls-in-Each.new.calls.items c.push_body_calls-in-Each.new.calls.items _ _ _ _
    c.in_ok-push_calls-in-Each.ensures
    (ap (λ l. sts_called (all_plain scope n (map statement_of l))) c.as_slice-in-Each.ensures)
    (ap (λ (k : Place → Statement). st_called ((k p).plain scope a)) (ap kind_of c.in-Each.is ∙ kind-Each c.in-Each._x c.in-Each.e c.in-Each.body))
    (c.push_body_calls-in-Each.ensures scope n)

pub push_kind_calls-returns-in_ok-push_calls-in-Range : goal.push_kind_calls-returns-in_ok-push_calls-in-Range
push_kind_calls-returns-in_ok-push_calls-in-Range t c = λ p scope a.
    let n = assigned_scalars scope (stmt_layer (StmtKind-F.Range c.in-Range._x c.in-Range.start c.in-Range.stop c.in-Range._step (map statement_of c.in-Range.body)) p).assigns in
    calls_then c.push_body_calls-in-Range.result c.args.calls.now.items c.push_calls-in-Range.new.calls.items c.push_body_calls-in-Range.new.calls.items _ _ _ _
    (two_calls c.args.calls.now.items c.push_optional_calls.new.calls.items c.push_calls-in-Range.new.calls.items (optional_called (optional_tree c.in-Range.start)) (ex_called (tree_of c.in-Range.stop)) c.in_ok-push_optional_calls-in-Range.ensures c.in_ok-push_calls-in-Range.ensures)
    (ap (λ l. sts_called (all_plain scope n (map statement_of l))) c.as_slice-in-Range.ensures)
    (ap (λ (k : Place → Statement). st_called ((k p).plain scope a)) (ap kind_of c.in-Range.is ∙ kind-Range c.in-Range._x c.in-Range.start c.in-Range.stop c.in-Range._step c.in-Range.body))
    (c.push_body_calls-in-Range.ensures scope n)

pub push_kind_calls-returns-in_ok-push_picks_calls-in-Match : goal.push_kind_calls-returns-in_ok-push_picks_calls-in-Match
push_kind_calls-returns-in_ok-push_picks_calls-in-Match t c = λ p scope a.
    calls_then c.push_body_calls-in-Match.result c.args.calls.now.items c.push_picks_calls.new.calls.items c.push_body_calls-in-Match.new.calls.items _ _ _ _
    (two_calls c.args.calls.now.items c.push_calls-in-Match.new.calls.items c.push_picks_calls.new.calls.items (ex_called (tree_of c.in-Match.e)) (picks_called (picks_plain scope a (map pick_of c.in-Match.picks))) c.in_ok-push_calls-in-Match.ensures
    (c.in_ok-push_picks_calls-in-Match.ensures scope a ∙ ap (λ l. c.push_calls-in-Match.new.calls.items ++ picks_called (picks_plain scope a (map pick_of l))) c.as_slice-in-Match.ensures))
    (ap (λ l. sts_called (all_plain scope a (map statement_of l))) c.as_slice-in-Match-2.ensures)
    (ap (λ (k : Place → Statement). st_called ((k p).plain scope a)) (ap kind_of c.in-Match.is ∙ kind-Match c.in-Match.e c.in-Match.picks c.in-Match.rest))
    (c.push_body_calls-in-Match.ensures scope a)
