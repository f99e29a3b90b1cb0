use Rattle.std.proofs.Common.{[], map, refl, arith, ◌∙◌, sym, ap}
use Rattle.puya_base.specs.declared.source.Place.{Place}
use Rattle.awst.specs.Plain.{Statement, kind_of, arm_of, assigned_in, assigned_in_arms, assigned_in_picks, pick_of, statement_of}
use Rattle.awst.specs.Marks.{marked}
use Rattle.awst.proofs.Marking.{marked_next, marked_end, marked_both, marked_none, marked_arms, marked_picks}
use Rattle.awst.proofs.Equations.{kind-If, kind-Match, kind-Drop, kind-Assert, kind-Break, kind-Continue, kind-Return, kind-Fail}
use Rattle.awst.proofs.assigned_rows.+assigned.Goals as goal

pub mark_loop-returns : goal.mark_loop-returns
mark_loop-returns t c = c.mark_body.ensures ∙ ap (marked (assigned_in (map statement_of c.args.body.now))) c.mark.ensures ∙ marked_both _ _ c.args.marks.now

pub mark_body-loop-s-preserved : goal.mark_body-loop-s-preserved
mark_body-loop-s-preserved t c =
    marked_next (λ l. assigned_in (map statement_of l)) (λ s. (statement_of s).assigns) c.args.body.now c.loop-s.s-index c.s-item.result c.loop-s.marks c.mark_stmt.new.marks _
    (λ ys. refl) (omega arith) c.s-item.is c.mark_stmt.ensures c.loop-s.invariant

pub mark_body-returns : goal.mark_body-returns
mark_body-returns t c = marked_end (λ l. assigned_in (map statement_of l)) c.args.body.now c.loop-s.s-index c.loop-s.marks _ refl (omega arith) c.loop-s.invariant

pub mark_arms-loop-arm-preserved : goal.mark_arms-loop-arm-preserved
mark_arms-loop-arm-preserved t c =
    marked_next (λ l. assigned_in_arms (map arm_of l) []) (λ arm. assigned_in (arm_of arm).body) c.args.arms.now c.loop-arm.arm-index c.arm-item.result c.loop-arm.marks c.mark_arm.new.marks _
    (λ ys. refl) (omega arith) c.arm-item.is c.mark_arm.ensures c.loop-arm.invariant

pub mark_arms-returns : goal.mark_arms-returns
mark_arms-returns t c = marked_end (λ l. assigned_in_arms (map arm_of l) []) c.args.arms.now c.loop-arm.arm-index c.loop-arm.marks _ refl (omega arith) c.loop-arm.invariant

pub mark_picks-loop-pick-preserved : goal.mark_picks-loop-pick-preserved
mark_picks-loop-pick-preserved t c =
    marked_next (λ l. assigned_in_picks (map pick_of l) []) (λ pick. assigned_in (pick_of pick).body) c.args.picks.now c.loop-pick.pick-index c.pick-item.result c.loop-pick.marks c.mark_pick.new.marks _
    (λ ys. refl) (omega arith) c.pick-item.is c.mark_pick.ensures c.loop-pick.invariant

pub mark_picks-returns : goal.mark_picks-returns
mark_picks-returns t c = marked_end (λ l. assigned_in_picks (map pick_of l) []) c.args.picks.now c.loop-pick.pick-index c.loop-pick.marks _ refl (omega arith) c.loop-pick.invariant

pub mark_kind-returns-in-If : goal.mark_kind-returns-in-If
mark_kind-returns-in-If t c = λ p.
    marked_arms (map arm_of c.in-If.arms) (map statement_of c.in-If.rest) c.args.marks.now c.mark_arms.new.marks c.mark_body.new.marks
    (c.mark_arms.ensures ∙ ap (λ l. marked (assigned_in_arms (map arm_of l) []) c.args.marks.now) c.as_slice-in-If.ensures)
    (c.mark_body.ensures ∙ ap (λ l. marked (assigned_in (map statement_of l)) c.mark_arms.new.marks) c.as_slice-in-If-2.ensures)
    ∙ ap (λ (k : Place → Statement). marked (k p).assigns c.args.marks.now) (sym (ap kind_of c.in-If.is ∙ kind-If c.in-If.arms c.in-If.rest))

pub mark_kind-returns-in-Match : goal.mark_kind-returns-in-Match
mark_kind-returns-in-Match t c = λ p.
    marked_picks (map pick_of c.in-Match.picks) (map statement_of c.in-Match.rest) c.args.marks.now c.mark_picks.new.marks c.mark_body-in-Match.new.marks
    (c.mark_picks.ensures ∙ ap (λ l. marked (assigned_in_picks (map pick_of l) []) c.args.marks.now) c.as_slice-in-Match.ensures)
    (c.mark_body-in-Match.ensures ∙ ap (λ l. marked (assigned_in (map statement_of l)) c.mark_picks.new.marks) c.as_slice-in-Match-2.ensures)
    ∙ ap (λ (k : Place → Statement). marked (k p).assigns c.args.marks.now) (sym (ap kind_of c.in-Match.is ∙ kind-Match c.in-Match._e c.in-Match.picks c.in-Match.rest))

pub mark_kind-returns-in-Drop : goal.mark_kind-returns-in-Drop
mark_kind-returns-in-Drop t c = λ p. marked_none c.args.marks.now ∙ ap (λ (k : Place → Statement). marked (k p).assigns c.args.marks.now) (sym (ap kind_of c.in-Drop.is ∙ kind-Drop c.in-Drop._e))

pub mark_kind-returns-in-Assert : goal.mark_kind-returns-in-Assert
mark_kind-returns-in-Assert t c = λ p. marked_none c.args.marks.now ∙ ap (λ (k : Place → Statement). marked (k p).assigns c.args.marks.now) (sym (ap kind_of c.in-Assert.is ∙ kind-Assert c.in-Assert._e))

pub mark_kind-returns-in-Break : goal.mark_kind-returns-in-Break
mark_kind-returns-in-Break t c = λ p. marked_none c.args.marks.now ∙ ap (λ (k : Place → Statement). marked (k p).assigns c.args.marks.now) (sym (ap kind_of c.in-Break.is ∙ kind-Break))

pub mark_kind-returns-in-Continue : goal.mark_kind-returns-in-Continue
mark_kind-returns-in-Continue t c = λ p. marked_none c.args.marks.now ∙ ap (λ (k : Place → Statement). marked (k p).assigns c.args.marks.now) (sym (ap kind_of c.in-Continue.is ∙ kind-Continue))

pub mark_kind-returns-in-Return : goal.mark_kind-returns-in-Return
mark_kind-returns-in-Return t c = λ p. marked_none c.args.marks.now ∙ ap (λ (k : Place → Statement). marked (k p).assigns c.args.marks.now) (sym (ap kind_of c.in-Return.is ∙ kind-Return c.in-Return._e))

pub mark_kind-returns-in-Fail : goal.mark_kind-returns-in-Fail
mark_kind-returns-in-Fail t c = λ p. marked_none c.args.marks.now ∙ ap (λ (k : Place → Statement). marked (k p).assigns c.args.marks.now) (sym (ap kind_of c.in-Fail.is ∙ kind-Fail))
