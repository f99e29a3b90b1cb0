use Rattle.path_rules.proofs.NoteSteps.{fault_step, read_step, assign_step, forget_step, if_step, loop_step, break_step, continue_step, return_step, arm_step, nothing_yet, next_note, all_notes, next_arm, all_arms}
use Rattle.path_rules.proofs.digest.+digest.Goals as goal

pub digest_note-returns-in-Broken : goal.digest_note-returns-in-Broken
digest_note-returns-in-Broken t c = fault_step c.passing_summary.result c.args.note.now _ c.in-Broken.is c.passing_summary.ensures

pub digest_note-returns-in-Read : goal.digest_note-returns-in-Read
digest_note-returns-in-Read t c = read_step c.read_summary.result c.args.note.now _ _ c.in-Read.is c.read_summary.ensures

pub digest_note-returns-in-Assign : goal.digest_note-returns-in-Assign
digest_note-returns-in-Assign t c = assign_step c.assign_summary.result c.args.note.now _ c.in-Assign.is c.assign_summary.ensures

pub digest_note-returns-in-Forget : goal.digest_note-returns-in-Forget
digest_note-returns-in-Forget t c = forget_step c.forget_summary.result c.args.note.now _ c.in-Forget.is c.forget_summary.ensures

pub digest_note-returns-in_ok-last-in-If : goal.digest_note-returns-in_ok-last-in-If
digest_note-returns-in_ok-last-in-If t c =
    if_step c.if_summary.result c.args.note.now _ c.as_slice-arms.result.now _ c.as_slice-rest.result.now c.in_ok-parts-in-If.parts.items c.in_ok-last-in-If.last
    c.in-If.is c.as_slice-arms.ensures c.as_slice-rest.ensures c.in_ok-parts-in-If.ensures c.in_ok-last-in-If.ensures c.if_summary.ensures

pub digest_note-returns-in_ok-inside-in-Loop : goal.digest_note-returns-in_ok-inside-in-Loop
digest_note-returns-in_ok-inside-in-Loop t c =
    loop_step c.loop_summary.result c.args.note.now _ c.as_slice-test.result.now _ _ c.as_slice-body.result.now c.in_ok-before-in-Loop.before c.in_ok-inside-in-Loop.inside
    c.in-Loop.is c.as_slice-test.ensures c.as_slice-body.ensures c.in_ok-before-in-Loop.ensures c.in_ok-inside-in-Loop.ensures c.loop_summary.ensures

pub digest_note-returns-in-Break : goal.digest_note-returns-in-Break
digest_note-returns-in-Break t c = break_step c.break_summary.result c.args.note.now _ c.in-Break.is c.break_summary.ensures

pub digest_note-returns-in-Continue : goal.digest_note-returns-in-Continue
digest_note-returns-in-Continue t c = continue_step c.continue_summary.result c.args.note.now _ c.in-Continue.is c.continue_summary.ensures

pub digest_note-returns-in-Return : goal.digest_note-returns-in-Return
digest_note-returns-in-Return t c = return_step c.return_summary.result c.args.note.now c.in-Return.is c.return_summary.ensures

pub digest_arm-returns : goal.digest_arm-returns
digest_arm-returns t c =
    arm_step c.arm_summary.result c.args.arm.now c.in_ok-test.test c.in_ok-body.body c.as_slice-before.result.now c.as_slice-inside.result.now
    c.as_slice-before.ensures c.as_slice-inside.ensures c.in_ok-test.ensures c.in_ok-body.ensures c.arm_summary.ensures

pub digest_arms-loop-arm-init : goal.digest_arms-loop-arm-init
digest_arms-loop-arm-init t c = nothing_yet c.new-parts.result.items _ c.new-parts.ensures.items

pub digest_arms-loop-arm-preserved : goal.digest_arms-loop-arm-preserved
digest_arms-loop-arm-preserved t c =
    next_arm c.loop-arm.parts.items c.put.new.parts.items c.in_ok-one.one c.args.arms.now c.loop-arm.arm-index c.arm-item.result _
    c.loop-arm-test.true c.arm-item.is c.in_ok-put.ensures c.in_ok-one.ensures c.loop-arm.invariant

pub digest_arms-returns : goal.digest_arms-returns
digest_arms-returns t c = all_arms c.loop-arm.parts.items c.args.arms.now c.loop-arm.arm-index c.loop-arm-test.false c.loop-arm.invariant

pub digest-loop-note-init : goal.digest-loop-note-init
digest-loop-note-init t c = nothing_yet c.new-parts.result.items _ c.new-parts.ensures.items

pub digest-loop-note-preserved : goal.digest-loop-note-preserved
digest-loop-note-preserved t c =
    next_note c.loop-note.parts.items c.put.new.parts.items c.in_ok-one.one c.args.notes.now c.loop-note.note-index c.note-item.result _
    c.loop-note-test.true c.note-item.is c.in_ok-put.ensures c.in_ok-one.ensures c.loop-note.invariant

pub digest-returns : goal.digest-returns
digest-returns t c =
    all_notes c.joined.result c.loop-note.parts.items c.args.notes.now c.loop-note.note-index c.loop-note-test.false c.loop-note.invariant c.joined.ensures
