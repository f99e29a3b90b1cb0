use Rattle.path_rules.proofs.NoteSteps.{told_fault, told_read, told_assign, told_forget, told_return, told_break, told_continue, told_if, told_turns, told_whole_arm, told_next_note, told_one_arm, told_all_notes, told_all_arms}
use Rattle.path_rules.proofs.told.+told.Goals as goal

pub told_by_note-returns-in-Broken : goal.told_by_note-returns-in-Broken
told_by_note-returns-in-Broken t c = told_fault c.args.first c.args.inside c.args.note.now _ c.earlier_refusal.result c.in-Broken.is c.earlier_refusal.ensures

pub told_by_note-returns-in-Read : goal.told_by_note-returns-in-Read
told_by_note-returns-in-Read t c = told_read c.args.first c.args.inside c.args.note.now _ _ c.in-Read.is

pub told_by_note-returns-in-Assign : goal.told_by_note-returns-in-Assign
told_by_note-returns-in-Assign t c = told_assign c.args.first c.args.inside c.args.note.now _ c.in-Assign.is

pub told_by_note-returns-in-Forget : goal.told_by_note-returns-in-Forget
told_by_note-returns-in-Forget t c = told_forget c.args.first c.args.inside c.args.note.now _ c.in-Forget.is

pub told_by_note-returns-in-If : goal.told_by_note-returns-in-If
told_by_note-returns-in-If t c =
    told_if c.args.first c.args.inside c.args.note.now _ c.as_slice-arms.result.now _ c.as_slice-rest.result.now c.told_by.result c.told_by_arms-behind_arms.result
    c.in-If.is c.as_slice-arms.ensures c.as_slice-rest.ensures c.told_by_arms-behind_arms.ensures c.told_by.ensures

pub told_by_note-returns-in-Loop : goal.told_by_note-returns-in-Loop
told_by_note-returns-in-Loop t c =
    told_turns c.args.first c.args.inside c.args.note.now _ c.as_slice-test.result.now _ _ c.as_slice-body.result.now c.told_by-in-Loop.result c.told_by-behind_test.result
    c.in-Loop.is c.as_slice-test.ensures c.as_slice-body.ensures c.told_by-behind_test.ensures c.told_by-in-Loop.ensures

pub told_by_note-returns-in-Break : goal.told_by_note-returns-in-Break
told_by_note-returns-in-Break t c = told_break c.args.first c.args.inside c.args.note.now _ c.loop_word.result c.in-Break.is c.loop_word.ensures

pub told_by_note-returns-in-Continue : goal.told_by_note-returns-in-Continue
told_by_note-returns-in-Continue t c = told_continue c.args.first c.args.inside c.args.note.now _ c.loop_word-in-Continue.result c.in-Continue.is c.loop_word-in-Continue.ensures

pub told_by_note-returns-in-Return : goal.told_by_note-returns-in-Return
told_by_note-returns-in-Return t c = told_return c.args.first c.args.inside c.args.note.now c.in-Return.is

pub told_by_arm-returns : goal.told_by_arm-returns
told_by_arm-returns t c =
    told_whole_arm c.args.first c.args.inside c.args.arm.now c.as_slice-before.result.now c.as_slice-body.result.now c.told_by.result c.told_by-behind_test.result
    c.as_slice-before.ensures c.as_slice-body.ensures c.told_by-behind_test.ensures c.told_by.ensures

pub told_by_arms-loop-arm-preserved : goal.told_by_arms-loop-arm-preserved
told_by_arms-loop-arm-preserved t c =
    told_one_arm c.loop-arm.first c.args.inside c.args.arms.now c.loop-arm.arm-index c.arm-item.result c.told_by_arm-first.result _
    c.loop-arm-test.true c.arm-item.is c.told_by_arm-first.ensures c.loop-arm.invariant

pub told_by_arms-returns : goal.told_by_arms-returns
told_by_arms-returns t c = told_all_arms c.loop-arm.first c.args.inside c.args.arms.now c.loop-arm.arm-index _ c.loop-arm-test.false c.loop-arm.invariant

pub told_by-loop-note-preserved : goal.told_by-loop-note-preserved
told_by-loop-note-preserved t c =
    told_next_note c.loop-note.first c.args.inside c.args.notes.now c.loop-note.note-index c.note-item.result c.told_by_note-first.result _ c.loop-note-test.true c.note-item.is c.told_by_note-first.ensures c.loop-note.invariant

pub told_by-returns : goal.told_by-returns
told_by-returns t c = told_all_notes c.loop-note.first c.args.inside c.args.notes.now c.loop-note.note-index _ c.loop-note-test.false c.loop-note.invariant
