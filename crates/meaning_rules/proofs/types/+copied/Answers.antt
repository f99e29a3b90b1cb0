use Rattle.meaning_rules.proofs.CopyLaws.{copy_more, copy_all}
use Rattle.meaning_rules.proofs.types.+copied.Goals as goal

pub all_copied-loop-ty-preserved : goal.all_copied-loop-ty-preserved
all_copied-loop-ty-preserved t c =
    copy_more c.args.tys.now c.loop-ty.ty-index c.ty-item.result c.in_ok-one.one c.loop-ty.all c.push.new.self
    c.loop-ty-test.true c.ty-item.is c.in_ok-one.ensures c.loop-ty.invariant c.in_ok-push.ensures.ok

pub all_copied-returns : goal.all_copied-returns
all_copied-returns t c = copy_all c.args.tys.now c.loop-ty.ty-index c.loop-ty.all c.loop-ty-test.false c.loop-ty.invariant
