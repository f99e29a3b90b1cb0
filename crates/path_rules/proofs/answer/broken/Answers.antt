use Rattle.path_rules.proofs.FirstBroken.{broken_gives}
use Rattle.path_rules.proofs.answer.broken.Goals as goal

pub returns : goal.returns
returns c =
    broken_gives c.args.notes.now c.as_slice-listed.result.now c.in_ok-summary.summary c.args.end c.as_slice.result.now c.first_read-read.result c.where_it_holds-missing.result
    c.told_by-told.result c.refused_at.result c.earlier_refusal-first.result c.refused_at-2.result c.earlier_refusal.result
    c.as_slice-listed.ensures c.in_ok-summary.ensures c.as_slice.ensures c.first_read-read.ensures c.where_it_holds-missing.ensures
    c.told_by-told.ensures c.refused_at.ensures c.earlier_refusal-first.ensures c.refused_at-2.ensures c.earlier_refusal.ensures
