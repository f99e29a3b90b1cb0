use Rattle.source_headers.proofs.Behind.{on_ok}
use Rattle.source_headers.proofs.ClassLines.{programs_missing}
use Rattle.source_headers.proofs.classes.missing_programs.Goals as goal

pub returns : goal.returns
returns c =
    on_ok c.missing-2.result
    (programs_missing c.args.class.now c.args.into.now c.missing.new.into c.missing-2.new.into
    c.has_approval-has_its_approval.result c.has_clear-has_its_clear.result c.as_slice.result.now c.as_slice-2.result.now
    c.as_slice.ensures c.has_approval-has_its_approval.ensures c.in_ok-missing.ensures c.as_slice-2.ensures c.has_clear-has_its_clear.ensures)
    c.missing-2.ensures
