use Rattle.teal_text.proofs.Walks.{whole_text}
use Rattle.teal_text.proofs.printing.print.Goals as goal

pub returns : goal.returns
returns c =
    let e = c.bytes-code.ensures.value in
    rw (← e) (whole_text c.bytes-code.result.now c.in_ok-targets.targets c.in_ok-text.text c.push_body.new.text c.push_label.new.text c.in_ok-targets.ensures c.in_ok-text.ensures c.in_ok-push_body.ensures c.in_ok-push_label.ensures)
