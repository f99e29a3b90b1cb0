use Rattle.std.proofs.Common.{map}
use Rattle.teal_line.proofs.SaidForms.{form_of}
use Rattle.teal_line.proofs.reading.said.Goals as goal

pub returns-clause-form : goal.returns-clause-form
returns-clause-form c = form_of c.args.first.now (map (λ w. w.now) c.args.rest.now) c.line.result c.line.ensures.value c.line.ensures.counted
