use Rattle.compiler.proofs.Serving.{serves}
use Rattle.compiler.proofs.programs.program_serves.Goals as goal

pub returns : goal.returns
returns c = serves
