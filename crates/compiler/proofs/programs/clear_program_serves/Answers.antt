use Rattle.compiler.proofs.Clearing.{clears}
use Rattle.compiler.proofs.programs.clear_program_serves.Goals as goal

pub returns : goal.returns
returns c = clears
