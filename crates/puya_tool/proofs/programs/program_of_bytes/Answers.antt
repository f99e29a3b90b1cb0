use Rattle.puya_tool.proofs.WellFormed.{never_refused}
use Rattle.puya_tool.proofs.programs.program_of_bytes.Goals as goal

pub unreachable-requires : goal.unreachable-requires
unreachable-requires c = never_refused _ _ c.in-Err.ensures.due c.requires c.in_default.not-Memory
