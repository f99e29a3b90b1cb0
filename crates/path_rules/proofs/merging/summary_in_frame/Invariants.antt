use Rattle.std.proofs.Common.{◌≡◌, ◌++◌, map, drop}
use Rattle.path_rules.specs.Summaries.{touched_in_frame}
use Rattle.path_rules.proofs.merging.summary_in_frame.Given as goal

abbrev pub invariant-loop-t : goal.invariant-loop-t
invariant-loop-t l = l.touched ++ map (touched_in_frame l.frame) (drop l.t-index l.t-items) ≡ map (touched_in_frame l.frame) l.inner.touched
