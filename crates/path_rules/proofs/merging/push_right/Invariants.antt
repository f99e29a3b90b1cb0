use Rattle.std.proofs.Common.{◌≡◌, ◌++◌, map, drop}
use Rattle.path_rules.specs.Summaries.{right_alone}
use Rattle.path_rules.proofs.merging.push_right.Given as goal

abbrev pub invariant-loop-t : goal.invariant-loop-t
invariant-loop-t l = l.into ++ map (right_alone l.a l.b) (drop l.t-index l.rest) ≡ l.initial.into ++ map (right_alone l.a l.b) l.rest
