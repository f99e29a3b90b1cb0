use Rattle.std.proofs.Common.{◌≡◌, ◌++◌, map, drop}
use Rattle.path_rules.specs.Summaries.{left_alone}
use Rattle.path_rules.proofs.merging.push_left.Given as goal

abbrev pub invariant-loop-t : goal.invariant-loop-t
invariant-loop-t l = l.into ++ map (left_alone l.a l.b) (drop l.t-index l.rest) ≡ l.initial.into ++ map (left_alone l.a l.b) l.rest
