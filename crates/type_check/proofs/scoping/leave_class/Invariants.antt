use Rattle.std.proofs.Common.{◌≡◌, [], false, length, take}
use Rattle.type_check.proofs.scoping.leave_class.Given as goal

abbrev pub invariant-loop-sight : goal.invariant-loop-sight
invariant-loop-sight l = record {
  names : l.sight.names ≡ l.fn.sight.names;
  constants : l.sight.constants ≡ l.fn.sight.constants;
  functions : take l.functions l.sight.functions ≡ take l.functions l.fn.sight.functions;
  methods : l.sight.methods ≡ [];
  myself : l.sight.myself ≡ false;
}

abbrev pub decreases-loop-sight : goal.decreases-loop-sight
decreases-loop-sight l = length l.sight.functions
