use Rattle.std.proofs.Common.{◌≡◌, ◌≤◌, List, [], ◌∷◌, length}
use Rattle.py_parser.specs.Modules.{items}
use Rattle.py_parser.proofs.module.items.Given as goal

abbrev pub invariant-loop-alloc : goal.invariant-loop-alloc
invariant-loop-alloc l = record {
  same : items [] l.fn.tokens ≡ items l.found l.tokens;
  fewer : length l.tokens ≤ length l.fn.tokens;
}

abbrev pub decreases-loop-alloc : goal.decreases-loop-alloc
decreases-loop-alloc l = length l.tokens
