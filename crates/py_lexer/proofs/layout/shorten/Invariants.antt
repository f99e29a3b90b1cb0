use Rattle.std.proofs.Common.{◌≡◌, length, take}
use Rattle.py_lexer.proofs.layout.shorten.Given as goal

abbrev pub invariant-loop-list : goal.invariant-loop-list
invariant-loop-list l = take l.left l.list ≡ take l.left l.fn.list

abbrev pub decreases-loop-list : goal.decreases-loop-list
decreases-loop-list l = length l.list
