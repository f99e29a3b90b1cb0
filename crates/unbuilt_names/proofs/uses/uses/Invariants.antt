use Rattle.std.proofs.Common.{◌≡◌, ℕ, false, length}
use Rattle.py_lexer.specs.Spans.{InOrder}
use Rattle.unbuilt_names.specs.Unbuilt.{uses}
use Rattle.unbuilt_names.proofs.uses.uses.Given as goal

abbrev pub invariant-loop-left : goal.invariant-loop-left
invariant-loop-left l = record {
  same : uses l.source l.inside l.left ≡ uses l.source false l.tokens;
  from : ℕ;
  order : InOrder from (length l.source) l.left;
}

abbrev pub decreases-loop-left : goal.decreases-loop-left
decreases-loop-left l = length l.left
