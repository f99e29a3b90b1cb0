use Rattle.std.proofs.Common.{◌≡◌, length, map}
use Rattle.py_lexer.specs.Words.{front_len}
use Rattle.py_lexer.proofs.words.front_len.Given as goal

abbrev pub invariant-loop-table : goal.invariant-loop-table
invariant-loop-table l = front_len (map (λ k. k.now) l.table) l.bytes ≡ front_len (map (λ k. k.now) l.initial.table) l.bytes

abbrev pub decreases-loop-table : goal.decreases-loop-table
decreases-loop-table l = length l.table
