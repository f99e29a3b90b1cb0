use Rattle.std.proofs.Common.{◌≡◌, ◌++◌, ◌^◌, drop, map}
use Rattle.teal_line.specs.Reading.{each, said_as, number}
use Rattle.teal_line.proofs.operands.numbers.Given as goal

abbrev pub invariant-loop-word : goal.invariant-loop-word
invariant-loop-word l =
    said_as (λ rest. l.numbers ++ rest) (each (number (2 ^ 64)) (map (λ w. w.now) (drop l.word-index l.words))) ≡ each (number (2 ^ 64)) (map (λ w. w.now) l.words)
