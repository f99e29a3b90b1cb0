use Rattle.std.proofs.Common.{◌≡◌, ◌++◌, take, map}
use Rattle.teal_line.specs.Operands.{bytes_word}
use Rattle.teal_line.specs.Printing.{spaced}
use Rattle.teal_line.proofs.printing.push_texts.Given as goal

abbrev pub invariant-loop-text : goal.invariant-loop-text
invariant-loop-text l = l.into ≡ l.fn.into ++ spaced (map bytes_word (take l.text-index l.texts))
