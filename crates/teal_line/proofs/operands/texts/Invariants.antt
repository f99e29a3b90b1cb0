use Rattle.std.proofs.Common.{◌≡◌, ◌++◌, drop, map}
use Rattle.std.specs.List.{All}
use Rattle.teal_line.specs.Counted.{IsCountedText}
use Rattle.teal_line.specs.Reading.{each, said_as, bytes}
use Rattle.teal_line.proofs.operands.texts.Given as goal

abbrev pub invariant-loop-word : goal.invariant-loop-word
invariant-loop-word l = record {
  same : said_as (λ rest. l.texts ++ rest) (each bytes (map (λ w. w.now) (drop l.word-index l.words))) ≡ each bytes (map (λ w. w.now) l.words);
  counted : All IsCountedText l.texts;
}
