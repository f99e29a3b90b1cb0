use Rattle.std.proofs.Common.{◌≡◌, ◌≤◌, ◌+◌, ◌++◌, drop, length}
use Rattle.teal_text.specs.Numbering.{numbers_of, with_names}
use Rattle.teal_text.proofs.numbering.numbers.Given as goal

abbrev pub invariant-loop-name : goal.invariant-loop-name
invariant-loop-name l = record {
  numbers : l.labels ++ numbers_of l.seen (drop l.name-index l.names) ≡ numbers_of l.initial.seen l.names;
  seen : with_names l.seen (drop l.name-index l.names) ≡ with_names l.initial.seen l.names;
  room : length l.seen ≤ length l.initial.seen + l.name-index;
  count : length l.labels ≡ l.name-index;
}
