use Rattle.std.proofs.Common.{◌≡◌, ◌++◌, drop}
use Rattle.std.specs.Prelude.{if◌then◌else◌}
use Rattle.phi_copies.specs.Paths.{closing, moves_of}
use Rattle.phi_copies.proofs.segment.moves_of.Given as goal

abbrev pub invariant-loop-p : goal.invariant-loop-p
invariant-loop-p l = l.moves.items ++ (if l.saved then closing l.spare l.end (drop l.p-index l.path) else moves_of l.spare l.end (drop l.p-index l.path)) ≡ moves_of l.spare l.end l.path
