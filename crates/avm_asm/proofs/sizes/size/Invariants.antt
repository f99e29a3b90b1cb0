use Rattle.std.proofs.Common.{◌≡◌, ◌<◌, ◌^◌, ◌+◌, drop}
use Rattle.avm_asm.specs.Listing.{lines_size}
use Rattle.avm_asm.specs.Assembled.{counted, size_of}
use Rattle.avm_asm.proofs.sizes.size.Given as goal

abbrev pub invariant-loop-line : goal.invariant-loop-line
invariant-loop-line l = (counted (l.total + lines_size (drop l.line-index l.line-items)) ≡ size_of l.lines) × (l.total < 2 ^ 64)
