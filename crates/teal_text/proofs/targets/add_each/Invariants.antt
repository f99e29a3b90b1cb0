use Rattle.std.proofs.Common.{◌≡◌, drop, map}
use Rattle.avm_run.specs.Bytes.{place, target}
use Rattle.teal_text.specs.Pieces.{with_places}
use Rattle.teal_text.proofs.targets.add_each.Given as goal

abbrev pub invariant-loop-offset : goal.invariant-loop-offset
invariant-loop-offset l =
    with_places l.places (map place (map (target l.next) (drop l.offset-index l.offsets))) ≡ with_places l.initial.places (map place (map (target l.next) l.offsets))
