use Rattle.std.proofs.Common.{◌++◌, [], ◌∷◌, ap, ◌∙◌, arith}
use Rattle.teal_line.specs.Printing.{spaced}
use Rattle.teal_line.proofs.SpacedSteps.{spaced_name}
use Rattle.teal_line.proofs.printing.push_names.Goals as goal

pub loop-name-preserved : goal.loop-name-preserved
loop-name-preserved c =
    spaced_name c.args.into.now c.loop-name.into c.push_name.new.into c.args.names.now c.loop-name.name-index c.name-item.result (omega arith) c.loop-name.invariant
    (c.in_ok-push_name.ensures ∙ ap (λ b. c.loop-name.into ++ spaced (b ∷ [])) c.name-item.is)
