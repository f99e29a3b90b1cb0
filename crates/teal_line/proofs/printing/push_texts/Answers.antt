use Rattle.std.proofs.Common.{◌++◌, [], ◌∷◌, ap, ◌∙◌, arith}
use Rattle.teal_line.specs.Operands.{bytes_word}
use Rattle.teal_line.specs.Printing.{spaced}
use Rattle.teal_line.proofs.SpacedSteps.{spaced_step}
use Rattle.teal_line.proofs.printing.push_texts.Goals as goal

pub loop-text-preserved : goal.loop-text-preserved
loop-text-preserved c =
    spaced_step bytes_word c.args.into.now c.loop-text.into c.push_bytes.new.into c.args.texts.now c.loop-text.text-index c.text-item.result (omega arith) c.loop-text.invariant
    (c.in_ok-push_bytes.ensures ∙ ap (λ b. c.loop-text.into ++ spaced (bytes_word b ∷ [])) (c.as_slice.ensures ∙ c.text-item.is))
