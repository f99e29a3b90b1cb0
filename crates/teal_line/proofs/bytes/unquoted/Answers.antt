use Rattle.std.proofs.Common.{◌≡◌, ◌+◌, ◌-◌, ◌++◌, length, take, drop, sym, ap, ◌∙◌, arith, length-drop}
use Rattle.std.specs.Prelude.{option_map}
use Rattle.std.proofs.Math.Seq.{take-length}
use Rattle.teal_line.specs.declared.statement.Flaw.TheVariants as flaw
use Rattle.teal_line.specs.Operands.{unquoted}
use Rattle.teal_line.specs.Reading.{or_flaw}
use Rattle.teal_line.proofs.QuotedSteps.{quoted_more, quoted_stop, quoted_glued}
use Rattle.teal_line.proofs.bytes.unquoted.Goals as goal

pub returns-else-at-text : goal.returns-else-at-text
returns-else-at-text c =
    ap (or_flaw flaw.Bytes) (sym c.loop-at.invariant.same ∙ quoted_glued c.loop-at.bytes c.args.text.now c.loop-at.at c.loop-at-test.true c.if-text-at-eq34.true c.if-at-text.false)

pub loop-at-preserved : goal.loop-at-preserved
loop-at-preserved c =
    let text = c.args.text.now in
    let at = c.loop-at.at in
    let count = c.in-Some.count in
    let whole : take (length text - at) (drop at text) ≡ drop at text = ap (λ q. take q (drop at text)) (sym (length-drop at text)) ∙ take-length (drop at text) in
    let within = rw whole at c.in-Some.ensures.within in
    let pushed = c.in_ok-push-in-Some.ensures.ok in
    record {
      same = ap (λ bytes. option_map (λ rest. bytes ++ rest) (unquoted (drop (at + count) text))) pushed
          ∙ quoted_more c.loop-at.bytes text at count c.in-Some.b c.loop-at-test.true c.if-text-at-eq34.false (sym (rw whole at c.in-Some.ensures.value))
          ∙ c.loop-at.invariant.same;
      within = omega (arith, within, length-drop at text);
    }

pub returns-in-None : goal.returns-in-None
returns-in-None c =
    let text = c.args.text.now in
    let at = c.loop-at.at in
    let whole : take (length text - at) (drop at text) ≡ drop at text = ap (λ q. take q (drop at text)) (sym (length-drop at text)) ∙ take-length (drop at text) in
    ap (or_flaw flaw.Bytes) (sym c.loop-at.invariant.same ∙ quoted_stop c.loop-at.bytes text at c.loop-at-test.true c.if-text-at-eq34.false (sym (rw whole at c.in-None.ensures.value)))
