use Rattle.std.proofs.Common.{◌≡◌, ◌+◌, ◌*◌, ◌≤◌, ◌^◌, arith, sym, ◌∙◌}
use Rattle.std.proofs.lemmas.Bool.Decides.{nat_tests}
use Rattle.avm_ops.proofs.Spelling.{last_small, few_fit}
use Rattle.avm_ops.proofs.varint.+number_within.Goals as goal
use Rattle.avm_ops.proofs.varint.+number_within.Goals.{then-left-eq1, else-left-eq1}

pub returns-then-b-lt128-clause-small : goal.returns-then-b-lt128-clause-small
returns-then-b-lt128-clause-small t c =
    elim c.if-left-eq1.branch [
      | then-left-eq1 w ↦ last_small c.from.result c.args.left (omega arith) (omega arith) (λ (h : c.args.left ≡ 1). let k = sym w.value-is ∙ c.if-b-gt1.false in grind (arith, nat_tests, k))
      | else-left-eq1 w ↦ last_small c.from.result c.args.left (omega arith) (omega arith) (λ (h : c.args.left ≡ 1). absurd (omega arith))
    ]

pub overflow_mul-result : goal.overflow_mul-result
overflow_mul-result t c = let p : 128 * c.in_ok-high.high + 128 ≤ 2 ^ 64 = few_fit c.in_ok-high.high c.args.left (omega arith) c.in_ok-high.ensures.small in omega (arith, p)

pub overflow_add-result : goal.overflow_add-result
overflow_add-result t c = let p : 128 * c.in_ok-high.high + 128 ≤ 2 ^ 64 = few_fit c.in_ok-high.high c.args.left (omega arith) c.in_ok-high.ensures.small in omega (arith, p)
