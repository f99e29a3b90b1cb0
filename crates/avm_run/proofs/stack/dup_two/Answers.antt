use Rattle.std.proofs.Common.{◌≡◌, ◌≤◌, ◌-◌, length, arith, rules}
use Rattle.std.specs.Prelude.{Some, slice_get}
use Rattle.avm_run.proofs.Tops.{dup_two_is}
use Rattle.avm_run.proofs.stack.dup_two.Goals as goal

pub returns : goal.returns
returns c =
    let s = c.args.stack.now in
    let long : 2 ≤ length s = omega arith in
    let first : slice_get s (length s - 2) ≡ Some c.in_ok-deeper.deeper = search rules in
    let second : slice_get s (length s - 1) ≡ Some c.in_ok-upper.upper = search rules in
    dup_two_is s _ _ _ _ long first second c.in_ok-push.ensures.ok c.in_ok-push-2.ensures.ok
