use Rattle.std.proofs.Common.{◌≡◌, drop, get_or, Fits, w8, arith, sym, ◌∙◌}
use Rattle.avm_ops.specs.Numbers.{big_endian}
use Rattle.avm_ops.proofs.Digits.{bit_length-bytes, big_endian-none}
use Rattle.avm_ops.proofs.Roots.{bit_length_none}
use Rattle.avm_ops.proofs.bytes.bit_length_of.Goals as goal

pub returns-then-b-ne0 : goal.returns-then-b-ne0
returns-then-b-ne0 c =
    let e : big_endian c.args.bytes.now ≡ big_endian (drop c.loop-i.i c.args.bytes.now) = c.loop-i.invariant in
    let v = bit_length-bytes c.args.bytes.now c.loop-i.i (λ k. let f : Fits w8 (get_or c.args.bytes.now k 0) = c.type_inv.bytes k in omega (arith, f)) (omega arith) (omega arith) in
    rw (e, v) (grind arith)

pub returns : goal.returns
returns c =
    let e : big_endian c.args.bytes.now ≡ big_endian (drop c.loop-i.i c.args.bytes.now) = c.loop-i.invariant in
    sym (bit_length_none (big_endian c.args.bytes.now) (e ∙ big_endian-none c.args.bytes.now c.loop-i.i (omega arith)))
